-- A scan as the code goes through it: byte by byte over a buffer, literal by literal over assumed ones, and part by part.
use mathlib.Core.Path.{◌≡◌, refl, sym, ap, ◌∙◌}
use mathlib.Core.Logic.{◌≢◌}
use mathlib.Core.Bool.{Bool, true, false, cond, false≢true}
use mathlib.Core.List.{List, [], ◌∷◌, ◌++◌}
use Prim.Native.Nat.{ℕ, zero, suc, ◌+◌, ◌≤◌, ◌<◌}
use native.Mathlib.Nat.{add-zero, zero-add, add_assoc}
use native.Mathlib.Omega.{arith}
use lib.ListN.{length, get_or, drop, drop_of_length-le}
use Rattle.numbers.proofs.Places.{front}
use Rattle.numbers.proofs.Deciding.{bool_case, cond_case}
use Rattle.setups.specs.declared.Seen.{Seen}
use Rattle.setups.specs.declared.Seen.TheVariants.{AllFalse, OneFree, Enough}
use Rattle.setups.specs.Clauses.{push, clauses}
use Rattle.setups.specs.Searching.{see, see_clause, scan}
use Rattle.setups.specs.Ask.{units}
use Rattle.setups.proofs.Truth.{clauses_push}
use Rattle.setups.proofs.CheckLaws.{push_length}
use Rattle.scans.specs.declared.Scanned.{Scanned}
use Rattle.scans.specs.Scans.{decides, clauses_passed, scanned, further}

-- ---- clauses

-- what is seen of a whole clause decides, or the clauses after it do
abbrev or_rest : Seen → Scanned → Scanned
or_rest AllFalse rest = record { seen = AllFalse; passed = 0 }
or_rest (OneFree b) rest = record { seen = OneFree b; passed = 0 }
or_rest Enough rest = further 1 rest

scanned_clause : (values clause : List ℕ) (rest : List (List ℕ))
    → scanned values (clause ∷ rest) ≡ or_rest (see_clause values AllFalse clause) (scanned values rest)
unfolding scanned
scanned_clause values clause rest = go (see_clause values AllFalse clause) refl
  where
    go : (k : Seen) → see_clause values AllFalse clause ≡ k → scanned values (clause ∷ rest) ≡ or_rest k (scanned values rest)
    go AllFalse e = rw (e, scanned, scan, clauses_passed)
    go (OneFree b) e = rw (e, scanned, scan, clauses_passed)
    go Enough e = rw (e, scanned, scan, clauses_passed)

-- a clause that decides stops the scan
rest_stops : (seen : Seen) (k : ℕ) (rest : Scanned) → decides seen ≡ true
    → further k (or_rest seen rest) ≡ record { seen = seen; passed = k }
rest_stops AllFalse k rest e = rw add-zero
rest_stops (OneFree b) k rest e = rw add-zero
rest_stops Enough k rest e = absurd (false≢true e)

-- one that doesn't is passed
undecided : (seen : Seen) → decides seen ≡ false → seen ≡ Enough
undecided AllFalse e = absurd (false≢true (sym e))
undecided (OneFree b) e = absurd (false≢true (sym e))
undecided Enough e = refl

further_further : (k j : ℕ) (s : Scanned) → further k (further j s) ≡ further (k + j) s
further_further k j s = rw add_assoc

-- ---- a buffer

-- the clauses that are left, of whose first one `seen` is known so far
abbrev resumed : List ℕ → Seen → List (List ℕ) → Scanned
resumed values seen [] = record { seen = Enough; passed = 0 }
resumed values seen (clause ∷ rest) = or_rest (see_clause values seen clause) (scanned values rest)

resumed_start : (values : List ℕ) (cs : List (List ℕ)) → resumed values AllFalse cs ≡ scanned values cs
unfolding scanned
resumed_start values [] = refl
resumed_start values (clause ∷ rest) = sym (scanned_clause values clause rest)

resumed_push : (values : List ℕ) (seen : Seen) (b : ℕ) (cs : List (List ℕ))
    → resumed values seen (push b cs) ≡ resumed values (see values seen b) cs
unfolding see_clause
resumed_push values seen b [] = refl
resumed_push values seen b (clause ∷ rest) = refl

-- at place i of the buffer `gone` clauses have been passed, `seen` is known of the next one, and the bytes from there on give the rest
pub record ScansFrom (values bytes : List ℕ) (seen : Seen) (gone i : ℕ) : Type 0 where
  pub inside : i ≤ length bytes
  pub fewer : gone ≤ i
  pub gives : scanned values (clauses bytes) ≡ further gone (resumed values seen (clauses (drop i bytes)))

pub scan_starts : (values bytes : List ℕ) → ScansFrom values bytes AllFalse 0 0
scan_starts values bytes =
    record { inside = omega arith; fewer = omega arith; gives = rw (resumed_start values (clauses bytes), zero-add) }

module _ {values bytes : List ℕ} {seen : Seen} {gone i : ℕ} (at : ScansFrom values bytes seen gone i) where
  end_here : i < length bytes → get_or bytes i 0 ≡ 0
      → scanned values (clauses bytes) ≡ further gone (or_rest seen (scanned values (clauses (drop (i + 1) bytes))))
  unfolding see_clause
  end_here l z = at.gives ∙ rw (front bytes i l, z)

  -- a literal is added to the clause so far
  pub scan_literal : i < length bytes → get_or bytes i 0 ≢ 0 → ScansFrom values bytes (see values seen (get_or bytes i 0)) gone (i + 1)
  scan_literal l n = record {
    inside = omega arith;
    fewer = omega (arith, at.fewer);
    gives = at.gives ∙ rw (front bytes i l, clauses_push (get_or bytes i 0) (drop (i + 1) bytes) n, resumed_push);
  }

  -- a clause ends that doesn't decide
  pub scan_passes : i < length bytes → get_or bytes i 0 ≡ 0 → decides seen ≡ false → ScansFrom values bytes AllFalse (gone + 1) (i + 1)
  scan_passes l z e = record {
    inside = omega arith;
    fewer = omega (arith, at.fewer);
    gives = end_here l z ∙ rw (undecided seen e, resumed_start, further_further);
  }

  -- or one that does
  pub scan_stops : i < length bytes → get_or bytes i 0 ≡ 0 → decides seen ≡ true
      → record { seen = seen; passed = gone } ≡ scanned values (clauses bytes)
  scan_stops l z e = sym (end_here l z ∙ rest_stops seen gone (scanned values (clauses (drop (i + 1) bytes))) e)

-- ---- assumed literals

-- the first i of the assumed literals don't decide
pub record UnitsFrom (values assumed : List ℕ) (i : ℕ) : Type 0 where
  pub inside : i ≤ length assumed
  pub gives : scanned values (units assumed) ≡ further i (scanned values (units (drop i assumed)))

module _ {values assumed : List ℕ} {i : ℕ} (at : UnitsFrom values assumed i) where
  unit_here : i < length assumed
      → scanned values (units assumed) ≡ further i (or_rest (see values AllFalse (get_or assumed i 0)) (scanned values (units (drop (i + 1) assumed))))
  unfolding see_clause
  unit_here l = at.gives ∙ rw (front assumed i l, scanned_clause)

  pub unit_passes : (seen : Seen) → i < length assumed → seen ≡ see values AllFalse (get_or assumed i 0) → decides seen ≡ false
      → UnitsFrom values assumed (i + 1)
  unit_passes seen l e d =
      record { inside = omega arith; gives = unit_here l ∙ rw (sym e ∙ undecided seen d, further_further i 1) }

  pub unit_stops : (seen : Seen) → i < length assumed → seen ≡ see values AllFalse (get_or assumed i 0) → decides seen ≡ true
      → record { seen = seen; passed = i } ≡ scanned values (units assumed)
  unit_stops seen l e d = sym (unit_here l ∙ rw (← e) (rest_stops seen i (scanned values (units (drop (i + 1) assumed))) d))

  pub units_end : length assumed ≤ i → record { seen = Enough; passed = length assumed } ≡ scanned values (units assumed)
  unfolding scanned
  units_end l =
      let e : length assumed ≡ i = omega (arith, at.inside) in
      rw e (sym (at.gives ∙ rw (drop_of_length-le assumed l, add-zero)))

-- ---- part after part

-- the first part decides, or the second does
abbrev or_part : Scanned → Scanned → Scanned
or_part s t = cond (decides s.seen) s (further s.passed t)

rest_part : (seen : Seen) (s t : Scanned) → or_rest seen (or_part s t) ≡ or_part (or_rest seen s) t
rest_part AllFalse s t = refl
rest_part (OneFree b) s t = refl
rest_part Enough s t =
    bool_case (λ (q : Bool). further 1 (cond q s (further s.passed t)) ≡ cond q (further 1 s) (further (1 + s.passed) t)) (decides s.seen)
    (λ e. refl) (λ e. further_further 1 s.passed t)

scanned_append : (values : List ℕ) (cs ds : List (List ℕ)) → scanned values (cs ++ ds) ≡ or_part (scanned values cs) (scanned values ds)
unfolding scanned
scanned_append values [] ds = rw zero-add
scanned_append values (clause ∷ rest) ds =
    let seen = see_clause values AllFalse clause in
    scanned_clause values clause (rest ++ ds) ∙ ap (or_rest seen) (scanned_append values rest ds)
    ∙ rest_part seen (scanned values rest) (scanned values ds) ∙ rw (← scanned_clause values clause rest)

pub part_decides : (values : List ℕ) (cs ds : List (List ℕ)) (s : Scanned) → s ≡ scanned values cs → decides s.seen ≡ true
    → s ≡ scanned values (cs ++ ds)
part_decides values cs ds s e d = rw (scanned_append values cs ds, ← e, d)

pub part_passes : (values : List ℕ) (cs ds : List (List ℕ)) (s t after : Scanned) → s ≡ scanned values cs → decides s.seen ≡ false
    → t ≡ scanned values ds → after ≡ further s.passed t → after ≡ scanned values (cs ++ ds)
part_passes values cs ds s t after e d f g = g ∙ rw (f, scanned_append values cs ds, ← e, d)

-- ---- a clause's number

passed_most : (values : List ℕ) (cs : List (List ℕ)) → clauses_passed values cs ≤ length cs
unfolding clauses_passed
passed_most values [] = omega arith
passed_most values (clause ∷ rest) =
    let more = passed_most values rest in
    cond_case (λ (k : ℕ). k ≤ suc (length rest)) (decides (see_clause values AllFalse clause)) (λ e. omega arith) (λ e. omega arith)

clauses_most : (bytes : List ℕ) → length (clauses bytes) ≤ length bytes
clauses_most [] = omega arith
clauses_most (zero ∷ bytes) = omega (arith, clauses_most bytes)
clauses_most (suc b ∷ bytes) = omega (arith, clauses_most bytes, push_length (suc b) (clauses bytes))

units_length : (assumed : List ℕ) → length (units assumed) ≡ length assumed
units_length [] = refl
units_length (b ∷ assumed) = ap suc (units_length assumed)

-- a scan passes no more clauses than there are bytes
pub bytes_most : (values bytes : List ℕ) (s : Scanned) → s ≡ scanned values (clauses bytes) → s.passed ≤ length bytes
unfolding scanned
bytes_most values bytes s e = rw e (omega (arith, passed_most values (clauses bytes), clauses_most bytes))

pub units_most : (values assumed : List ℕ) (s : Scanned) → s ≡ scanned values (units assumed) → s.passed ≤ length assumed
unfolding scanned
units_most values assumed s e = rw e (omega (arith, passed_most values (units assumed), units_length assumed))
