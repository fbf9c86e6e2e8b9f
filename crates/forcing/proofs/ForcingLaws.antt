-- Passes that force values: over the clauses that are due, and over the settings that are given up.
use mathlib.Core.Path.{◌≡◌, refl, sym, subst}
use mathlib.Core.Logic.{◌≢◌}
use mathlib.Core.Bool.{Bool, true, false, ◌||◌, true≢false}
use mathlib.Core.List.{List, [], ◌∷◌}
use Prim.Native.Nat.{ℕ, suc, ◌+◌, ◌^◌, ◌≤◌, ◌<◌, min, zero-le, suc-le-suc}
use native.Mathlib.Nat.{zero-lt-suc, zero-add}
use native.Mathlib.Omega.{arith}
use lib.Dec.{T}
use lib.ListN.{length, get_or, drop}
use Rattle.std.specs.Prelude.{Option}
use Rattle.sets.specs.Sets.{In}
use Rattle.sets.proofs.Digits.{in_below}
use Rattle.setups.specs.Limits.{settings_most}
use Rattle.setups.specs.Clauses.{clauses}
use Rattle.setups.specs.Setups.{settings}
use Rattle.setups.specs.Searching.{see_value}
use Rattle.setups.specs.declared.Seen.{Seen}
use Rattle.setups.specs.declared.Seen.TheVariants.{AllFalse}
use Rattle.literals.specs.Slots.{slot, AllSet}
use Rattle.forcing.specs.Holding.{is_true, AllBroken}
use Rattle.forcing.specs.Values.{AgreesWith}
use Rattle.forcing.specs.Selectors.{next_selector, Owing}
use Rattle.forcing.specs.Rules.{Keeps, KeepsAnswers, Sees, StillFree, EndsTrue}
use Rattle.forcing.specs.declared.forcing.Progress.{Progress}
use Rattle.forcing.proofs.Verdicts.{verdicts, verdict_clause, verdict_holds, verdicts_length, verdicts_end, verdicts_literal, first_fails}
use Rattle.forcing.proofs.SelectorLaws.{Along, along_starts, along_ends, along_reads, along_inside}
use Rattle.forcing.proofs.RuleLaws.{keeps_still, answers_then, sees_more, fresh_more}

-- ---- the clauses that are due

-- of the clauses whose verdicts these are, the first at selector n, each that is due passes
abbrev DueFrom : (ℕ → Type 0) → ℕ → List Bool → Type 0
DueFrom Due n [] = Unit {0}
DueFrom Due n (passes ∷ rest) = (Due n → T passes) × DueFrom Due (next_selector n) rest

due_from : (Due : ℕ → Type 0) (k : ℕ) (list : List Bool)
    → ((j : ℕ) → j < length list → Due (min (k + j) settings_most) → T (get_or list j false))
    → DueFrom Due (min k settings_most) list
due_from Due k [] h = tt
due_from Due k (passes ∷ rest) h = (
  (λ o. h 0 (zero-lt-suc (length rest)) (subst Due (let e : min k settings_most ≡ min (k + 0) settings_most = omega arith in e) o)),
  subst (λ (n : ℕ). DueFrom Due n rest) (let e : min (suc k) settings_most ≡ next_selector (min k settings_most) = omega arith in e)
      (due_from Due (suc k) rest (λ j l o.
      h (suc j) (suc-le-suc l) (subst Due (let e : min (suc k + j) settings_most ≡ min (k + suc j) settings_most = omega arith in e) o))),
)

-- at place i, with selector n and the clause at hand as `seen` says
pub record Forcing (Due : ℕ → Type 0) (bytes : List ℕ) (earlier forced : Progress) (seen : Seen) (n i : ℕ) : Type 0 where
  pub upto : i ≤ length bytes
  pub fresh : StillFree forced.values seen
  pub step : Keeps (λ m. Owing Due (is_true m) bytes) earlier forced
  pub rest : (m : List ℕ) → AllSet m → Owing Due (is_true m) bytes → AgreesWith earlier.values m
      → (t : Bool) × Sees m seen t × DueFrom Due n (verdicts (is_true m) t (clauses (drop i bytes)))

pub forcing_starts : {Due : ℕ → Type 0} {bytes : List ℕ} {earlier : Progress} {n : ℕ} → n ≡ 0
    → Forcing Due bytes earlier earlier AllFalse n 0
forcing_starts {Due} {bytes} e = rw e (record {
  upto = zero-le;
  fresh = tt;
  step = keeps_still;
  rest = λ m d owing agrees. (false, refl, due_from Due 0 (verdicts (is_true m) false (clauses bytes)) (each m owing));
})
  where
    each : (m : List ℕ) → Owing Due (is_true m) bytes → (j : ℕ) → j < length (verdicts (is_true m) false (clauses bytes))
        → Due (min (0 + j) settings_most) → T (get_or (verdicts (is_true m) false (clauses bytes)) j false)
    each m owing j l o =
        subst T (sym (verdict_clause (is_true m) (clauses bytes) j))
        (owing j (subst (λ (x : ℕ). j < x) (verdicts_length (is_true m) false (clauses bytes)) l)
        (subst (λ (x : ℕ). Due (min x settings_most)) (zero-add j) o))

module _ {Due : ℕ → Type 0} {bytes : List ℕ} {earlier forced : Progress} {seen : Seen} {n i : ℕ}
    (at : Forcing Due bytes earlier forced seen n i) (l : i < length bytes) where
  -- one literal more
  pub forcing_reads : get_or bytes i 0 ≢ 0 → {p : ℕ} → p ≡ slot (get_or bytes i 0) → {seen' : Seen}
      → seen' ≡ see_value seen (get_or bytes i 0) (get_or forced.values p 0)
      → Forcing Due bytes earlier forced seen' n (i + 1)
  forcing_reads z s e = rw (e, s) (record {
    upto = omega arith;
    fresh = fresh_more forced.values seen (get_or bytes i 0) at.fresh;
    step = at.step;
    rest = λ m d owing agrees.
        let r = at.rest m d owing agrees in
        let now = at.step.stays m d owing agrees in (
          r.0 || is_true m (get_or bytes i 0),
          sees_more forced.values m now seen (get_or bytes i 0) r.0 r.1,
          subst (DueFrom Due n) (verdicts_literal (is_true m) r.0 bytes i l z) r.2,
        );
  })

  module _ (z : get_or bytes i 0 ≡ 0) where
    -- what is said of an answer where the clause ends
    at_end : (m : List ℕ) → AllSet m → Owing Due (is_true m) bytes → AgreesWith earlier.values m
        → (Due n → EndsTrue m seen) × DueFrom Due (next_selector n) (verdicts (is_true m) false (clauses (drop (i + 1) bytes)))
    at_end m d owing agrees =
        let r = at.rest m d owing agrees in
        let q = subst (DueFrom Due n) (verdicts_end (is_true m) r.0 bytes i l z) r.2 in
        ((λ o. (r.0, r.1, q.0 o)), q.1)

    -- the clause is due
    pub forcing_on : Due n → (r : Option Progress) → KeepsAnswers (λ m. EndsTrue m seen) forced r
        → KeepsAnswers (λ m. Owing Due (is_true m) bytes) earlier r
    forcing_on due r end = answers_then r at.step end (λ m d owing agrees. (at_end m d owing agrees).0 due)

    -- the next clause begins
    pub forcing_ends : {after : Progress} → Keeps (λ m. Owing Due (is_true m) bytes) earlier after → {n' : ℕ} → n' ≡ next_selector n
        → Forcing Due bytes earlier after AllFalse n' (i + 1)
    forcing_ends step e = rw e (record {
      upto = omega arith;
      fresh = tt;
      step = step;
      rest = λ m d owing agrees. (false, refl, (at_end m d owing agrees).1);
    })

-- ---- the settings that are given up

or_none : (a b : Bool) → (a || b) ≡ false → b ≡ false
or_none true b e = absurd (true≢false e)
or_none false b e = e

-- of the settings whose verdicts these are, the first at selector n, none that is given up holds
abbrev BrokenFrom : ℕ → ℕ → List Bool → Type 0
BrokenFrom given n list = (j : ℕ) → n + j < settings_most → In (n + j) given → ¬ T (get_or list j false)

-- at place i, with selector n
pub record Giving (given : ℕ) (soft : List ℕ) (earlier forced : Progress) (n i : ℕ) : Type 0 where
  pub along : Along soft n i
  pub step : Keeps (λ m. AllBroken given (is_true m) soft) earlier forced
  pub rest : (m : List ℕ) → AllSet m → AllBroken given (is_true m) soft → AgreesWith earlier.values m
      → (t : Bool) × BrokenFrom given n (verdicts (is_true m) t (clauses (drop i soft)))

pub giving_starts : {given : ℕ} {soft : List ℕ} {earlier : Progress} {n : ℕ} → n ≡ 0 → Giving given soft earlier earlier n 0
giving_starts {soft = soft} e = rw e (record {
  along = along_starts soft 0 refl;
  step = keeps_still;
  rest = λ m d broken agrees. (
    false,
    λ j l h t.
        broken (0 + j) h ((verdict_holds (is_true m) soft (0 + j)).1
        (l, subst (λ (x : ℕ). T (get_or (verdicts (is_true m) false (clauses soft)) x false)) (sym (zero-add j)) t)),
  );
})

module _ {given : ℕ} {soft : List ℕ} {earlier forced : Progress} {n i : ℕ} (at : Giving given soft earlier forced n i) (l : i < length soft) where
  -- the setting at hand ends
  pub giving_ends : get_or soft i 0 ≡ 0 → {n' : ℕ} → n' ≡ next_selector n → Giving given soft earlier forced n' (i + 1)
  giving_ends z {n'} e = record {
    along = along_ends at.along l z e;
    step = at.step;
    rest = λ m d broken agrees.
        let r = at.rest m d broken agrees in
        let q = subst (BrokenFrom given n) (verdicts_end (is_true m) r.0 soft i l z) r.1 in
        (false, λ j k h. q (suc j) (omega arith) (subst (λ (x : ℕ). In x given) (let s : n' + j ≡ n + suc j = omega arith in s) h));
  }

  module _ (z : get_or soft i 0 ≢ 0) where
    -- past a literal
    past : (m : List ℕ) → AllSet m → AllBroken given (is_true m) soft → AgreesWith earlier.values m
        → (t : Bool) × BrokenFrom given n (verdicts (is_true m) (t || is_true m (get_or soft i 0)) (clauses (drop (i + 1) soft)))
    past m d broken agrees =
        let r = at.rest m d broken agrees in
        (r.0, subst (BrokenFrom given n) (verdicts_literal (is_true m) r.0 soft i l z) r.1)

    pub giving_reads : Giving given soft earlier forced n (i + 1)
    giving_reads = record {
      along = along_reads at.along l z;
      step = at.step;
      rest = λ m d broken agrees. let r = past m d broken agrees in (r.0 || is_true m (get_or soft i 0), r.1);
    }

    -- a literal of a given-up setting is false in each answer
    pub giving_denies : given < 2 ^ settings_most → given < 2 ^ length (settings soft) → In n given → (r : Option Progress)
        → KeepsAnswers (λ m. is_true m (get_or soft i 0) ≡ false) forced r → KeepsAnswers (λ m. AllBroken given (is_true m) soft) earlier r
    giving_denies small below h r denies =
        answers_then r at.step denies (λ m d broken agrees.
        let t = past m d broken agrees in
        or_none t.0 (is_true m (get_or soft i 0))
        (first_fails (is_true m) (t.0 || is_true m (get_or soft i 0)) (clauses (drop (i + 1) soft))
        (along_inside at.along l z (in_below settings_most small h) (in_below (length (settings soft)) below h))
        (t.1 0 (omega (arith, in_below settings_most small h)) (subst (λ (x : ℕ). In x given) (let s : n ≡ n + 0 = omega arith in s) h))))

    pub giving_on : {after : Progress} → Keeps (λ m. AllBroken given (is_true m) soft) earlier after → Giving given soft earlier after n (i + 1)
    giving_on step = record { along = giving_reads.along; step = step; rest = giving_reads.rest }
