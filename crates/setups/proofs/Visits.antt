-- The search that computes (Searching.antt) is the search of document 01 (Search.antt), with the same visits, whatever the order of settling.
use mathlib.Core.Path.{◌≡◌, refl, sym, ◌∙◌}
use mathlib.Core.Logic.{◌⊎◌, inl, inr, ⊎_elim, by_cases}
use mathlib.Core.Bool.{Bool, true, false}
use mathlib.Core.List.{List}
use Prim.Native.Nat.{ℕ, zero, suc, ◌+◌, ◌≤◌, ◌<◌}
use native.Mathlib.Nat.{le_refl}
use native.Mathlib.Omega.{arith}
use lib.Dec.{T, ltb}
use lib.ListN.{length, set}
use borrow.Author.Tests.{lt-ltb, le-ltb}
use Rattle.numbers.proofs.Deciding.{T-dec}
use Rattle.setups.specs.declared.Seen.{Seen}
use Rattle.setups.specs.declared.Seen.TheVariants.{AllFalse, OneFree, Enough}
use Rattle.setups.specs.Settling.{broken, put, Forced, no_step, step_on, Settles}
use Rattle.setups.specs.Search.{visits_of, SearchResult, Model, None, after, Lowest, Visit, visit_fails, visit_models, split_low, split_high}
use Rattle.setups.specs.Searching.{scan, free_count, lowest_free, Settled, settle_for, settle, split, visit_for, visit}
use Rattle.setups.proofs.Settling.{Run, run_ends, run_on, Stable, steps_run, runs_alike, settles_ended}
use Rattle.setups.proofs.Scanning.{scan_right, free_set, free_put, Full, lowest_cases, lowest_only, lowest_none}

-- ---- settling, a scan at a time

-- the literal that a scan gives is forced
pub scan_forces : (cs : List (List ℕ)) (values : List ℕ) (b : ℕ) → scan values cs ≡ OneFree b → Forced cs values (put values b)
scan_forces cs values b e =
    let r = scan_right values cs (OneFree b) e in
    record { clause = r.0; among = r.1; literal = b; forces = r.2; sets = refl }

-- and once it is true, one value fewer is free
pub scan_fewer : (cs : List (List ℕ)) (values : List ℕ) (b : ℕ) → scan values cs ≡ OneFree b → free_count values ≡ suc (free_count (put values b))
scan_fewer cs values b e = free_put values b (scan_right values cs (OneFree b) e).2.free

-- with more scans than free values their number does not matter
settle_fuels : (f g : ℕ) (cs : List (List ℕ)) (values : List ℕ) → free_count values < f → free_count values < g
    → settle_for f cs values ≡ settle_for g cs values
unfolding settle_for
settle_fuels zero g cs values h k = absurd (omega arith)
settle_fuels (suc f) zero cs values h k = absurd (omega arith)
settle_fuels (suc f) (suc g) cs values h k = go (scan values cs) refl (settle_fuels f g cs)
  where
    go : (seen : Seen) → scan values cs ≡ seen
        → ((next : List ℕ) → free_count next < f → free_count next < g → settle_for f cs next ≡ settle_for g cs next)
        → settle_for (suc f) cs values ≡ settle_for (suc g) cs values
    go AllFalse e rest = rw (e, settle_for)
    go (OneFree b) e rest = let n = scan_fewer cs values b e in rw (e, settle_for) (rest (put values b) (omega arith) (omega arith))
    go Enough e rest = rw (e, settle_for)

-- settling fails where a scan finds a wholly false clause
pub settle_fails : (cs : List (List ℕ)) (values : List ℕ) → scan values cs ≡ AllFalse → settle cs values ≡ record { fails = true; values = values }
unfolding settle
settle_fails cs values e = rw (e, settle_for)

-- goes on with the literal that a scan gives
pub settle_on : (cs : List (List ℕ)) (values : List ℕ) (b : ℕ) → scan values cs ≡ OneFree b → settle cs values ≡ settle cs (put values b)
unfolding settle
settle_on cs values b e = rw (e, settle_for) (rw (scan_fewer cs values b e))

-- and stops where a scan finds neither
pub settle_stops : (cs : List (List ℕ)) (values : List ℕ) → scan values cs ≡ Enough → settle cs values ≡ record { fails = false; values = values }
unfolding settle
settle_stops cs values e = rw (e, settle_for)

-- a settling by a run to where some clause is wholly false or the values are stable
abbrev Ran : List (List ℕ) → List ℕ → Settled → Type 0
Ran cs values s = Run cs values s.values × (((s.fails ≡ true) × T (broken s.values cs)) ⊎ ((s.fails ≡ false) × Stable cs s.values))

-- the computed one is such
settle_ran : (f : ℕ) (cs : List (List ℕ)) (values : List ℕ) → free_count values < f → Ran cs values (settle cs values)
settle_ran zero cs values h = absurd (omega arith)
settle_ran (suc f) cs values h = go (scan values cs) refl (settle_ran f cs)
  where
    go : (seen : Seen) → scan values cs ≡ seen → ((next : List ℕ) → free_count next < f → Ran cs next (settle cs next))
        → Ran cs values (settle cs values)
    go AllFalse e rest = rw (settle_fails cs values e) (run_ends, inl (refl, scan_right values cs AllFalse e))
    go (OneFree b) e rest =
        let n = scan_fewer cs values b e in
        let r = rest (put values b) (omega arith) in
        rw (settle_on cs values b e) (run_on (scan_forces cs values b e) r.0, r.1)
    go Enough e rest = rw (settle_stops cs values e) (run_ends, inr (refl, scan_right values cs Enough e))

-- what a computed settling tells of an end: it fails, and some clause is wholly false there; or none is, and the values are the end's
abbrev pub Tells : List (List ℕ) → Settled → List ℕ → Type 0
Tells cs s end = ((s.fails ≡ true) × T (broken end cs)) ⊎ (¬ T (broken end cs) × (s ≡ record { fails = false; values = end }))

-- it is so of every end, in whatever order the steps were
pub settle_right : {cs : List (List ℕ)} {values end : List ℕ} → Settles cs values end → Tells cs (settle cs values) end
settle_right {cs} {values} {end} h =
    let (run, ends) = settle_ran (suc (free_count values)) cs values (le_refl (suc (free_count values))) in
    let other = steps_run h.steps in
    ⊎_elim
    (λ e. ⊎_elim (λ k. inl (e.0, k.1)) (λ k. absurd (k.0 e.1)) (runs_alike run other (inl e.1) (settles_ended h)))
    (λ e. ⊎_elim (λ k. absurd (e.1.whole k.0)) (λ k. inr (rw k.1 at k.0, λ i. record { fails = e.0 i; values = k.1 i }))
    (runs_alike run other (inr e.1) (settles_ended h))) ends

-- steps lead to an end, since each leaves one value fewer free
settle_some : (f : ℕ) (cs : List (List ℕ)) (values : List ℕ) → free_count values < f → (end : List ℕ) × Settles cs values end
settle_some zero cs values h = absurd (omega arith)
settle_some (suc f) cs values h =
    by_cases (T-dec (broken values cs)) (λ t. (values, record { steps = no_step; stuck = λ next s. s.whole t }))
    (λ w. go (scan values cs) refl w (settle_some f cs))
  where
    go : (seen : Seen) → scan values cs ≡ seen → ¬ T (broken values cs)
        → ((next : List ℕ) → free_count next < f → (end : List ℕ) × Settles cs next end) → (end : List ℕ) × Settles cs values end
    go AllFalse e w rest = absurd (w (scan_right values cs AllFalse e))
    go (OneFree b) e w rest =
        let n = scan_fewer cs values b e in
        let (end, s) = rest (put values b) (omega arith) in
        (end, record { steps = step_on (record { whole = w; forced = scan_forces cs values b e }) s.steps; stuck = s.stuck })
    go Enough e w rest = (
      values,
      record {
        steps = no_step;
        stuck = λ next s. let f = s.forced in (scan_right values cs Enough e).calm f.clause f.among f.literal f.forces;
      },
    )

-- there is always an end
pub settle_exists : (cs : List (List ℕ)) (values : List ℕ) → (end : List ℕ) × Settles cs values end
settle_exists cs values = settle_some (suc (free_count values)) cs values (le_refl (suc (free_count values)))

-- along a run no value becomes free
pub run_fewer : {cs : List (List ℕ)} {values end : List ℕ} → Run cs values end → free_count end ≤ free_count values
run_fewer {values = values} run_ends = le_refl (free_count values)
run_fewer {values = values} (run_on {next = next} h rest) =
    let n : free_count values ≡ suc (free_count next) = rw h.sets (free_put values h.literal h.forces.free) in
    omega (arith, run_fewer rest)

-- nor in the computed settling
pub settle_fewer : (cs : List (List ℕ)) (values : List ℕ) → free_count (settle cs values).values ≤ free_count values
settle_fewer cs values = run_fewer (settle_ran (suc (free_count values)) cs values (le_refl (suc (free_count values)))).0

-- ---- visits, one inside the other

-- a visit, from the values that settling gives and from what its two sides give
abbrev pub visited : Settled → SearchResult → SearchResult → SearchResult
visited s low high =
    elim s.fails [
      | true ↦ None 1
      | false ↦ elim (ltb (lowest_free s.values) (length s.values)) [ true ↦ split low high | false ↦ Model s.values 1 ]
    ]

-- the sides count only where a value is free
visited_alike : (s : Settled) (low high low' high' : SearchResult) → (Lowest s.values (lowest_free s.values) → (low ≡ low') × (high ≡ high'))
    → visited s low high ≡ visited s low' high'
visited_alike s low high low' high' f = go s.fails refl (lowest_cases s.values)
  where
    go : (q : Bool) → s.fails ≡ q → Lowest s.values (lowest_free s.values) ⊎ (Full s.values × (lowest_free s.values ≡ length s.values))
        → visited s low high ≡ visited s low' high'
    go true e h = rw (e, visited)
    go false e (inl h) = rw ((f h).0, (f h).1)
    go false e (inr h) =
        let l : length s.values ≤ lowest_free s.values = omega (arith, h.1) in
        rw (e, visited) (rw (le-ltb (lowest_free s.values) (length s.values) l))

-- the values that the split hands on with the value x
abbrev pub side : List (List ℕ) → List ℕ → ℕ → List ℕ
side cs values x = set (settle cs values).values (lowest_free (settle cs values).values) x

-- fewer of them are free
pub side_fewer : (cs : List (List ℕ)) (values : List ℕ) (x : ℕ) → Lowest (settle cs values).values (lowest_free (settle cs values).values) → x < 2
    → free_count (side cs values x) < free_count values
side_fewer cs values x l h =
    let s = (settle cs values).values in
    omega (arith, free_set s (lowest_free s) x l.free h, settle_fewer cs values)

-- with more visits, one inside the other, than free values their number does not matter
visit_fuels : (f g : ℕ) (cs : List (List ℕ)) (values : List ℕ) → free_count values < f → free_count values < g
    → visit_for f cs values ≡ visit_for g cs values
unfolding visit_for
visit_fuels zero g cs values h k = absurd (omega arith)
visit_fuels (suc f) zero cs values h k = absurd (omega arith)
visit_fuels (suc f) (suc g) cs values h k =
    let s = (settle cs values).values in
    let rest : (x : ℕ) → x < 2 → Lowest s (lowest_free s) → visit_for f cs (side cs values x) ≡ visit_for g cs (side cs values x) = λ x b l.
    let n = side_fewer cs values x l b in visit_fuels f g cs (side cs values x) (omega arith) (omega arith) in
    visited_alike (settle cs values) (visit_for f cs (side cs values 0)) (visit_for f cs (side cs values 1)) (visit_for g cs (side cs values 0))
    (visit_for g cs (side cs values 1)) (λ l. (rest 0 (omega arith) l, rest 1 (omega arith) l))

-- so that it is the computed visit
pub visit_fuel : (f : ℕ) (cs : List (List ℕ)) (values : List ℕ) → free_count values < f → visit_for f cs values ≡ visit cs values
unfolding visit
visit_fuel f cs values h = visit_fuels f (suc (free_count values)) cs values h (le_refl (suc (free_count values)))

-- a visit from the visits that it opens
pub visit_step : (cs : List (List ℕ)) (values : List ℕ)
    → visit cs values ≡ visited (settle cs values) (visit cs (side cs values 0)) (visit cs (side cs values 1))
unfolding visit
visit_step cs values =
    let f = free_count values in
    visited_alike (settle cs values) (visit_for f cs (side cs values 0)) (visit_for f cs (side cs values 1)) (visit cs (side cs values 0))
    (visit cs (side cs values 1))
    (λ l. (
      visit_fuel f cs (side cs values 0) (side_fewer cs values 0 l (omega arith)),
      visit_fuel f cs (side cs values 1) (side_fewer cs values 1 l (omega arith)),
    ))

-- it fails where settling fails
pub visit_none : (cs : List (List ℕ)) (values : List ℕ) → (settle cs values).fails ≡ true → visit cs values ≡ None 1
visit_none cs values e = visit_step cs values ∙ rw (e, visited)

-- has a model where no value is free
pub visit_model : (cs : List (List ℕ)) (values end : List ℕ) → settle cs values ≡ record { fails = false; values = end } → length end ≤ lowest_free end
    → visit cs values ≡ Model end 1
visit_model cs values end e h = visit_step cs values ∙ rw e (rw (le-ltb (lowest_free end) (length end) h, visited))

-- and splits where one is
pub visit_split : (cs : List (List ℕ)) (values end : List ℕ) → settle cs values ≡ record { fails = false; values = end } → lowest_free end < length end
    → visit cs values ≡ split (visit cs (set end (lowest_free end) 0)) (visit cs (set end (lowest_free end) 1))
visit_split cs values end e h = visit_step cs values ∙ rw e (rw (lt-ltb (lowest_free end) (length end) h, visited))

-- ---- the search of document 01

-- what it splits on is what is computed
split_lowest : {cs : List (List ℕ)} {values end : List ℕ} {i : ℕ} → Settles cs values end → ¬ T (broken end cs) → Lowest end i
    → visit cs values ≡ split (visit cs (set end i 0)) (visit cs (set end i 1))
split_lowest {cs} {values} {end} {i} h w l =
    let inside : lowest_free end < length end = rw (lowest_only l) l.inside in
    ⊎_elim (λ k. absurd (w k.1)) (λ k. rw (lowest_only l) at (visit_split cs values end k.1 inside)) (settle_right h)

-- each of its visits gives what is computed
pub visits_are : {cs : List (List ℕ)} {values : List ℕ} {r : SearchResult} → Visit cs values r → r ≡ visit cs values
visits_are {cs} {values} (visit_fails h t) = ⊎_elim (λ k. sym (visit_none cs values k.0)) (λ k. absurd (k.0 t)) (settle_right h)
visits_are {cs} {values} (visit_models {end = end} h w full) =
    let none : length end ≤ lowest_free end = omega (arith, lowest_none end full) in
    ⊎_elim (λ k. absurd (w k.1)) (λ k. sym (visit_model cs values end k.1 none)) (settle_right h)
visits_are (split_low h w l v) = sym (split_lowest h w l ∙ rw (← visits_are v))
visits_are (split_high h w l v u) = sym (split_lowest h w l ∙ rw (← visits_are v, ← visits_are u))

-- a split from its two sides
split_visit : {cs : List (List ℕ)} {values end : List ℕ} {i : ℕ} (low high : SearchResult) → Settles cs values end → ¬ T (broken end cs) → Lowest end i
    → Visit cs (set end i 0) low → Visit cs (set end i 1) high → Visit cs values (split low high)
split_visit (Model m visits) high s w l v u = split_low s w l v
split_visit (None visits) high s w l v u = split_high s w l v u

-- a visit from those inside it, which have fewer free values
visit_some : (f : ℕ) (cs : List (List ℕ)) (values : List ℕ) → free_count values < f → Visit cs values (visit cs values)
visit_some zero cs values h = absurd (omega arith)
visit_some (suc f) cs values h = go (settle_right s) (lowest_cases end) (visit_some f cs)
  where
    end : List ℕ
    end = (settle_exists cs values).0

    s : Settles cs values end
    s = (settle_exists cs values).1

    go : Tells cs (settle cs values) end → Lowest end (lowest_free end) ⊎ (Full end × (lowest_free end ≡ length end))
        → ((next : List ℕ) → free_count next < f → Visit cs next (visit cs next)) → Visit cs values (visit cs values)
    go (inl k) l rest = rw (visit_none cs values k.0) (visit_fails s k.1)
    go (inr k) (inl l) rest =
        let low = set end (lowest_free end) 0 in
        let high = set end (lowest_free end) 1 in
        let n = run_fewer (steps_run s.steps) in
        rw (split_lowest s k.0 l) (split_visit (visit cs low) (visit cs high) s k.0 l
        (rest low (omega (arith, free_set end (lowest_free end) 0 l.free (omega arith))))
        (rest high (omega (arith, free_set end (lowest_free end) 1 l.free (omega arith)))))
    go (inr k) (inr l) rest =
        let none : length end ≤ lowest_free end = omega (arith, l.1) in
        rw (visit_model cs values end k.1 none) (visit_models s k.0 l.0)

-- what is computed is one of its visits
pub visits_exist : (cs : List (List ℕ)) (values : List ℕ) → Visit cs values (visit cs values)
visits_exist cs values = visit_some (suc (free_count values)) cs values (le_refl (suc (free_count values)))

-- and it gives one result only, count and all
pub visits_only : {cs : List (List ℕ)} {values : List ℕ} {r r' : SearchResult} → Visit cs values r → Visit cs values r' → r ≡ r'
visits_only v u = visits_are v ∙ sym (visits_are u)

-- ---- the count

-- with so many more
pub after_count : (k : ℕ) (r : SearchResult) → visits_of (after k r) ≡ k + visits_of r
after_count k (Model m visits) = refl
after_count k (None visits) = refl

-- every search takes at least one
pub visits_one : {cs : List (List ℕ)} {values : List ℕ} {r : SearchResult} → Visit cs values r → 1 ≤ visits_of r
visits_one (visit_fails h t) = omega arith
visits_one (visit_models h w full) = omega arith
visits_one (split_low h w l v) = omega arith
visits_one (split_high {visits = visits} {r = r} h w l v u) = omega (arith, after_count (1 + visits) r)
