-- What is told under a budget: of a search that ends, of visits made before, and of the two sides of a split.
use mathlib.Core.Path.{◌≡◌, refl, sym, ◌∙◌}
use mathlib.Core.Logic.{◌≢◌, by_cases}
use mathlib.Core.List.{List}
use Prim.Native.Nat.{ℕ, ◌+◌, ◌≤◌, ◌<◌}
use native.Mathlib.Nat.{add_assoc}
use native.Mathlib.Decide.{dec_lt}
use native.Mathlib.Omega.{arith}
use borrow.Author.Tests.{lt-ltb, le-ltb}
use Rattle.std.specs.Prelude.{Result, Ok, Err}
use Rattle.setups.specs.declared.Refusal.{Refusal}
use Rattle.setups.specs.declared.Refusal.TheVariants.{Spent}
use Rattle.setups.specs.Search.{SearchResult, Model, None, after, visits_of}
use Rattle.setups.specs.Searching.{split}
use Rattle.setups.proofs.Visits.{after_count}
use Rattle.search.specs.declared.Visited.{Visited}
use Rattle.search.specs.declared.Visited.TheVariants as visited
use Rattle.search.specs.Told.{told, either}

-- ---- one search

pub told_spent : (budget used : ℕ) (r : SearchResult) → budget < used + visits_of r → Err Spent ≡ told budget used r
unfolding told
told_spent budget used (Model m visits) h = rw (lt-ltb budget (used + visits) h)
told_spent budget used (None visits) h = rw (lt-ltb budget (used + visits) h)

pub told_none : (budget used visits : ℕ) → used + visits ≤ budget → Ok (visited.None (used + visits)) ≡ told budget used (None visits)
unfolding told
told_none budget used visits h = rw (le-ltb budget (used + visits) h)

pub told_model : (budget used visits : ℕ) (m : List ℕ) → used + visits ≤ budget
    → Ok (visited.Model m (used + visits)) ≡ told budget used (Model m visits)
unfolding told
told_model budget used visits m h = rw (le-ltb budget (used + visits) h)

-- visits that were made before count as used
pub told_after : (budget used k : ℕ) (r : SearchResult) → told budget (used + k) r ≡ told budget used (after k r)
unfolding told
told_after budget used k (Model m visits) = rw (add_assoc used k visits)
told_after budget used k (None visits) = rw (add_assoc used k visits)

-- ---- the two sides of a split

after_after : (k j : ℕ) (r : SearchResult) → after (k + j) r ≡ after k (after j r)
after_after k j (Model m visits) = rw (add_assoc k j visits)
after_after k j (None visits) = rw (add_assoc k j visits)

-- with the visit that hands over
pub split_either : (low high : SearchResult) → split low high ≡ after 1 (either low high)
split_either (Model m visits) high = refl
split_either (None visits) high = after_after 1 visits high

-- a first side that tells anything but None tells for both
pub first_tells : (budget used : ℕ) (low high : SearchResult) (a : Result Visited Refusal) → a ≡ told budget used low
    → ((k : ℕ) → a ≢ Ok (visited.None k)) → a ≡ told budget used (either low high)
first_tells budget used (Model m visits) high a e n = e
first_tells budget used (None visits) high a e n =
    by_cases (dec_lt budget (used + visits))
    (λ l.
    e ∙ sym (told_spent budget used (None visits) l) ∙ told_spent budget used (after visits high) (omega (arith, after_count visits high)))
    (λ k. absurd (n (used + visits) (e ∙ sym (told_none budget used visits (omega arith)))))

-- where it tells None, the second side tells for both
pub second_tells : (budget used k : ℕ) (low high : SearchResult) (b : Result Visited Refusal) → Ok (visited.None k) ≡ told budget used low
    → b ≡ told budget k high → b ≡ told budget used (either low high)
second_tells budget used k (Model m visits) high b e h =
    by_cases (dec_lt budget (used + visits))
    (λ l. absurd (let f = e ∙ sym (told_spent budget used (Model m visits) l) in cc))
    (λ g. absurd (let f = e ∙ sym (told_model budget used visits m (omega arith)) in cc))
second_tells budget used k (None visits) high b e h =
    by_cases (dec_lt budget (used + visits))
    (λ l. absurd (let f = e ∙ sym (told_spent budget used (None visits) l) in cc))
    (λ g.
    let f = e ∙ sym (told_none budget used visits (omega arith)) in
    let same : k ≡ used + visits = cc in
    h ∙ rw same (told_after budget used visits high))
