-- What settling, a visit and a split tell under a budget.
use Rattle.std.specs.Prelude.{◌≡◌, refl, cond, List, [], ◌∷◌, ℕ, ◌+◌, ltb, set, Option, Some, None, Result, Ok, Err}
use Rattle.setups.specs.declared.Refusal.{Refusal}
use Rattle.setups.specs.declared.Refusal.TheVariants.{Spent}
use Rattle.setups.specs.Search as search
use Rattle.setups.specs.Searching
use Rattle.search.specs.declared.Visited.{Visited}
use Rattle.search.specs.declared.Visited.TheVariants as visited

-- the values at the end of settling; none where it fails
abbrev pub settled_of : Searching.Settled → Option (List ℕ)
settled_of s = cond s.fails None (Some s.values)

-- what is told of a search that began after `used` visits: Spent exactly when all of them are above the budget
unfoldable pub told : ℕ → ℕ → search.SearchResult → Result Visited Refusal
told budget used (search.Model m visits) = cond (ltb budget (used + visits)) (Err Spent) (Ok (visited.Model m (used + visits)))
told budget used (search.None visits) = cond (ltb budget (used + visits)) (Err Spent) (Ok (visited.None (used + visits)))

-- three visits after two pass a budget of four, and not of five
example_told : (told 4 2 (search.None 3) ≡ Err Spent) × (told 5 2 (search.None 3) ≡ Ok (visited.None 5))
unfolding told
example_told = (refl, refl)

-- the second side counts only where the first fails; the visit that hands over is counted already
abbrev pub either : search.SearchResult → search.SearchResult → search.SearchResult
either (search.Model m visits) high = search.Model m visits
either (search.None visits) high = search.after visits high

-- the two sides of a split at this place: value 0, then value 1
abbrev pub sides : List (List ℕ) → List ℕ → ℕ → search.SearchResult
sides cs values at = either (Searching.visit cs (set values at 0)) (Searching.visit cs (set values at 1))

-- two variables, no clause: the first side has the model 0 0 after two visits
example_sides : sides [] (2 ∷ 2 ∷ []) 0 ≡ search.Model (0 ∷ 0 ∷ []) 2
unfolding Searching.visit
example_sides = refl
