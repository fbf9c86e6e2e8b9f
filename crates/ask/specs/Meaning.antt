-- What Ask's promise says of each answer, in document 01's words.
use Rattle.std.specs.Prelude.{◌≡◌, List, ℕ, ◌≤◌, T, take, drop, replicate}
use Rattle.setups.specs.Clauses.{Assigns, all_true}
use Rattle.setups.specs.Search as search
use Rattle.setups.specs.Meaning.{First}
use Rattle.setups.specs.Ask.{ask_clauses}

-- the search of document 01 over n variables, all free at first, gives r
abbrev pub Searched : ℕ → List ℕ → List ℕ → search.SearchResult → Type 0
Searched n bytes assumed r = search.Visit (ask_clauses bytes assumed) (replicate n 2) r

-- What Model says: the first model in order is written, the places beyond stay as they were, and the visits are those of the search.
pub record ModelSays (n : ℕ) (bytes assumed : List ℕ) (budget : ℕ) (places : List ℕ) (visits : ℕ) (after : List ℕ) : Type 0 where
  pub first : First n (ask_clauses bytes assumed) (take n after)
  pub beyond : drop n after ≡ drop n places
  pub count : Searched n bytes assumed (search.Model (take n after) visits)
  pub within : visits ≤ budget

-- What None says: there is no model, nothing is written, and the visits are those of the search.
pub record NoneSays (n : ℕ) (bytes assumed : List ℕ) (budget : ℕ) (places : List ℕ) (visits : ℕ) (after : List ℕ) : Type 0 where
  pub none : (m : List ℕ) → Assigns n m → ¬ T (all_true m (ask_clauses bytes assumed))
  pub kept : after ≡ places
  pub count : Searched n bytes assumed (search.None visits)
  pub within : visits ≤ budget
