-- What an ask gives back, for all arguments (document 01, "One ask" and "What comes back when it can't").
use Rattle.std.specs.Prelude.{◌≡◌, refl, cond, ◌||◌, not, List, [], ◌∷◌, ◌++◌, ℕ, ltb, eqb, length}
use Rattle.setups.specs.declared.Refusal.TheVariants.{Vars, Size, Literal, Tail, Long, Spent, Room}
use Rattle.setups.specs.Limits.{variables_most, hard_bytes_most, assumed_most}
use Rattle.setups.specs.Clauses.{clauses}
use Rattle.setups.specs.Search.{SearchResult, Model, None}
use Rattle.setups.specs.Searching.{search}
use Rattle.setups.specs.Refusals.{number_of, finished, no_model, check, no_literal, no_clause_byte, offends, ended, long}
use Rattle.setups.specs.Written.{written}

-- the answer's number, the visit count that Model and None tell (else 0), and the model buffer afterwards
pub record AskResult : Type 0 where
  pub number : ℕ
  pub visits : ℕ
  pub model : List ℕ

-- each assumed literal as a one-literal clause
abbrev pub units : List ℕ → List (List ℕ)
units [] = []
units (b ∷ assumed) = (b ∷ []) ∷ units assumed

-- the clauses of an ask: the assumed literals come after the others
abbrev pub ask_clauses : List ℕ → List ℕ → List (List ℕ)
ask_clauses bytes assumed = clauses bytes ++ units assumed

-- 1, 2, 12, 4, 5, 6; 0 where none is given
abbrev pub ask_refusal : ℕ → List ℕ → List ℕ → ℕ → ℕ
ask_refusal n bytes assumed room =
    check (ltb variables_most n) Vars
    (check (ltb hard_bytes_most (length bytes) || ltb assumed_most (length assumed)) Size
    (check (ltb room n) Room
    (check (offends (no_clause_byte n) bytes || offends (no_literal n) assumed) Literal
    (check (not (ended bytes)) Tail
    (check (long bytes) Long 0)))))

-- after the search, under a budget: the model's bytes are written, a byte a variable
abbrev pub searched_result : ℕ → List ℕ → SearchResult → AskResult
searched_result budget places (Model m visits) =
    cond (ltb budget visits) (record { number = number_of Spent; visits = 0; model = places })
    (record { number = finished; visits = visits; model = written m places })
searched_result budget places (None visits) =
    cond (ltb budget visits) (record { number = number_of Spent; visits = 0; model = places })
    (record { number = no_model; visits = visits; model = places })

-- Spent is given exactly when the visits of the whole search are above the budget. All refusals write nothing; None writes no model.
unfoldable pub ask_result : ℕ → List ℕ → List ℕ → ℕ → List ℕ → AskResult
unfolding search
ask_result n bytes assumed budget places =
    let refusal = ask_refusal n bytes assumed (length places) in
    let refused : AskResult = record { number = refusal; visits = 0; model = places } in
    let searched = searched_result budget places (search n (ask_clauses bytes assumed)) in
    cond (eqb refusal 0) searched refused

-- two variables, (1 2), (1 −2), (−1 2): the third visit has the model 1, 1, and the third place stays; the budget 2 is spent
example_ask :
    (ask_result 2 (1 ∷ 2 ∷ 0 ∷ 1 ∷ 130 ∷ 0 ∷ 129 ∷ 2 ∷ 0 ∷ []) [] 3 (9 ∷ 9 ∷ 9 ∷ []) ≡ record { number = 0; visits = 3; model = 1 ∷ 1 ∷ 9 ∷ [] })
    × (ask_result 2 (1 ∷ 2 ∷ 0 ∷ 1 ∷ 130 ∷ 0 ∷ 129 ∷ 2 ∷ 0 ∷ []) [] 2 (9 ∷ 9 ∷ 9 ∷ []) ≡ record { number = 10; visits = 0; model = 9 ∷ 9 ∷ 9 ∷ [] })
unfolding ask_result
example_ask = (refl, refl)
