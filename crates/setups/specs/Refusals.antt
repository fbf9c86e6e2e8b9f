-- The refusals with their numbers, and what each is given for (document 01, "What comes back when it can't").
use Rattle.std.specs.Prelude.{◌≡◌, refl, Bool, true, false, not, cond, ◌&&◌, ◌||◌, List, [], ◌∷◌, ℕ, suc, ◌%◌, eqb, ltb, length}
use Rattle.setups.specs.declared.Refusal.{Refusal}
use Rattle.setups.specs.declared.Refusal.TheVariants.{Vars, Size, Work, Literal, Tail, Long, Softs, TooMany, List as NotAList, Spent, Frame, Room}
use Rattle.setups.specs.Limits.{literals_most, settings_most}
use Rattle.setups.specs.Clauses.{clauses}
use Rattle.setups.specs.Setups.{settings}

abbrev pub number_of : Refusal → ℕ
number_of Vars = 1
number_of Size = 2
number_of Work = 3
number_of Literal = 4
number_of Tail = 5
number_of Long = 6
number_of Softs = 7
number_of TooMany = 8
number_of NotAList = 9
number_of Spent = 10
number_of Frame = 11
number_of Room = 12

-- the numbers of the answers that are no refusals: Model, Listed, Marked, Read and Written; Unmet; None
abbrev pub finished : ℕ
finished = 0

abbrev pub unmet : ℕ
unmet = 128

abbrev pub no_model : ℕ
no_model = 129

-- the refusal's number where its test says so, and else what comes after: "First match wins"
abbrev pub check : Bool → Refusal → ℕ → ℕ
check test refusal rest = cond test (number_of refusal) rest

-- Literal: "low seven bits 0 or above the count (a 0 in clauses is the end; in assumed literals it is refused)"
abbrev pub no_literal : ℕ → ℕ → Bool
no_literal n b = eqb (b % 128) 0 || ltb n (b % 128)

abbrev pub no_clause_byte : ℕ → ℕ → Bool
no_clause_byte n b = not (eqb b 0) && no_literal n b

-- the place of the first byte that the test is true of; the length where there is none
abbrev pub first_place : (ℕ → Bool) → List ℕ → ℕ
first_place test [] = 0
first_place test (b ∷ bytes) = cond (test b) 0 (suc (first_place test bytes))

-- some byte offends
abbrev pub offends : (ℕ → Bool) → List ℕ → Bool
offends test bytes = ltb (first_place test bytes) (length bytes)

-- of two variables: 130 is −2, 131 is no literal; 0 ends a clause, and is no literal by itself
example_literal : (offends (no_clause_byte 2) (130 ∷ 0 ∷ []) ≡ false) × (first_place (no_clause_byte 2) (130 ∷ 0 ∷ 131 ∷ []) ≡ 2) × (no_literal 2 0 ≡ true)
example_literal = (refl, refl, refl)

-- Tail: "a non-empty clause buffer whose last byte isn't 0"
abbrev pub ended : List ℕ → Bool
ended [] = true
ended (b ∷ []) = eqb b 0
ended (b ∷ c ∷ bytes) = ended (c ∷ bytes)

-- Long: "a clause above 127 literals, repeats counted"
abbrev pub some_long : List (List ℕ) → Bool
some_long [] = false
some_long (clause ∷ rest) = ltb literals_most (length clause) || some_long rest

abbrev pub long : List ℕ → Bool
long bytes = some_long (clauses bytes)

-- 4, 5, 6, 7 of a setup's two buffers, each over both before the next, and then what comes after. Softs: more settings than there may be
abbrev pub clauses_refusal : ℕ → List ℕ → List ℕ → ℕ → ℕ
clauses_refusal n hard soft rest =
    check (offends (no_clause_byte n) hard || offends (no_clause_byte n) soft) Literal
    (check (not (ended hard) || not (ended soft)) Tail
    (check (long hard || long soft) Long
    (check (ltb settings_most (length (settings soft))) Softs rest)))
