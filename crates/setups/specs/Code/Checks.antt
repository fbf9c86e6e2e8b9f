-- The places at which the byte checks find their first offence, the buffer's length where there is none; and what is judged by them.
use Rattle.std.specs.Prelude.{◌≡◌, refl, cond, List, [], ◌∷◌, ℕ, zero, suc, ◌-◌, eqb, leb, ltb, length, Option, Some, None, Result, Ok, Err}
use Rattle.setups.specs.Limits.{literals_most}
use Rattle.setups.specs.declared.Refusal.{Refusal}
use Rattle.setups.specs.Setups.{settings}
use Rattle.setups.specs.Refusals.{number_of, ended, clauses_refusal}

-- a place of the buffer as what a check answers: none where it is the length
abbrev pub place_in : List ℕ → ℕ → Option ℕ
place_in bytes place = cond (ltb place (length bytes)) (Some place) None

-- Tail: the last byte, where it isn't 0
abbrev pub tail_place : List ℕ → ℕ
tail_place bytes = cond (ended bytes) (length bytes) (length bytes - 1)

-- Long: the first literal that has 127 before it in its clause, of which `run` have been passed
abbrev pub long_place : ℕ → List ℕ → ℕ
long_place run [] = 0
long_place run (b ∷ bytes) =
    let next = suc (long_place 0 bytes) in
    let here = cond (leb literals_most run) 0 (suc (long_place (suc run) bytes)) in
    cond (eqb b 0) next here

-- Softs: the 0 that ends the first setting after `left` more
abbrev pub setting_place : ℕ → List ℕ → ℕ
setting_place left [] = 0
setting_place zero (b ∷ bytes) = cond (eqb b 0) 0 (suc (setting_place zero bytes))
setting_place (suc left) (b ∷ bytes) = suc (setting_place (cond (eqb b 0) left (suc left)) bytes)

-- (1 −2), (3) and the literal 1 with no end: the last byte offends, and after one setting the second ends at place 4
example_places : (tail_place (1 ∷ 130 ∷ 0 ∷ 3 ∷ 0 ∷ 1 ∷ []) ≡ 5) × (setting_place 1 (1 ∷ 130 ∷ 0 ∷ 3 ∷ 0 ∷ 1 ∷ []) ≡ 4)
example_places = (refl, refl)

-- what is judged of a setup's clauses, before what comes after
abbrev pub judged_of : Result ℕ Refusal → ℕ → ℕ
judged_of (Ok settings) rest = rest
judged_of (Err refusal) rest = number_of refusal

-- the first refusal of 4, 5, 6, 7; or none, and how many settings there are
pub record Judges (n : ℕ) (hard soft : List ℕ) (answer : Result ℕ Refusal) : Type 0 where
  pub first : (rest : ℕ) → judged_of answer rest ≡ clauses_refusal n hard soft rest
  pub counts : (k : ℕ) → answer ≡ Ok k → k ≡ length (settings soft)
