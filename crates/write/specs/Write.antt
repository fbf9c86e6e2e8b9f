-- What Write gives back, for all arguments (document 01, "Lines of hexadecimal" and "What comes back when it can't").
use Rattle.std.specs.Prelude.{◌≡◌, refl, cond, ◌||◌, List, [], ◌∷◌, ℕ, ltb, eqb, length}
use Rattle.setups.specs.declared.Refusal.TheVariants.{Vars, Size, Room}
use Rattle.setups.specs.Limits.{variables_most, hard_bytes_most, soft_bytes_most}
use Rattle.setups.specs.Refusals.{finished, check, clauses_refusal}
use Rattle.digits.specs.Digits.{digit_of}
use Rattle.setups.specs.Written.{written}
use Rattle.write.specs.SetupText.{setup_text, text_length}

-- the answer's number, how many places Written has filled (else 0), and the text buffer afterwards
pub record WriteResult : Type 0 where
  pub number : ℕ
  pub filled : ℕ
  pub text : List ℕ

-- 1, 2, 4, 5, 6, 7, and then what comes after
abbrev pub setup_refusal : ℕ → List ℕ → List ℕ → ℕ → ℕ
setup_refusal n hard soft rest =
    check (ltb variables_most n) Vars
    (check (ltb hard_bytes_most (length hard) || ltb soft_bytes_most (length soft)) Size (clauses_refusal n hard soft rest))

-- 1, 2, 4, 5, 6, 7, 12; 0 where none is given
abbrev pub write_refusal : ℕ → List ℕ → List ℕ → ℕ → ℕ
write_refusal n hard soft room = setup_refusal n hard soft (check (ltb room (text_length hard soft)) Room 0)

unfoldable pub write_result : ℕ → List ℕ → List ℕ → List ℕ → WriteResult
write_result n hard soft text =
    let refusal = write_refusal n hard soft (length text) in
    let refused : WriteResult = record { number = refusal; filled = 0; text = text } in
    let wrote = setup_text n hard soft in
    let finishes : WriteResult = record { number = finished; filled = text_length hard soft; text = written wrote text } in
    cond (eqb refusal 0) finishes refused

-- a setup with no variable and no clause takes eight places, 1000 and FF, and the ninth stays; with seven places it is Room
example_write :
    (write_result 0 [] [] (1 ∷ 2 ∷ 3 ∷ 4 ∷ 5 ∷ 6 ∷ 7 ∷ 8 ∷ 9 ∷ []) ≡ record { number = 0; filled = 8; text = 49 ∷ 48 ∷ 48 ∷ 48 ∷ 10 ∷ 70 ∷ 70 ∷ 10 ∷ 9 ∷ [] })
    × (write_result 0 [] [] (1 ∷ 2 ∷ 3 ∷ 4 ∷ 5 ∷ 6 ∷ 7 ∷ []) ≡ record { number = 12; filled = 0; text = 1 ∷ 2 ∷ 3 ∷ 4 ∷ 5 ∷ 6 ∷ 7 ∷ [] })
unfolding digit_of setup_text text_length write_result
example_write = (refl, refl)
