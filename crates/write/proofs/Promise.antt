-- What Write's promise says: there is no second result; and programs that the promise rejects.
use mathlib.Core.Path.{◌≡◌, refl, sym, ap, ◌∙◌}
use mathlib.Core.List.{List, [], ◌∷◌}
use Prim.Native.Nat.{ℕ}
use native.Mathlib.Omega.{arith}
use lib.ListN.{get_or}
use Rattle.std.proofs.Common.{Result, Ok, Err}
use Rattle.setups.specs.declared.Refusal.{Refusal}
use Rattle.setups.proofs.Refusals.{number_only, refused_number}
use Rattle.digits.specs.Digits.{digit_of}
use Rattle.write.specs.SetupText.{setup_text, text_length}
use Rattle.write.specs.Write.{WriteResult, write_result}
use Rattle.write.specs.Writing.{answered, Writes}

-- ---- no second result

writing_only : (a b : Result ℕ Refusal) (t₁ t₂ : List ℕ) → answered a t₁ ≡ answered b t₂ → a ≡ b
writing_only (Ok n) (Ok m) t₁ t₂ e = λ i. Ok (e i).filled
writing_only (Ok n) (Err y) t₁ t₂ e = absurd (refused_number y (sym (ap (λ (r : WriteResult). r.number) e)))
writing_only (Err x) (Ok m) t₁ t₂ e = absurd (refused_number x (ap (λ (r : WriteResult). r.number) e))
writing_only (Err x) (Err y) t₁ t₂ e = ap Err (number_only x y (ap (λ (r : WriteResult). r.number) e))

writing_buffer : (a : Result ℕ Refusal) (t : List ℕ) → (answered a t).text ≡ t
writing_buffer (Ok filled) t = refl
writing_buffer (Err refusal) t = refl

-- the promise leaves one answer, and one content of the text buffer
pub write_only : (n : ℕ) (hard soft text : List ℕ) (a b : Result ℕ Refusal) (text₁ text₂ : List ℕ) → Writes n hard soft text a text₁ → Writes n hard soft text b text₂ → (a ≡ b) × (text₁ ≡ text₂)
write_only n hard soft text a b text₁ text₂ p q =
    let e = p ∙ sym q in
    (writing_only a b text₁ text₂ e, sym (writing_buffer a text₁) ∙ ap (λ (r : WriteResult). r.text) e ∙ writing_buffer b text₂)

-- ---- wrong programs

-- a Write that refuses everything
pub write_not_refusing : ((n : ℕ) (hard soft text : List ℕ) → (refusal : Refusal) × Writes n hard soft text (Err refusal) text) → ⊥
unfolding setup_text digit_of text_length write_result
write_not_refusing program =
    let p = program 0 [] [] (0 ∷ 0 ∷ 0 ∷ 0 ∷ 0 ∷ 0 ∷ 0 ∷ 0 ∷ []) in
    refused_number p.0 (ap (λ (r : WriteResult). r.number) p.1)

-- a Write that writes nothing
pub write_not_silent : ((n : ℕ) (hard soft text : List ℕ) → (answer : Result ℕ Refusal) × Writes n hard soft text answer text) → ⊥
unfolding setup_text digit_of text_length write_result
write_not_silent program =
    let text : List ℕ = 0 ∷ 0 ∷ 0 ∷ 0 ∷ 0 ∷ 0 ∷ 0 ∷ 0 ∷ [] in
    let p = program 0 [] [] text in
    let e : ◌≡◌ {A = ℕ} 0 49 = ap (λ (t : List ℕ). get_or t 0 0) (sym (writing_buffer p.0 text) ∙ ap (λ (r : WriteResult). r.text) p.1) in
    omega arith
