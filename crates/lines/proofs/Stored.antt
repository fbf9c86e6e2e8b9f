-- The lines, stored one after the other.
use mathlib.Core.Path.{◌≡◌, refl, sym, ◌∙◌}
use mathlib.Core.List.{List, [], ◌∷◌, ◌++◌}
use Prim.Native.Nat.{ℕ, ◌+◌, ◌*◌}
use native.Mathlib.Omega.{arith}
use lib.ListN.{length, length-append}
use lib.Seq.{sets}
use Rattle.digits.proofs.Stores.{sets_append}
use Rattle.lines.specs.Lines.{way_out_kind, clash_kind, set_line, set_lines, last_line, answer_lines, set_line_length, last_line_length}

-- a list of sets takes a line for each
pub lines_length : (kind : ℕ) (list : List ℕ) → length (set_lines kind list) ≡ set_line_length * length list
lines_length kind [] = refl
lines_length kind (S ∷ list) =
    let h = lines_length kind list in
    let e : length (set_line kind S ++ set_lines kind list) ≡ set_line_length + length (set_lines kind list) = length-append (set_line kind S) (set_lines kind list) in
    omega (arith, h, e)

pub answer_length : (outcome : ℕ) (ways clashes : List ℕ) → length (answer_lines outcome ways clashes) ≡ set_line_length * length ways + set_line_length * length clashes + last_line_length
answer_length outcome ways clashes =
    let last = last_line outcome (length ways) (length clashes) in
    let a : length (answer_lines outcome ways clashes) ≡ length (set_lines way_out_kind ways ++ set_lines clash_kind clashes) + length last = length-append (set_lines way_out_kind ways ++ set_lines clash_kind clashes) last in
    let b = length-append (set_lines way_out_kind ways) (set_lines clash_kind clashes) in
    let n : length last ≡ last_line_length = refl in
    omega (arith, a, b, n, lines_length way_out_kind ways, lines_length clash_kind clashes)

-- the lines of an answer, one after the other
pub answer_stored : (outcome : ℕ) (ways clashes t t₁ t₂ t₃ : List ℕ) (j k : ℕ)
    → t₁ ≡ sets t 0 (set_lines way_out_kind ways) → j ≡ 0 + set_line_length * length ways
    → t₂ ≡ sets t₁ j (set_lines clash_kind clashes) → k ≡ j + set_line_length * length clashes
    → t₃ ≡ sets t₂ k (last_line outcome (length ways) (length clashes))
    → t₃ ≡ sets t 0 (answer_lines outcome ways clashes)
answer_stored outcome ways clashes t t₁ t₂ t₃ j k e ij f jk g =
    let a = set_lines way_out_kind ways in
    let b = set_lines clash_kind clashes in
    let c = last_line outcome (length ways) (length clashes) in
    let first : j ≡ 0 + length a = omega (arith, ij, lines_length way_out_kind ways) in
    let size : k ≡ 0 + length (a ++ b) = omega (arith, first, jk, length-append a b, lines_length clash_kind clashes) in
    let both : t₂ ≡ sets t 0 (a ++ b) = f ∙ rw (e, first) (sym (sets_append t a b 0)) in
    g ∙ rw (both, size) (sym (sets_append t (a ++ b) c 0))
