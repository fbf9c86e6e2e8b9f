-- The lines of a buffer's clauses: clause by clause, how long they are, and how they are stored.
use mathlib.Core.Path.{◌≡◌, refl, sym, ap, ◌∙◌}
use mathlib.Core.Bool.{Bool, true, true≢false}
use mathlib.Core.List.{List, [], ◌∷◌, ◌++◌, append_assoc}
use Prim.Native.Nat.{ℕ, zero, suc, ◌+◌, ◌*◌, ◌-◌, ◌≤◌, ◌<◌, zero-le}
use native.Mathlib.Nat.{zero-add}
use native.Mathlib.Omega.{arith}
use borrow.Author.Tests.{ne_eqb}
use lib.Dec.{eqb}
use lib.ListN.{length, take, drop, length-append}
use lib.Seq.{sets, drop-nil, drop-append_seam}
use Rattle.std.proofs.Common.{min}
use Rattle.std.specs.List.{position_or_len, IsFirstMatchOrLen}
use Rattle.std.specs.Fn.{Called, ComputesKey}
use Rattle.std.proofs.lemmas.List.Sorted.{answers_always}
use denote.Param.Members.{Mut}
use denote.Ref.{Bor}
use Rattle.std.proofs.lemmas.List.{take-append-le}
use Rattle.std.proofs.lemmas.List.Sums.{passes_at_first, position_or_len_is}
use Rattle.numbers.proofs.Deciding.{T_true}
use Rattle.setups.specs.Clauses.{push, clauses}
use Rattle.setups.specs.Refusals.{ended}
use Rattle.setups.proofs.Truth.{literal_goes_on}
use Rattle.setups.proofs.CheckLaws.{push_length}
use Rattle.digits.specs.Digits.{digits}
use Rattle.digits.proofs.Stores.{sets_append}
use Rattle.frames.specs.Frames.{line_feed, line, header_kind, hard_kind, soft_kind, end_kind}
use Rattle.write.specs.SetupText.{clause_lines, setup_text, literal_count, text_length}

-- ---- how long they are

digits_length : (bytes : List ℕ) → length (digits bytes) ≡ 2 * length bytes
digits_length [] = refl
digits_length (b ∷ bytes) = let rest = digits_length bytes in omega arith

pub line_length : (bytes : List ℕ) → length (line bytes) ≡ 2 * length bytes + 1
line_length bytes = length-append (digits bytes) (line_feed ∷ []) ∙ omega (arith, digits_length bytes)

pub lines_length : (kind : ℕ) (cs : List (List ℕ)) → length (clause_lines kind cs) ≡ 2 * literal_count cs + 3 * length cs
lines_length kind [] = refl
lines_length kind (c ∷ cs) =
    let rest = lines_length kind cs in
    length-append (line (kind ∷ c)) (clause_lines kind cs) ∙ omega (arith, line_length (kind ∷ c))

-- ---- the first clause of bytes that end in 0

-- a byte 0 ends a clause
abbrev pub is_end : ℕ → Bool
is_end b = eqb b 0

-- the place of the first end
abbrev pub first_end : List ℕ → ℕ
first_end bytes = position_or_len is_end bytes

no_end_first : (b : ℕ) (bytes : List ℕ) → first_end (suc b ∷ bytes) ≡ suc (first_end bytes)
no_end_first b bytes = rw (ne_eqb (suc b) 0 (λ e. let z : ⊥ = omega arith in z)) (omega arith)

pub record First (bytes : List ℕ) : Type 0 where
  pub inside : first_end bytes < length bytes
  pub splits : clauses bytes ≡ take (first_end bytes) bytes ∷ clauses (drop (suc (first_end bytes)) bytes)

pub first_of : (bytes : List ℕ) (b : ℕ) → ended (b ∷ bytes) ≡ true → First (b ∷ bytes)
first_of [] zero e = record { inside = omega arith; splits = refl }
first_of [] (suc b) e = absurd (literal_goes_on b ((T_true (ended (suc b ∷ []))).1 e))
first_of (d ∷ bytes) zero e = record { inside = omega arith; splits = refl }
first_of (d ∷ bytes) (suc b) e =
    let rest = first_of bytes d e in
    record { inside = omega (arith, rest.inside, no_end_first b (d ∷ bytes)); splits = rw (no_end_first b (d ∷ bytes)) (ap (push (suc b)) rest.splits) }

pub first_of_some : (bytes : List ℕ) → 0 < length bytes → ended bytes ≡ true → First bytes
first_of_some [] more e = absurd (let b : ⊥ = omega arith in b)
first_of_some (b ∷ bytes) more e = first_of bytes b e

one_literal_more : (b : ℕ) (cs : List (List ℕ)) (c : List ℕ) (rest : List (List ℕ)) → cs ≡ c ∷ rest → literal_count (push b cs) ≡ suc (literal_count cs)
one_literal_more b cs c rest e = rw e (omega arith)

-- every byte is a literal of some clause, or ends one
pub literals_and_ends : (bytes : List ℕ) → ended bytes ≡ true → literal_count (clauses bytes) + length (clauses bytes) ≡ length bytes
literals_and_ends [] e = refl
literals_and_ends (zero ∷ []) e = refl
literals_and_ends (zero ∷ d ∷ bytes) e = let rest = literals_and_ends (d ∷ bytes) e in omega arith
literals_and_ends (suc b ∷ []) e = absurd (literal_goes_on b ((T_true (ended (suc b ∷ []))).1 e))
literals_and_ends (suc b ∷ d ∷ bytes) e =
    let rest = literals_and_ends (d ∷ bytes) e in
    let more = one_literal_more (suc b) (clauses (d ∷ bytes)) _ _ (first_of bytes d e).splits in
    omega (arith, more, push_length (suc b) (clauses (d ∷ bytes)))

-- bytes that end in 0 do so from every place on
pub ended_drop : (bytes : List ℕ) (i : ℕ) → ended bytes ≡ true → ended (drop i bytes) ≡ true
ended_drop bytes zero e = e
ended_drop [] (suc i) e = refl
ended_drop (b ∷ []) (suc i) e = rw (drop-nil i)
ended_drop (b ∷ c ∷ bytes) (suc i) e = ended_drop (c ∷ bytes) i e

-- ---- a piece of the bytes that is cut off after its first end is a clause with that end

-- what is left after it is ended too
pub record Cut (bytes piece rest : List ℕ) : Type 0 where
  pub splits : clauses bytes ≡ take (length piece - 1) piece ∷ clauses rest
  pub left_ended : ended rest ≡ true

-- the first end is where the cut is
first_end_at : (bytes : List ℕ) (i : ℕ) → First bytes → IsFirstMatchOrLen is_end bytes i → i ≡ first_end bytes
first_end_at bytes i f h =
    let inside = f.inside in
    let upto : ¬ (first_end bytes < i) = λ l. true≢false (sym (passes_at_first is_end bytes 0 inside) ∙ h.0 (first_end bytes) 0 zero-le l) in
    let fits : i ≤ length bytes = omega arith in
    sym (position_or_len_is is_end bytes i 0 fits (λ k l. h.0 k 0 zero-le l) (λ l. h.1 l 0))

cut : (bytes piece rest : List ℕ) (i : ℕ) → bytes ≡ piece ++ rest → length piece ≡ min (i + 1) (length bytes) → IsFirstMatchOrLen is_end bytes i
    → 0 < length bytes → ended bytes ≡ true → Cut bytes piece rest
cut bytes piece rest i e l h more ends =
    let f = first_of_some bytes more ends in
    let inside = f.inside in
    let at : i ≡ first_end bytes = first_end_at bytes i f h in
    let size : suc (first_end bytes) ≡ length piece = omega (arith, l) in
    let seam : first_end bytes ≡ length piece - 1 = omega (arith, size) in
    let this : take (first_end bytes) bytes ≡ take (length piece - 1) piece = rw (seam, e) (take-append-le (length piece - 1) piece rest (omega arith)) in
    let others : drop (suc (first_end bytes)) bytes ≡ rest = rw (size, e) (drop-append_seam piece rest) in
    record { splits = f.splits ∙ rw (this, others); left_ended = rw others at (ended_drop bytes (suc (first_end bytes)) ends) }

-- one piece of `split_inclusive`, by a closure g that answers whether a byte is an end
pub cut_next : {F : Type 0} (g : Mut F (Bor ℕ × Unit {0}) Bool) (f f' : F) (bytes piece rest : List ℕ)
    → ((f : F) (a : Bor ℕ × Unit {0}) (r : Bool) (f' : F) → Called g f a r f' → r ≡ is_end a.0.now)
    → (bytes ≡ piece ++ rest) × ((i : ℕ) × (length piece ≡ min (i + 1) (length bytes)) × ((p : ℕ → Bool) → ComputesKey g p f → ComputesKey g p f' × IsFirstMatchOrLen p bytes i)) × (0 < length bytes)
    → ended bytes ≡ true → Cut bytes piece rest
cut_next g f f' bytes piece rest answers steps ends =
    let first = steps.1.2 is_end (answers_always g (λ a r. r ≡ is_end a.0.now) f answers) in
    cut bytes piece rest steps.1.0 steps.0 steps.1.1 first.1 steps.2 ends

-- ---- storing the lines of clauses: the first one's, and then the others'

module _ (kind : ℕ) (cs : List (List ℕ)) (c : List ℕ) (rest : List (List ℕ)) (splits : cs ≡ c ∷ rest) where
  pub first_takes : length (clause_lines kind cs) ≡ 2 * length c + 3 + length (clause_lines kind rest)
  first_takes = rw splits (length-append (line (kind ∷ c)) (clause_lines kind rest) ∙ omega (arith, line_length (kind ∷ c)))

  pub first_stored : (text after : List ℕ) (to : ℕ) → after ≡ sets text to (line (kind ∷ c)) → sets after (to + (2 * length c + 3)) (clause_lines kind rest) ≡ sets text to (clause_lines kind cs)
  first_stored text after to e =
      let this = line (kind ∷ c) in
      let size : to + (2 * length c + 3) ≡ to + length this = omega (arith, line_length (kind ∷ c)) in
      rw (splits, e, size) (sym (sets_append text this (clause_lines kind rest) to))

-- ---- the whole text

module _ (count : ℕ) (hard soft : List ℕ) where
  pub written_length : length (setup_text count hard soft) ≡ 8 + (length (clause_lines hard_kind (clauses hard)) + length (clause_lines soft_kind (clauses soft)))
  unfolding setup_text
  written_length =
      let h = clause_lines hard_kind (clauses hard) in
      let s = clause_lines soft_kind (clauses soft) in
      omega (arith, length-append h (s ++ line (end_kind ∷ [])), length-append s (line (end_kind ∷ [])))

  pub measured : text_length hard soft ≡ length (setup_text count hard soft)
  unfolding text_length
  measured = omega (arith, written_length, lines_length hard_kind (clauses hard), lines_length soft_kind (clauses soft))

-- a run stored after another is the joined run
then_stored : (t after again xs ys : List ℕ) (at : ℕ) → after ≡ sets t 0 xs → at ≡ length xs → again ≡ sets after at ys → again ≡ sets t 0 (xs ++ ys)
then_stored t after again xs ys at e l a = a ∙ rw (e, l, sets_append t xs ys 0, zero-add (length xs))

module _ (count : ℕ) (hard soft t t₁ t₂ t₃ t₄ : List ℕ) (after_hard after_soft : ℕ) where
  -- the header, the clauses and FF, stored one after the other
  pub setup_stored : t₁ ≡ sets t 0 (line (header_kind ∷ count ∷ []))
      → after_hard ≡ 5 + length (clause_lines hard_kind (clauses hard))
      → t₂ ≡ sets t₁ 5 (clause_lines hard_kind (clauses hard))
      → after_soft ≡ after_hard + length (clause_lines soft_kind (clauses soft))
      → t₃ ≡ sets t₂ after_hard (clause_lines soft_kind (clauses soft))
      → t₄ ≡ sets t₃ after_soft (line (end_kind ∷ []))
      → t₄ ≡ sets t 0 (setup_text count hard soft)
  unfolding setup_text
  setup_stored e₁ b e₂ c e₃ e₄ =
      let first = line (header_kind ∷ count ∷ []) in
      let h = clause_lines hard_kind (clauses hard) in
      let s = clause_lines soft_kind (clauses soft) in
      let last = line (end_kind ∷ []) in
      let hards : t₂ ≡ sets t 0 (first ++ h) = then_stored t t₁ t₂ first h 5 e₁ refl e₂ in
      let softs : t₃ ≡ sets t 0 (first ++ h ++ s) = then_stored t t₂ t₃ (first ++ h) s after_hard hards (omega (arith, length-append first h)) e₃ in
      let ends : t₄ ≡ sets t 0 (first ++ h ++ s ++ last) = then_stored t t₃ t₄ (first ++ h ++ s) last after_soft softs (omega (arith, length-append h s)) e₄ in
      ends ∙ ap (λ (rest : List ℕ). sets t 0 (first ++ rest)) (append_assoc h s last)
