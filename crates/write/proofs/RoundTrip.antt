-- Reading what was written gives the same setup back.
use mathlib.Core.Path.{◌≡◌, refl, sym, ap, ◌∙◌}
use mathlib.Core.Bool.{true, false}
use mathlib.Core.List.{List, [], ◌∷◌, ◌++◌, append_assoc, append-nil}
use mathlib.Core.Option.{some}
use Prim.Native.Nat.{ℕ, zero, suc, ◌+◌, ◌/◌, ◌%◌, ◌≤◌, ◌<◌}
use native.Mathlib.Nat.{add-zero}
use native.Mathlib.Omega.{arith}
use borrow.Author.Tests.{lt-ltb, ltb-false, le-leb, ne_eqb}
use lib.Dec.{eqb, ltb, leb}
use lib.ListN.{length, take, drop}
use lib.Seq.{take_at}
use Rattle.sets.specs.Tests.{all}
use Rattle.numbers.proofs.Deciding.{cond_case, neither, T_true}
use Rattle.setups.specs.Limits.{literals_most}
use Rattle.setups.specs.Clauses.{push, clauses}
use Rattle.setups.specs.Refusals.{finished, ended, some_long}
use Rattle.setups.proofs.Truth.{literal_goes_on}
use Rattle.setups.proofs.CheckLaws.{settings_length}
use Rattle.digits.specs.Digits.{digit_of}
use Rattle.digits.proofs.Hexadecimal.{digit_back, byte_back}
use Rattle.frames.specs.Frames.{line_feed, line, lines, line_bytes, header_kind, hard_kind, soft_kind, end_kind, frame_most, Frame, header, hard, soft, end, frame}
use Rattle.read.specs.Texts.{Sofar, fresh, under, ending, following, good, follow, judge}
use Rattle.read.specs.Read.{text_most, read_result}
use Rattle.read.proofs.Answers.{fills_with, accepts}
use Rattle.write.specs.SetupText.{Bytes, clause_lines, setup_text, text_length, setup_text_most}
use Rattle.write.specs.Write.{WriteResult, write_result}
use Rattle.write.proofs.ClauseLines.{first_of, literals_and_ends, measured}
use Rattle.write.proofs.Refusing.{Fine, fine, not_refused, finishes}

-- ---- a line comes back

-- what stands for a value is no LF, whatever the value
digit_of_no_feed : (v : ℕ) → eqb (digit_of v) line_feed ≡ false
unfolding digit_of
digit_of_no_feed v = ne_eqb (digit_of v) 10 (cond_case (λ (c : ℕ). ¬ (c ≡ 10)) (ltb v 10) (λ _ e. let b : ⊥ = omega arith in b) (λ _ e. let b : ⊥ = omega arith in b))

-- a written line is the first line of what follows it too
line_first : (bytes rest : List ℕ) → lines (line bytes ++ rest) ≡ line bytes ∷ lines rest
line_first [] rest = refl
line_first (b ∷ bytes) rest = rw (digit_of_no_feed (b / 16), digit_of_no_feed (b % 16), line_first bytes rest)

-- its bytes are the bytes
line_bytes_lem : (bytes : List ℕ) → Bytes bytes → line_bytes (line bytes) ≡ some bytes
line_bytes_lem [] h = refl
line_bytes_lem (b ∷ bytes) h =
    rw ((digit_back (b / 16) (omega (arith, h 0))).is, (digit_back (b % 16) (omega (arith, h 0))).is, line_bytes_lem bytes (λ i. h (suc i)), byte_back b (h 0))

-- ---- a clause comes back

-- a clause that a frame can hold
record Clause (c : List ℕ) : Type 0 where
  literals : all (ltb 0) c ≡ true
  bytes : Bytes c
  short : length c ≤ literals_most

-- its frame, by the kind
module _ (c : List ℕ) (f : Clause c) where
  kind_bytes : (kind : ℕ) → kind < 256 → line_bytes (line (kind ∷ c)) ≡ some (kind ∷ c)
  kind_bytes kind l = line_bytes_lem (kind ∷ c) each
    where
      each : Bytes (kind ∷ c)
      each zero = l
      each (suc i) = f.bytes i

  short_frame : leb (suc (length c)) frame_most ≡ true
  short_frame = le-leb (suc (length c)) frame_most (omega (arith, f.short))

  hard_back : frame (line (hard_kind ∷ c)) ≡ hard c
  hard_back = rw (kind_bytes hard_kind (omega arith), short_frame, f.literals)

  soft_back : frame (line (soft_kind ∷ c)) ≡ soft c
  soft_back = rw (kind_bytes soft_kind (omega arith), short_frame, f.literals)

-- ---- the clauses of a buffer

abbrev Each : (List ℕ → Type 0) → List (List ℕ) → Type 0
Each P [] = Unit {0}
Each P (c ∷ cs) = P c × Each P cs

-- the bytes of clauses, each ended by a 0
flat : List (List ℕ) → List ℕ
flat [] = []
flat (c ∷ cs) = ending c ++ flat cs

-- bytes that end in 0 are those of their clauses
flat_push : (b : ℕ) (cs : List (List ℕ)) (c : List ℕ) (rest : List (List ℕ)) → cs ≡ c ∷ rest → flat (push b cs) ≡ b ∷ flat cs
unfolding flat
flat_push b cs c rest e = rw e

flat_clauses : (bytes : List ℕ) → ended bytes ≡ true → flat (clauses bytes) ≡ bytes
unfolding flat
flat_clauses [] e = refl
flat_clauses (zero ∷ []) e = refl
flat_clauses (zero ∷ d ∷ bytes) e = ap (λ (r : List ℕ). 0 ∷ r) (flat_clauses (d ∷ bytes) e)
flat_clauses (suc b ∷ []) e = absurd (literal_goes_on b ((T_true (ended (suc b ∷ []))).1 e))
flat_clauses (suc b ∷ d ∷ bytes) e =
    flat_push (suc b) (clauses (d ∷ bytes)) _ _ (first_of bytes d e).splits ∙ ap (λ (r : List ℕ). suc b ∷ r) (flat_clauses (d ∷ bytes) e)

-- a clause's bytes are no 0, and bytes
record Literals (c : List ℕ) : Type 0 where
  literals : all (ltb 0) c ≡ true
  bytes : Bytes c

push_literals : (b : ℕ) (cs : List (List ℕ)) → suc b < 256 → Each Literals cs → Each Literals (push (suc b) cs)
push_literals b [] l h = tt
push_literals b (c ∷ cs) l h = (record { literals = rw (lt-ltb 0 (suc b) (omega arith)) h.0.literals; bytes = each }, h.1)
  where
    each : Bytes (suc b ∷ c)
    each zero = l
    each (suc i) = h.0.bytes i

clauses_literals : (bytes : List ℕ) → Bytes bytes → Each Literals (clauses bytes)
clauses_literals [] h = tt
clauses_literals (zero ∷ bytes) h = (record { literals = refl; bytes = λ i. omega arith }, clauses_literals bytes (λ i. h (suc i)))
clauses_literals (suc b ∷ bytes) h = push_literals b (clauses bytes) (h 0) (clauses_literals bytes (λ i. h (suc i)))

-- and none is too long
clauses_fit : (cs : List (List ℕ)) → Each Literals cs → some_long cs ≡ false → Each Clause cs
clauses_fit [] h e = tt
clauses_fit (c ∷ cs) h e =
    let p = neither (ltb literals_most (length c)) (some_long cs) e in
    (record { literals = h.0.literals; bytes = h.0.bytes; short = ltb-false literals_most (length c) p.0 }, clauses_fit cs h.1 p.1)

-- ---- the fold over the lines of clauses

module _ (kind : ℕ) (make : List ℕ → Frame) (grown : List ℕ → Sofar)
    (back : (c : List ℕ) → Clause c → frame (line (kind ∷ c)) ≡ make c)
    (grows : (n : ℕ) (x c : List ℕ) → following n (grown x) (make c) ≡ grown (x ++ ending c)) where
  follow_clauses : (cs : List (List ℕ)) → Each Clause cs → (n : ℕ) (x rest : List ℕ) → follow n (grown x) (lines (clause_lines kind cs ++ rest)) ≡ follow (n + length cs) (grown (x ++ flat cs)) (lines rest)
  unfolding flat
  follow_clauses [] h n x rest = rw (add-zero n, append-nil x)
  follow_clauses (c ∷ cs) h n x rest =
      let after = clause_lines kind cs ++ rest in
      let more : suc n + length cs ≡ n + suc (length cs) = omega arith in
      ap (λ (t : List ℕ). follow n (grown x) (lines t)) (append_assoc (line (kind ∷ c)) (clause_lines kind cs) rest)
      ∙ ap (follow n (grown x)) (line_first (kind ∷ c) after)
      ∙ ap (λ (f : Frame). follow (suc n) (following n (grown x) f) (lines after)) (back c h.0)
      ∙ ap (λ (y : Sofar). follow (suc n) y (lines after)) (grows n x c)
      ∙ follow_clauses cs h.1 (suc n) (x ++ ending c) rest
      ∙ rw (more, append_assoc x (ending c) (flat cs))

-- ---- the whole text

module _ (count : ℕ) (hards softs : List ℕ) (b : count < 256) (h : Each Clause (clauses hards)) (s : Each Clause (clauses softs)) (eh : ended hards ≡ true) (es : ended softs ≡ true) where
  header_back : frame (line (header_kind ∷ count ∷ [])) ≡ header count
  header_back = rw (line_bytes_lem (header_kind ∷ count ∷ []) each)
    where
      each : Bytes (header_kind ∷ count ∷ [])
      each zero = omega arith
      each (suc zero) = b
      each (suc (suc i)) = omega arith

  end_back : frame (line (end_kind ∷ [])) ≡ end
  end_back = rw (line_bytes_lem (end_kind ∷ []) each)
    where
      each : Bytes (end_kind ∷ [])
      each zero = omega arith
      each (suc i) = omega arith

  -- what Write writes is good, and says the setup
  written_good : judge (setup_text count hards softs) ≡ good count hards softs
  unfolding judge setup_text
  written_good =
      let hard_lines = clause_lines hard_kind (clauses hards) in
      let soft_lines = clause_lines soft_kind (clauses softs) in
      let last = line (end_kind ∷ []) in
      let n = 2 + length (clauses hards) in
      let m = n + length (clauses softs) in
      ap (follow 1 fresh) (line_first (header_kind ∷ count ∷ []) (hard_lines ++ (soft_lines ++ last)))
      ∙ ap (λ (f : Frame). follow 2 (following 1 fresh f) (lines (hard_lines ++ (soft_lines ++ last)))) header_back
      ∙ follow_clauses hard_kind hard (λ x. under count x []) hard_back (λ m x c. refl) (clauses hards) h 2 [] (soft_lines ++ last)
      ∙ ap (λ (x : List ℕ). follow n (under count x []) (lines (soft_lines ++ last))) (flat_clauses hards eh)
      ∙ follow_clauses soft_kind soft (λ x. under count hards x) soft_back (λ m x c. refl) (clauses softs) s n [] last
      ∙ ap (λ (x : List ℕ). follow m (under count hards x) (lines last)) (flat_clauses softs es)
      ∙ ap (follow m (under count hards softs)) (line_first (end_kind ∷ []) [])
      ∙ ap (λ (f : Frame). follow (suc m) (following m (under count hards softs) f) []) end_back

-- ---- a setup that Write takes

module _ (count : ℕ) (hards softs : List ℕ) (f : Fine count hards softs) where
  pub text_most_lem : text_length hards softs ≤ setup_text_most
  unfolding text_length
  text_most_lem = omega (arith, literals_and_ends hards f.in_clauses.hard_ended, literals_and_ends softs f.in_clauses.soft_ended, f.hard_size, f.soft_size, f.in_clauses.settings_few, settings_length softs)

  pub text_back : Bytes hards → Bytes softs → judge (setup_text count hards softs) ≡ good count hards softs
  text_back h s =
      written_good count hards softs (omega (arith, f.variables))
      (clauses_fit (clauses hards) (clauses_literals hards h) f.in_clauses.hard_long)
      (clauses_fit (clauses softs) (clauses_literals softs s) f.in_clauses.soft_long)
      f.in_clauses.hard_ended f.in_clauses.soft_ended

-- Where Write took a setup, Read takes what it wrote, whatever the text buffer, and fills buffers that hold it with the same setup.
pub round_trip : (count : ℕ) (hards softs text hard' soft' : List ℕ) → Bytes hards → Bytes softs → (write_result count hards softs text).number ≡ finished
    → length hards ≤ length hard' → length softs ≤ length soft'
    → read_result (take (write_result count hards softs text).filled (write_result count hards softs text).text) hard' soft' ≡ fills_with count hards softs hard' soft'
round_trip count hards softs text hard' soft' h s e hr sr =
    let taken = not_refused count hards softs text e in
    let f = fine count hards softs _ taken in
    let whole = setup_text count hards softs in
    let size : length whole ≤ text_most = omega (arith, text_most_lem count hards softs f, measured count hards softs) in
    let wrote = finishes count hards softs text taken in
    ap (λ (w : WriteResult). read_result (take w.filled w.text) hard' soft') wrote
    ∙ ap (λ (t : List ℕ). read_result t hard' soft') (take_at whole (drop (length whole) text) (text_length hards softs) (sym (measured count hards softs)))
    ∙ accepts whole hard' soft' count hards softs size (text_back count hards softs f h s) hr sr
