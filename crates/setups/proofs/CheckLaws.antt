-- The byte checks: how a walk over a buffer comes to what its definition gives, and what each check's place says.
use mathlib.Core.Path.{◌≡◌, refl, sym, ap, ◌∙◌}
use mathlib.Core.Logic.Iff
use mathlib.Core.Logic.{◌↔◌, by_cases, ◌≢◌}
use mathlib.Core.Bool.{Bool, true, false, not, cond, ◌||◌}
use mathlib.Core.List.{List, [], ◌∷◌}
use Prim.Native.Nat.{ℕ, zero, suc, ◌+◌, ◌-◌, ◌≤◌, ◌<◌, zero-le, suc-le-suc}
use native.Mathlib.Nat.{not-suc-le-zero, le_refl, le_of_suc-le-suc, zero-lt-suc, zero-add, suc_inj, suc-ne-zero}
use native.Mathlib.Decide.{dec_lt}
use native.Mathlib.Numerals.{add-one}
use native.Mathlib.Omega.{arith}
use borrow.Author.Tests.{ltb-false, lt-ltb, le-ltb, eq-eqb, ne_eqb, le-leb, lt-leb}
use lib.Dec.{T, eqb, leb, ltb, leb-suc-suc, ltb→lt, lt→ltb}
use Rattle.std.specs.Prelude.{Some, None}
use Rattle.std.specs.Option.{is_some}
use Rattle.std.specs.List.{count_by, slice_get, position, position_or_len}
use Rattle.std.proofs.lemmas.Option.{slice_get_within, get_or_from_slice_get}
use Rattle.std.proofs.lemmas.List.Recursion.{is_count_by}
use lib.ListN.{length, get_or, drop}
use Rattle.numbers.proofs.Deciding.{T_true, T-equal, bool_case, cond_case}
use Rattle.setups.specs.Limits.{literals_most, settings_most}
use Rattle.setups.specs.Clauses.{push, clauses}
use Rattle.setups.specs.Setups.{apiece, settings}
use Rattle.setups.specs.Refusals.{first_place, offends, ended, some_long, long}
use Rattle.setups.specs.Code.Checks.{place_in, tail_place, long_place, setting_place}
use Rattle.setups.proofs.Truth.{literal_goes_on, first_clause_lem}

-- ---- a walk over a buffer

-- at place i, `so_far` of the whole is found, and the bytes from there on give the rest of it
pub record WalkedTo (rest : List ℕ → ℕ) (bytes : List ℕ) (whole so_far i : ℕ) : Type 0 where
  pub inside : i ≤ length bytes
  pub gives : whole ≡ so_far + rest (drop i bytes)

-- ---- the first byte that offends, by any test

first_passes : (test : ℕ → Bool) (b : ℕ) → test b ≡ false → (tail : List ℕ) → first_place test (b ∷ tail) ≡ suc (first_place test tail)
first_passes test b e tail = rw e

-- while no byte before place i offends, the bytes from there on give the place
pub first_from : (test : ℕ → Bool) (bytes : List ℕ) (i : ℕ) → i ≤ length bytes → ((j : ℕ) → j < i → test (get_or bytes j 0) ≡ false)
    → first_place test bytes ≡ i + first_place test (drop i bytes)
first_from test bytes zero l h = omega arith
first_from test [] (suc i) l h = absurd (not-suc-le-zero l)
first_from test (b ∷ bytes) (suc i) l h =
    let rest = first_from test bytes i (le_of_suc-le-suc l) (λ j k. h (suc j) (suc-le-suc k)) in
    omega (arith, rest, first_passes test b (h 0 (zero-lt-suc i)) bytes)

-- the place is one of the buffer's, or its length
pub first_le : (test : ℕ → Bool) (bytes : List ℕ) → first_place test bytes ≤ length bytes
first_le test [] = zero-le
first_le test (b ∷ bytes) = cond_case (λ x. x ≤ suc (length bytes)) (test b) (λ e. zero-le) (λ e. suc-le-suc (first_le test bytes))

-- the byte there offends
pub first_at : (test : ℕ → Bool) (bytes : List ℕ) → first_place test bytes < length bytes
    → test (get_or bytes (first_place test bytes) 0) ≡ true
first_at test [] l = absurd (not-suc-le-zero l)
first_at test (b ∷ bytes) l =
    cond_case (λ x. x < suc (length bytes) → test (get_or (b ∷ bytes) x 0) ≡ true) (test b)
    (λ e k. e) (λ e k. first_at test bytes (le_of_suc-le-suc k)) l

-- and none before it does
pub first_before : (test : ℕ → Bool) (bytes : List ℕ) (j : ℕ) → j < first_place test bytes → test (get_or bytes j 0) ≡ false
first_before test [] j l = absurd (not-suc-le-zero l)
first_before test (b ∷ bytes) zero l =
    bool_case (λ q. 0 < cond q 0 (suc (first_place test bytes)) → q ≡ false) (test b)
    (λ e k. absurd (not-suc-le-zero k)) (λ e k. refl) l
first_before test (b ∷ bytes) (suc j) l =
    cond_case (λ x. suc j < x → test (get_or bytes j 0) ≡ false) (test b)
    (λ e k. absurd (not-suc-le-zero k)) (λ e k. first_before test bytes j (le_of_suc-le-suc k)) l

-- ---- the test that a place is below the length

T-below : (p n : ℕ) → T (ltb p n) ↔ (p < n)
T-below p n = (ltb→lt p n, lt→ltb p n)

whole_iff : (p n : ℕ) → p ≤ n → (ltb p n ≡ false) ↔ (p ≡ n)
whole_iff p n l = ((λ e. omega (arith, ltb-false p n e)), λ e. le-ltb p n (omega arith))

-- or that the walk comes to the end
pub offends_none : (test : ℕ → Bool) (bytes : List ℕ) → (offends test bytes ≡ false) ↔ (first_place test bytes ≡ length bytes)
offends_none test bytes = whole_iff (first_place test bytes) (length bytes) (first_le test bytes)

-- and then no byte offends
pub offends_at : (test : ℕ → Bool) (bytes : List ℕ) → offends test bytes ≡ false → (i : ℕ) → i < length bytes
    → test (get_or bytes i 0) ≡ false
offends_at test bytes e i l = first_before test bytes i (omega (arith, (offends_none test bytes).0 e))

-- ---- Tail

-- bytes are ended where the last of them is 0
pub ended_last : (bytes : List ℕ) (last : ℕ) → suc last ≡ length bytes → ended bytes ≡ eqb (get_or bytes last 0) 0
ended_last [] last e = absurd (suc-ne-zero last e)
ended_last (b ∷ []) zero e = refl
ended_last (b ∷ []) (suc last) e = absurd (suc-ne-zero last (suc_inj e))
ended_last (b ∷ c ∷ bytes) zero e = absurd (suc-ne-zero (length bytes) (sym (suc_inj e)))
ended_last (b ∷ c ∷ bytes) (suc last) e = ended_last (c ∷ bytes) last (suc_inj e)

tail_at : (bytes : List ℕ) (b : ℕ) → slice_get bytes (length bytes - 1) ≡ Some b → ended bytes ≡ eqb b 0
tail_at bytes b e =
    let l : length bytes - 1 < length bytes = slice_get_within bytes (length bytes - 1) b e in
    ended_last bytes (length bytes - 1) (omega arith) ∙ ap (λ (x : ℕ). eqb x 0) (get_or_from_slice_get bytes (length bytes - 1) b 0 e)

-- a last byte that isn't 0 offends, and 0 doesn't
pub tail_bad : (bytes : List ℕ) (b : ℕ) → slice_get bytes (length bytes - 1) ≡ Some b → b ≢ 0
    → Some (length bytes - 1) ≡ place_in bytes (tail_place bytes)
tail_bad bytes b e h = rw (tail_at bytes b e ∙ ne_eqb b 0 h, lt-ltb (length bytes - 1) (length bytes) (slice_get_within bytes (length bytes - 1) b e))

pub tail_fine : (bytes : List ℕ) (b : ℕ) → slice_get bytes (length bytes - 1) ≡ Some b → b ≡ 0 → None ≡ place_in bytes (tail_place bytes)
tail_fine bytes b e h = rw (tail_at bytes b e ∙ eq-eqb b 0 h, le-ltb (length bytes) (length bytes) (le_refl (length bytes)))

-- the place is below the length exactly where the bytes aren't ended
tail_test : (bytes : List ℕ) → ltb (tail_place bytes) (length bytes) ≡ not (ended bytes)
tail_test [] = refl
tail_test (b ∷ bytes) =
    let n = suc (length bytes) in
    bool_case (λ q. ltb (cond q n (n - 1)) n ≡ not q) (ended (b ∷ bytes))
    (λ e. le-ltb n n (le_refl n)) (λ e. lt-ltb (n - 1) n (omega arith))

-- ---- Long: the walk

-- past a literal, which counts
pub long_literal : (run next b : ℕ) → b ≢ 0 → run < literals_most → next ≡ run + 1 → (tail : List ℕ)
    → long_place run (b ∷ tail) ≡ suc (long_place next tail)
long_literal run next b h l n tail = simp (ne_eqb b 0 h, lt-leb literals_most run l, n, add-one)

-- to a literal too many
pub long_stops : (run b : ℕ) → b ≢ 0 → literals_most ≤ run → (tail : List ℕ) → long_place run (b ∷ tail) ≡ 0
long_stops run b h l tail = simp (ne_eqb b 0 h, le-leb literals_most run l)

pub long_le : (run : ℕ) (bytes : List ℕ) → long_place run bytes ≤ length bytes
long_le run [] = zero-le
long_le run (b ∷ bytes) =
    cond_case (λ x. x ≤ suc (length bytes)) (eqb b 0) (λ e. suc-le-suc (long_le 0 bytes))
    (λ e. cond_case (λ x. x ≤ suc (length bytes)) (leb literals_most run) (λ k. zero-le) (λ k. suc-le-suc (long_le (suc run) bytes)))

-- ---- Long: the clauses

-- a clause is too long, where `run` literals of the first one stand before it
abbrev long_after : ℕ → List (List ℕ) → Bool
long_after run [] = false
long_after run (clause ∷ rest) = ltb literals_most (run + length clause) || some_long rest

long_whole : (cs : List (List ℕ)) → long_after 0 cs ≡ some_long cs
long_whole [] = refl
long_whole (clause ∷ rest) = rw zero-add

long_push : (run b : ℕ) (cs : List (List ℕ)) → long_after run (push b cs) ≡ long_after (suc run) cs
long_push run b [] = refl
long_push run b (clause ∷ rest) = let e : run + suc (length clause) ≡ suc run + length clause = omega arith in rw e

-- with no literal more the first one isn't too long
long_ended : (run : ℕ) (cs : List (List ℕ)) → run ≤ literals_most → long_after run ([] ∷ cs) ≡ some_long cs
long_ended run cs l =
    let h : run + 0 ≤ literals_most = omega arith in
    rw (le-ltb literals_most (run + 0) h)

-- with one more it is, where those before it are the most
long_over : (run b : ℕ) (clause : List ℕ) (cs : List (List ℕ)) → literals_most ≤ run → long_after run (push b (clause ∷ cs)) ≡ true
long_over run b clause cs l =
    let h : literals_most < run + suc (length clause) = omega arith in
    rw (lt-ltb literals_most (run + suc (length clause)) h)

ended_tail : (b : ℕ) (bytes : List ℕ) → T (ended (b ∷ bytes)) → T (ended bytes)
ended_tail b [] t = tt
ended_tail b (c ∷ bytes) t = t

long_after_lem : (run : ℕ) (bytes : List ℕ) → T (ended bytes) → run ≤ literals_most
    → ltb (long_place run bytes) (length bytes) ≡ long_after run (clauses bytes)
long_after_lem run [] t l = refl
long_after_lem run (zero ∷ bytes) t l =
    leb-suc-suc (suc (long_place 0 bytes)) (length bytes) ∙ long_after_lem 0 bytes (ended_tail zero bytes t) zero-le
    ∙ long_whole (clauses bytes) ∙ sym (long_ended run (clauses bytes) l)
long_after_lem run (suc b ∷ []) t l = absurd (literal_goes_on b t)
long_after_lem run (suc b ∷ d ∷ bytes) t l =
    by_cases (dec_lt run literals_most)
    (λ k. rw (long_literal run (suc run) (suc b) (suc-ne-zero b) k (sym (add-one run)) (d ∷ bytes))
    (leb-suc-suc (suc (long_place (suc run) (d ∷ bytes))) (suc (length bytes)) ∙ long_after_lem (suc run) (d ∷ bytes) t k
    ∙ sym (long_push run (suc b) (clauses (d ∷ bytes)))))
    (λ k.
    let most : literals_most ≤ run = omega arith in
    let first = first_clause_lem bytes d t in
    rw (long_stops run (suc b) (suc-ne-zero b) most (d ∷ bytes), first.2)
    (lt-ltb 0 (suc (suc (length bytes))) (zero-lt-suc _) ∙ sym (long_over run (suc b) first.0 first.1 most)))

-- for ended bytes the place is below the length exactly where a clause is too long
long_test : (bytes : List ℕ) → ended bytes ≡ true → ltb (long_place 0 bytes) (length bytes) ≡ long bytes
long_test bytes e = long_after_lem 0 bytes ((T_true (ended bytes)).1 e) zero-le ∙ long_whole (clauses bytes)

-- ---- how many clauses, and how many settings

pub push_length : (b : ℕ) (cs : List (List ℕ)) → length (push b cs) ≡ length cs
push_length b [] = refl
push_length b (clause ∷ rest) = refl

-- a 0 ends one
pub clauses_end : (b : ℕ) → b ≡ 0 → (tail : List ℕ) → length (clauses (b ∷ tail)) ≡ suc (length (clauses tail))
clauses_end b e tail = rw e

-- a literal ends none
pub clauses_literal : (b : ℕ) → b ≢ 0 → (tail : List ℕ) → length (clauses (b ∷ tail)) ≡ length (clauses tail)
clauses_literal zero h tail = absurd (h refl)
clauses_literal (suc b) h tail = push_length (suc b) (clauses tail)

-- so that there are as many as zeros
pub clauses_counted : (bytes : List ℕ) → count_by (λ b. eqb b 0) bytes ≡ length (clauses bytes)
clauses_counted bytes = sym (is_count_by (λ tail. length (clauses tail)) (λ b. eqb b 0) refl each bytes)
  where
    each : (b : ℕ) (tail : List ℕ) → length (clauses (b ∷ tail)) ≡ cond (eqb b 0) (1 + length (clauses tail)) (length (clauses tail))
    each zero tail = omega arith
    each (suc b) tail = rw (ne_eqb (suc b) 0 (suc-ne-zero b)) (clauses_literal (suc b) (suc-ne-zero b) tail)

apiece_length : (cs : List (List ℕ)) → length (apiece cs) ≡ length cs
apiece_length [] = refl
apiece_length (clause ∷ rest) = ap suc (apiece_length rest)

-- each soft clause is a setting of its own
pub settings_length : (soft : List ℕ) → length (settings soft) ≡ length (clauses soft)
settings_length soft = apiece_length (clauses soft)

-- ---- Softs: the walk

-- past a literal
pub setting_literal : (left next b : ℕ) → b ≢ 0 → next ≡ left → (tail : List ℕ)
    → setting_place left (b ∷ tail) ≡ suc (setting_place next tail)
setting_literal zero next b h n tail = simp (ne_eqb b 0 h, n)
setting_literal (suc left) next b h n tail = simp (ne_eqb b 0 h, n)

-- the place is below the length exactly where there are more settings than those to pass
pub setting_iff : (left : ℕ) (soft : List ℕ) → (setting_place left soft < length soft) ↔ (left < length (settings soft))
setting_iff left [] = ((λ l. absurd (not-suc-le-zero l)), λ l. absurd (not-suc-le-zero l))
setting_iff left (suc b ∷ soft) =
    let rest = setting_iff left soft in
    let place = setting_literal left left (suc b) (suc-ne-zero b) refl soft in
    let count = settings_length (suc b ∷ soft) ∙ push_length (suc b) (clauses soft) ∙ sym (settings_length soft) in
    ((λ l. omega (arith, rest.0 (omega arith))), λ l. omega (arith, rest.1 (omega arith)))
setting_iff zero (zero ∷ soft) = ((λ l. zero-lt-suc _), λ l. zero-lt-suc _)
setting_iff (suc left) (zero ∷ soft) =
    let rest = setting_iff left soft in
    ((λ l. suc-le-suc (rest.0 (le_of_suc-le-suc l))), λ l. suc-le-suc (rest.1 (le_of_suc-le-suc l)))

setting_test : (left : ℕ) (soft : List ℕ) → ltb (setting_place left soft) (length soft) ≡ ltb left (length (settings soft))
setting_test left soft =
    T-equal (ltb (setting_place left soft) (length soft)) (ltb left (length (settings soft)))
    (Iff.trans (T-below (setting_place left soft) (length soft))
    (Iff.trans (setting_iff left soft) (Iff.symm (T-below left (length (settings soft))))))

-- ---- what each check answers: a place exactly where its test says so

some_in : (bytes : List ℕ) (place : ℕ) → is_some (place_in bytes place) ≡ ltb place (length bytes)
some_in bytes place = bool_case (λ q. is_some (cond q (Some place) None) ≡ q) (ltb place (length bytes)) (λ e. refl) (λ e. refl)

-- the place that the literal checks answer is the first that offends
pub first_position : (test : ℕ → Bool) (bytes : List ℕ) → position test bytes ≡ place_in bytes (first_place test bytes)
first_position test bytes = ap (place_in bytes) (first bytes)
  where
    first : (tail : List ℕ) → position_or_len test tail ≡ first_place test tail
    first [] = refl
    first (b ∷ tail) =
        bool_case (λ q. cond (not q) (1 + position_or_len test tail) 0 ≡ cond q 0 (suc (first_place test tail))) (test b)
        (λ e. refl) (λ e. rw (first tail) (omega arith))

pub literal_found : (test : ℕ → Bool) (bytes : List ℕ) → is_some (position test bytes) ≡ offends test bytes
literal_found test bytes = ap is_some (first_position test bytes) ∙ some_in bytes (first_place test bytes)

pub tail_found : (bytes : List ℕ) → is_some (place_in bytes (tail_place bytes)) ≡ not (ended bytes)
tail_found bytes = some_in bytes (tail_place bytes) ∙ tail_test bytes

pub long_found : (bytes : List ℕ) → ended bytes ≡ true → is_some (place_in bytes (long_place 0 bytes)) ≡ long bytes
long_found bytes e = some_in bytes (long_place 0 bytes) ∙ long_test bytes e

pub softs_found : (soft : List ℕ) → is_some (place_in soft (setting_place settings_most soft)) ≡ ltb settings_most (length (settings soft))
softs_found soft = some_in soft (setting_place settings_most soft) ∙ setting_test settings_most soft
