-- Literals: what the tests of a byte say, of one byte and of a buffer, and the literals of a buffer's clauses.
use mathlib.Core.Path.{◌≡◌, refl, sym, ◌∙◌, subst}
use mathlib.Core.Logic.{inl, inr, ⊎_elim, ◌≢◌}
use mathlib.Core.Bool.{false}
use mathlib.Core.List.{List, [], ◌∷◌}
use Prim.Native.Nat.{ℕ, zero, suc, ◌%◌, ◌<◌, suc-le-suc}
use native.Mathlib.Nat.{zero-lt-suc, suc-ne-zero}
use native.Mathlib.Omega.{arith}
use borrow.Author.Tests.{eqb-false, ltb-false, ne_eqb}
use lib.Dec.{eqb, ltb}
use lib.ListN.{length, get_or}
use Rattle.sets.specs.Lists.{Among}
use Rattle.numbers.proofs.Deciding.{neither}
use Rattle.setups.specs.Clauses.{push, clauses, LiteralOf, place}
use Rattle.setups.specs.Refusals.{no_literal, no_clause_byte, offends}
use Rattle.setups.proofs.CheckLaws.{offends_at}

-- ---- what the tests of a byte say

-- a byte that the test passes is a literal of n variables
pub literal : (n b : ℕ) → no_literal n b ≡ false → LiteralOf n b
literal n b e =
    let h = neither (eqb (b % 128) 0) (ltb n (b % 128)) e in
    record { some = omega (arith, eqb-false (b % 128) 0 h.0); most = ltb-false n (b % 128) h.1 }

-- a byte of clauses that is no end is to be a literal
pub byte_literal : (n b : ℕ) → b ≢ 0 → no_clause_byte n b ≡ no_literal n b
byte_literal n b h = simp (ne_eqb b 0 h)

pub clause_literal : (n b : ℕ) → no_clause_byte n b ≡ false → b ≢ 0 → LiteralOf n b
clause_literal n b e h = literal n b (sym (byte_literal n b h) ∙ e)

-- the value of its variable has one of n places
pub place_below : (n b : ℕ) → LiteralOf n b → place b < n
place_below n b l = omega arith

-- ---- a buffer in which no byte offends

-- each byte of clauses that isn't 0 is a literal
pub clause_bytes : (n : ℕ) (bytes : List ℕ) → offends (no_clause_byte n) bytes ≡ false → (i : ℕ) → i < length bytes
    → get_or bytes i 0 ≢ 0 → LiteralOf n (get_or bytes i 0)
clause_bytes n bytes e i l = clause_literal n (get_or bytes i 0) (offends_at (no_clause_byte n) bytes e i l)

-- each assumed byte is one
pub assumed_bytes : (n : ℕ) (assumed : List ℕ) → offends (no_literal n) assumed ≡ false → (i : ℕ) → i < length assumed
    → LiteralOf n (get_or assumed i 0)
assumed_bytes n assumed e i l = literal n (get_or assumed i 0) (offends_at (no_literal n) assumed e i l)

-- ---- the clauses of a buffer whose bytes are literals

literals_pushed : (n x : ℕ) (cs : List (List ℕ)) → LiteralOf n x → ((clause : List ℕ) → Among clause cs → (b : ℕ) → Among b clause → LiteralOf n b)
    → (clause : List ℕ) → Among clause (push x cs) → (b : ℕ) → Among b clause → LiteralOf n b
literals_pushed n x [] h f clause among b l = absurd among
literals_pushed n x (c ∷ cs) h f clause (inl e) b l = ⊎_elim (λ k. rw k h) (f c (inl refl) b) (subst (Among b) e l)
literals_pushed n x (c ∷ cs) h f clause (inr a) b l = f clause (inr a) b l

-- each literal of each clause is one of n variables
pub clauses_literals : (n : ℕ) (bytes : List ℕ) → ((i : ℕ) → i < length bytes → get_or bytes i 0 ≢ 0 → LiteralOf n (get_or bytes i 0))
    → (clause : List ℕ) → Among clause (clauses bytes) → (b : ℕ) → Among b clause → LiteralOf n b
clauses_literals n [] f clause among b l = absurd among
clauses_literals n (zero ∷ bytes) f clause (inl e) b l = absurd (subst (Among b) e l)
clauses_literals n (zero ∷ bytes) f clause (inr a) b l = clauses_literals n bytes (λ i h. f (suc i) (suc-le-suc h)) clause a b l
clauses_literals n (suc x ∷ bytes) f clause among b l =
    literals_pushed n (suc x) (clauses bytes) (f 0 (zero-lt-suc (length bytes)) (suc-ne-zero x))
    (clauses_literals n bytes (λ i h. f (suc i) (suc-le-suc h))) clause among b l
