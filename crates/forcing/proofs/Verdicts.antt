-- A pass over a clause buffer: what a test of literals makes of its clauses, a byte at a time.
use mathlib.Core.Path.{◌≡◌, refl, sym, ap, subst}
use mathlib.Core.Logic.{◌≢◌, ◌↔◌}
use mathlib.Core.Bool.{Bool, true, false, ◌&&◌, ◌||◌, or_assoc, or-false, and-true}
use mathlib.Core.List.{List, [], ◌∷◌}
use Prim.Native.Nat.{ℕ, zero, suc, ◌+◌, ◌≤◌, ◌<◌, min, suc-le-suc}
use native.Mathlib.Nat.{not-suc-le-zero, le_of_suc-le-suc, zero-lt-suc}
use native.Mathlib.Omega.{arith}
use lib.Dec.{T, ltb, ltb→lt, lt→ltb}
use lib.ListN.{length, get_or, drop, drop_of_length-le}
use Rattle.numbers.proofs.Places.{front}
use Rattle.numbers.proofs.Deciding.{and_left, and_right, and_both}
use Rattle.setups.specs.Limits.{settings_most}
use Rattle.setups.specs.Clauses.{push, clauses, passes, all_pass}
use Rattle.setups.specs.Setups.{apiece, settings}
use Rattle.setups.proofs.Truth.{clauses_push}
use Rattle.forcing.specs.Holding.{holds}

-- whether each clause passes, where `sofar` tells whether a literal of the first that is read already does
abbrev pub verdicts : (ℕ → Bool) → Bool → List (List ℕ) → List Bool
verdicts test sofar [] = []
verdicts test sofar (clause ∷ rest) = (sofar || passes test clause) ∷ verdicts test false rest

-- ---- what the verdicts say

-- the clause at place i
pub verdict_clause : (test : ℕ → Bool) (cs : List (List ℕ)) (i : ℕ) → get_or (verdicts test false cs) i false ≡ passes test (get_or cs i [])
verdict_clause test [] i = refl
verdict_clause test (c ∷ cs) zero = refl
verdict_clause test (c ∷ cs) (suc i) = verdict_clause test cs i

-- the setting at place i
verdict_setting : (test : ℕ → Bool) (cs : List (List ℕ)) (i : ℕ)
    → ((i < length (apiece cs)) × T (all_pass test (get_or (apiece cs) i []))) ↔ T (get_or (verdicts test false cs) i false)
verdict_setting test [] i = ((λ h. not-suc-le-zero h.0), λ t. absurd t)
verdict_setting test (c ∷ cs) zero = (
  (λ h. subst T (and-true (passes test c)) h.1),
  λ t. (zero-lt-suc (length (apiece cs)), subst T (sym (and-true (passes test c))) t),
)
verdict_setting test (c ∷ cs) (suc i) =
    let rest = verdict_setting test cs i in
    ((λ h. rest.0 (le_of_suc-le-suc h.0, h.1)), λ t. let h = rest.1 t in (suc-le-suc h.0, h.1))

pub verdict_holds : (test : ℕ → Bool) (soft : List ℕ) (i : ℕ)
    → T (holds test soft i) ↔ ((i < settings_most) × T (get_or (verdicts test false (clauses soft)) i false))
verdict_holds test soft i =
    let most = min (length (settings soft)) settings_most in
    let named = ltb i most in
    let passing = all_pass test (get_or (settings soft) i []) in
    let verdict = verdict_setting test (clauses soft) i in (
      (λ t.
          let l = ltb→lt i most (and_left named passing t) in
          (omega arith, verdict.0 (omega arith, and_right named passing t))),
      λ h.
          let there = verdict.1 h.1 in
          and_both named passing (lt→ltb i most (omega (arith, h.0, there.0))) there.1,
    )

-- there are as many as clauses
pub verdicts_length : (test : ℕ → Bool) (sofar : Bool) (cs : List (List ℕ)) → length (verdicts test sofar cs) ≡ length cs
verdicts_length test sofar [] = refl
verdicts_length test sofar (c ∷ cs) = ap suc (verdicts_length test false cs)

-- all clauses
abbrev pub all_of : List Bool → Bool
all_of [] = true
all_of (x ∷ rest) = x && all_of rest

pub verdict_all : (test : ℕ → Bool) (cs : List (List ℕ)) → all_of (verdicts test false cs) ≡ all_pass test cs
verdict_all test [] = refl
verdict_all test (c ∷ cs) = ap (λ (q : Bool). passes test c && q) (verdict_all test cs)

-- ---- a byte at a time

pub verdicts_push : (test : ℕ → Bool) (sofar : Bool) (b : ℕ) (cs : List (List ℕ))
    → verdicts test sofar (push b cs) ≡ verdicts test (sofar || test b) cs
verdicts_push test sofar b [] = refl
verdicts_push test sofar b (c ∷ cs) = ap (λ (q : Bool). q ∷ verdicts test false cs) (sym (or_assoc sofar (test b) (passes test c)))

module _ (test : ℕ → Bool) (sofar : Bool) (bytes : List ℕ) (i : ℕ) where
  -- at the end of the buffer there is no clause left
  pub verdicts_past : length bytes ≤ i → verdicts test sofar (clauses (drop i bytes)) ≡ []
  verdicts_past l = rw (drop_of_length-le bytes l)

  -- a 0 ends the first clause
  pub verdicts_end : i < length bytes → get_or bytes i 0 ≡ 0
      → verdicts test sofar (clauses (drop i bytes)) ≡ sofar ∷ verdicts test false (clauses (drop (i + 1) bytes))
  verdicts_end l z =
      rw (front bytes i l, z)
      (ap (λ (q : Bool). q ∷ verdicts test false (clauses (drop (i + 1) bytes))) (or-false sofar))

  -- any other byte is one more literal of it
  pub verdicts_literal : i < length bytes → get_or bytes i 0 ≢ 0
      → verdicts test sofar (clauses (drop i bytes)) ≡ verdicts test (sofar || test (get_or bytes i 0)) (clauses (drop (i + 1) bytes))
  verdicts_literal l n =
      rw (front bytes i l, clauses_push (get_or bytes i 0) (drop (i + 1) bytes) n)
      (verdicts_push test sofar (get_or bytes i 0) (clauses (drop (i + 1) bytes)))

-- ---- the first clause

-- where the first clause does not pass, no literal of it that is read already does
pub first_fails : (test : ℕ → Bool) (sofar : Bool) (cs : List (List ℕ)) → 0 < length cs → ¬ T (get_or (verdicts test sofar cs) 0 false)
    → sofar ≡ false
first_fails test sofar [] l n = absurd (not-suc-le-zero l)
first_fails test true (c ∷ cs) l n = absurd (n tt)
first_fails test false (c ∷ cs) l n = refl
