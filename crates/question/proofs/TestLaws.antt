-- Tests of literals: where more literals pass, more clauses and settings do; and what values so far tell of who agrees with them.
use mathlib.Core.Path.{sym, ◌∙◌, subst}
use mathlib.Core.Logic.{⊎_elim, by_cases}
use mathlib.Core.Bool.{Bool}
use mathlib.Core.List.{List, [], ◌∷◌}
use Prim.Native.Nat.{ℕ, zero, suc, ◌<◌, min}
use native.Mathlib.Nat.{not-suc-le-zero, le_of_suc-le-suc}
use native.Mathlib.Decide.{dec_lt}
use native.Mathlib.Omega.{arith}
use lib.Dec.{T, eqb, ltb, eqb→eq, eqb_refl, lt→ltb}
use lib.ListN.{length, get_or}
use Rattle.numbers.proofs.Deciding.{and_left, and_right, and_both, or_left, or_right, or_cases}
use Rattle.setups.specs.Limits.{settings_most}
use Rattle.setups.specs.Clauses.{wish, passes, all_pass}
use Rattle.setups.specs.Setups.{settings}
use Rattle.setups.proofs.Settling.{wish_small}
use Rattle.literals.specs.Slots.{slot}
use Rattle.forcing.specs.Holding.{is_true, may_be, holds}
use Rattle.forcing.specs.Values.{AgreesWith}

-- ---- more literals that pass

module _ (test more : ℕ → Bool) (weaker : (b : ℕ) → T (test b) → T (more b)) where
  passes_more : (clause : List ℕ) → T (passes test clause) → T (passes more clause)
  passes_more [] t = t
  passes_more (b ∷ clause) t =
      ⊎_elim (λ h. or_left (more b) (passes more clause) (weaker b h)) (λ h. or_right (more b) (passes more clause) (passes_more clause h))
      (or_cases (test b) (passes test clause) t)

  pub all_more : (cs : List (List ℕ)) → T (all_pass test cs) → T (all_pass more cs)
  all_more [] t = tt
  all_more (c ∷ cs) t =
      and_both (passes more c) (all_pass more cs) (passes_more c (and_left (passes test c) (all_pass test cs) t))
      (all_more cs (and_right (passes test c) (all_pass test cs) t))

  pub holds_more : (soft : List ℕ) (i : ℕ) → T (holds test soft i) → T (holds more soft i)
  holds_more soft i t =
      let named = ltb i (min (length (settings soft)) settings_most) in
      let setting = get_or (settings soft) i [] in
      and_both named (all_pass more setting) (and_left named (all_pass test setting) t) (all_more setting (and_right named (all_pass test setting) t))

-- one of the clauses that all pass
pub each_passes : (test : ℕ → Bool) (cs : List (List ℕ)) → T (all_pass test cs) → (i : ℕ) → i < length cs → T (passes test (get_or cs i []))
each_passes test [] t i l = absurd (not-suc-le-zero l)
each_passes test (c ∷ cs) t zero l = and_left (passes test c) (all_pass test cs) t
each_passes test (c ∷ cs) t (suc i) l = each_passes test cs (and_right (passes test c) (all_pass test cs) t) i (le_of_suc-le-suc l)

-- ---- values so far, and an assignment that agrees with them

module _ (values m : List ℕ) (agrees : AgreesWith values m) (b : ℕ) where
  -- what is true so far is true
  pub true_stays : T (is_true values b) → T (is_true m b)
  true_stays t =
      let e = eqb→eq (get_or values (slot b) 0) (wish b) t in
      let same = agrees (slot b) (omega (arith, wish_small b)) in
      subst (λ (x : ℕ). T (eqb x (wish b))) (sym (same ∙ e)) (eqb_refl (wish b))

  -- what is true where the variable has a value was true before
  pub true_was : get_or values (slot b) 0 < 2 → T (is_true m b) → T (is_true values b)
  true_was l t = subst (λ (x : ℕ). T (eqb x (wish b))) (agrees (slot b) l) t

  -- what is true was possible
  pub true_may : T (is_true m b) → T (may_be values b)
  true_may t =
      let free = ltb 1 (get_or values (slot b) 0) in
      by_cases (dec_lt 1 (get_or values (slot b) 0)) (λ l. or_right (is_true values b) free (lt→ltb 1 (get_or values (slot b) 0) l))
      (λ n. or_left (is_true values b) free (true_was (omega arith) t))
