-- The two tests that a letter waits for, as `any` and `all` answer them.
use mathlib.Core.Path.{◌≡◌, subst}
use mathlib.Core.Logic.Iff
use mathlib.Core.Logic.{◌↔◌}
use mathlib.Core.Bool.{Bool, true, false, not}
use mathlib.Core.List.{List}
use Prim.Native.Nat.{ℕ, suc, ◌-◌, ◌≤◌, ◌<◌}
use native.Mathlib.Omega.{arith}
use lib.Dec.{T}
use lib.ListN.{length}
use Rattle.std.specs.Bool.{MatchBool}
use Rattle.std.specs.List.{AllWithin, HoldsAt}
use Rattle.sets.specs.Sets.{In, Share, only}
use Rattle.sets.specs.Lists.{Among}
use Rattle.sets.specs.Tests.{has, all}
use Rattle.numbers.proofs.Deciding.{T_true, T-equal}
use Rattle.sets.proofs.Digits.{share_only}
use Rattle.sets.proofs.Tests.{has_in, in_has, lacks_iff, all_at, at_all}
use Rattle.lent.proofs.Fronts.{answers_all}

module _ (width number : ℕ) (some : 0 < number) (most : number ≤ width) (list : List ℕ) where
  -- what the code's `has` says of a set
  has_iff : (S : ℕ) → Share S (only width number) ↔ In (number - 1) S
  has_iff S =
      subst (λ (x : ℕ). Share S (only width x) ↔ In (number - 1) S) (let e : suc (number - 1) ≡ number = omega arith in e)
      (share_only width (number - 1) S (omega arith))

  -- every set has the setting
  pub all_answer : (answer : Bool)
      → MatchBool answer (AllWithin (λ S. Share S (only width number)) list 0 (length list)) ((k : ℕ) × (k < length list) × HoldsAt (λ S. ¬ Share S (only width number)) list k)
      → answer ≡ all (λ S. has S (number - 1)) list
  all_answer answer h =
      T-equal answer (all test list) (Iff.trans (T_true answer) (Iff.trans (answers_all (λ S. Share S (only width number)) list answer h) (to, from)))
    where
      test : ℕ → Bool
      test S = has S (number - 1)

      to : ((S : ℕ) → Among S list → Share S (only width number)) → T (all test list)
      to f = at_all test list (λ S l. in_has S (number - 1) ((has_iff S).0 (f S l)))

      from : T (all test list) → (S : ℕ) → Among S list → Share S (only width number)
      from t S l = (has_iff S).1 (has_in S (number - 1) (all_at test list t S l))

  -- no set has it
  pub none_answer : (answer : Bool)
      → MatchBool answer ((k : ℕ) × (k < length list) × HoldsAt (λ S. Share S (only width number)) list k) (AllWithin (λ S. ¬ Share S (only width number)) list 0 (length list))
      → not answer ≡ all (λ S. not (has S (number - 1))) list
  none_answer answer h =
      T-equal (not answer) (all test list) (Iff.trans (T_true (not answer)) (Iff.trans (answers_all (λ S. ¬ Share S (only width number)) list (not answer) (turned answer h)) (to, from)))
    where
      test : ℕ → Bool
      test S = not (has S (number - 1))

      turned : (answer : Bool)
          → MatchBool answer ((k : ℕ) × (k < length list) × HoldsAt (λ S. Share S (only width number)) list k) (AllWithin (λ S. ¬ Share S (only width number)) list 0 (length list))
          → MatchBool (not answer) (AllWithin (λ S. ¬ Share S (only width number)) list 0 (length list)) ((k : ℕ) × (k < length list) × HoldsAt (λ S. ¬ ¬ Share S (only width number)) list k)
      turned true h = (h.0, h.1, λ d q. q (h.2 d))
      turned false h = h

      to : ((S : ℕ) → Among S list → ¬ Share S (only width number)) → T (all test list)
      to f = at_all test list (λ S l. (lacks_iff S (number - 1)).1 (λ i. f S l ((has_iff S).1 i)))

      from : T (all test list) → (S : ℕ) → Among S list → ¬ Share S (only width number)
      from t S l s = (lacks_iff S (number - 1)).0 (all_at test list t S l) ((has_iff S).0 s)
