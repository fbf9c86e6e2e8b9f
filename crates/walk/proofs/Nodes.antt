-- The nodes of the walk as numbers: where the settings from place `left` up are decided, the sets that agree with them are an interval.
use mathlib.Core.Path.{◌≡◌, subst}
use Prim.Native.Nat.{ℕ, suc, ◌+◌, ◌*◌, ◌^◌}
use native.Mathlib.Nat.{pow-succ', mul_left_comm}
use native.Mathlib.Omega.{arith}
use Rattle.sets.specs.Sets.{In}
use Rattle.sets.proofs.Digits.{high_in}
use Rattle.walk.specs.Walking.{AboveDecided}

twice : (a i : ℕ) → a * 2 ^ suc i ≡ 2 * (a * 2 ^ i)
twice a i = rw (pow-succ' 2 i) (mul_left_comm a 2 (2 ^ i))

-- a multiple of 2 ^ (i + 1) has no setting at place i
low_out : (i a : ℕ) → ¬ In i (a * 2 ^ suc i)
low_out i a h = let k = high_in (suc i) a i h in omega (arith, k.1)

-- at the root no setting is decided
pub root_decided : (n : ℕ) → AboveDecided n n 0 0
root_decided n = record {
  above = 0;
  high_given = 0;
  high_kept = 0;
  all = omega arith;
  gives = omega arith;
  keeps = omega arith;
  whole = omega arith;
}

module _ {n i given kept : ℕ} (h : AboveDecided n (suc i) given kept) where
  -- the highest setting left is neither given up nor kept
  pub not_given : ¬ In i given
  not_given k = low_out i h.high_given (subst (In i) h.gives k)

  pub not_kept : ¬ In i kept
  not_kept k = low_out i h.high_kept (subst (In i) h.keeps k)

  -- it is kept next
  pub keep_decided : AboveDecided n i given (kept + 2 ^ i)
  keep_decided = record {
    above = suc h.above;
    high_given = 2 * h.high_given;
    high_kept = 2 * h.high_kept + 1;
    all = omega (arith, h.all);
    gives = omega (arith, h.gives, twice h.high_given i);
    keeps = omega (arith, h.keeps, twice h.high_kept i);
    whole = omega (arith, h.whole);
  }

  -- or given up
  pub give_decided : AboveDecided n i (given + 2 ^ i) kept
  give_decided = record {
    above = suc h.above;
    high_given = 2 * h.high_given + 1;
    high_kept = 2 * h.high_kept;
    all = omega (arith, h.all);
    gives = omega (arith, h.gives, twice h.high_given i);
    keeps = omega (arith, h.keeps, twice h.high_kept i);
    whole = omega (arith, h.whole);
  }
