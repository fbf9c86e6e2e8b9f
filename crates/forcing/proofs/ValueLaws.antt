-- Values by place: what a value that is set does to the free ones and to who agrees; the first and the last values of a search.
use mathlib.Core.Path.{◌≡◌, sym}
use mathlib.Core.List.{List, [], ◌∷◌, ◌++◌}
use Prim.Native.Nat.{ℕ, zero, suc, ◌≤◌, ◌<◌, suc-le-suc}
use native.Mathlib.Nat.{suc_inj, suc-ne-zero}
use native.Mathlib.Omega.{arith}
use borrow.Author.Tests.{le-ltb}
use lib.ListN.{length, get_or, set, replicate}
use Rattle.numbers.proofs.Places.{zeros_at}
use Rattle.setups.specs.Limits.{variables_most}
use Rattle.setups.specs.Searching.{free_count}
use Rattle.setups.proofs.Scanning.{free_set}
use Rattle.forcing.specs.Values.{AgreesWith}

-- ---- one value set

-- setting a value frees none
pub free_set_le : (values : List ℕ) (p x : ℕ) → x ≤ 1 → free_count (set values p x) ≤ free_count values
unfolding free_count
free_set_le [] p x l = omega arith
free_set_le (y ∷ values) zero x l = simp (le-ltb 1 x l) (omega arith)
free_set_le (y ∷ values) (suc p) x l = omega (arith, free_set_le values p x l)

-- setting a free one leaves one fewer
pub free_set_lt : (values : List ℕ) (p x : ℕ) → 1 < get_or values p 0 → x ≤ 1 → free_count (set values p x) < free_count values
free_set_lt values p x h l = omega (arith, free_set values p x h (suc-le-suc l))

-- who agrees, and has the value there, agrees still
pub agrees_set : (values m : List ℕ) (p x : ℕ) → AgreesWith values m → get_or m p 0 ≡ x → AgreesWith (set values p x) m
agrees_set [] m p x a e i h = a i h
agrees_set (y ∷ values) m zero x a e zero h = e
agrees_set (y ∷ values) m zero x a e (suc i) h = a (suc i) h
agrees_set (y ∷ values) m (suc p) x a e zero h = a zero h
agrees_set (y ∷ values) [] (suc p) x a e (suc i) h = agrees_set values [] p x (λ j. a (suc j)) e i h
agrees_set (y ∷ values) (z ∷ m) (suc p) x a e (suc i) h = agrees_set values m p x (λ j. a (suc j)) e i h

-- ---- the values that a search starts from

-- every assignment of n variables agrees with n free values and zeros
pub agrees_opening : (n k : ℕ) (m : List ℕ) → length m ≡ n → AgreesWith (replicate n 2 ++ replicate k 0) m
agrees_opening zero k [] e i h = sym (zeros_at k i)
agrees_opening zero k (x ∷ m) e i h = absurd (suc-ne-zero (length m) e)
agrees_opening (suc n) k [] e i h = absurd (suc-ne-zero n (sym e))
agrees_opening (suc n) k (x ∷ m) e zero h = absurd (let b : ⊥ = omega arith in b)
agrees_opening (suc n) k (x ∷ m) e (suc i) h = agrees_opening n k m (suc_inj e) i h

-- ---- free values become 0

-- below place i none is free, and what is not free stays
pub record Completing (values model : List ℕ) (i : ℕ) : Type 0 where
  pub upto : i ≤ variables_most
  pub size : length model ≡ variables_most
  pub done : (j : ℕ) → j < i → get_or model j 0 < 2
  pub agrees : AgreesWith values model
