-- Runs of stores: one run after the other, and a run from the front.
use mathlib.Core.Path.{◌≡◌, ap, ◌∙◌}
use mathlib.Core.List.{List, [], ◌∷◌, ◌++◌}
use Prim.Native.Nat.{ℕ, suc, ◌+◌, ◌≤◌}
use native.Mathlib.Nat.{add-zero, zero-add}
use native.Mathlib.Omega.{arith}
use lib.ListN.{length, drop, set}
use lib.Seq.{sets, sets-eq}

pub sets_append : (l a b : List ℕ) (i : ℕ) → sets l i (a ++ b) ≡ sets (sets l i a) (i + length a) b
sets_append l [] b i = rw (add-zero i)
sets_append l (x ∷ a) b i =
    let e : suc i + length a ≡ i + suc (length a) = omega arith in
    sets_append (set l i x) a b (suc i) ∙ ap (λ (k : ℕ). sets (sets (set l i x) (suc i) a) k b) e

pub sets_front : (l vs : List ℕ) → length vs ≤ length l → sets l 0 vs ≡ vs ++ drop (length vs) l
sets_front l vs h =
    let k : 0 + length vs ≤ length l = omega arith in
    sets-eq vs l 0 k ∙ rw (zero-add (length vs))
