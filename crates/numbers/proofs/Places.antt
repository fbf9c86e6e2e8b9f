-- Lists by place: what stands from a place on, and a list filled from its front, one place a turn.
use mathlib.Core.Path.{◌≡◌, refl, sym, ◌∙◌}
use mathlib.Core.List.{List, [], ◌∷◌, ◌++◌}
use Prim.Native.Nat.{ℕ, zero, suc, ◌+◌, ◌<◌}
use native.Mathlib.Numerals.{add-one}
use lib.ListN.{length, get_or, set, drop, replicate}
use lib.Seq.{drop-cons, set_at, append_snoc}

-- the rest from place i on is what stands there and the rest from the next place on
pub front : (list : List ℕ) (i : ℕ) → i < length list → drop i list ≡ get_or list i 0 ∷ drop (i + 1) list
front list i l = rw (add-one i, drop-cons list i 0 l)

-- zeros are 0 everywhere
pub zeros_at : (n i : ℕ) → ◌≡◌ {A = ℕ} (get_or (replicate n 0) i 0) 0
zeros_at zero i = refl
zeros_at (suc n) zero = refl
zeros_at (suc n) (suc i) = zeros_at n i

-- the places before i hold `filled`, the others what they held: a store at i fills one more
pub fill_next : (filled places : List ℕ) (i x : ℕ) → length filled ≡ i → i < length places
    → set (filled ++ drop i places) i x ≡ (filled ++ (x ∷ [])) ++ drop (i + 1) places
fill_next filled places i x e l =
    rw (front places i l)
    (set_at filled (get_or places i 0) (drop (i + 1) places) x i e ∙ sym (append_snoc filled x (drop (i + 1) places)))
