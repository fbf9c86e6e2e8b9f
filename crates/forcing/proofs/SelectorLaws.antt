-- Selectors: what lies beyond the last one of a set, a setting added, and the selector along a buffer.
use mathlib.Core.Path.{◌≡◌}
use mathlib.Core.Logic.Iff
use mathlib.Core.Logic.{◌⊎◌, inl, inr, ⊎_elim, ◌↔◌, ◌≢◌}
use mathlib.Core.Bool.{Bool, true}
use mathlib.Core.List.{List, ◌∷◌}
use Prim.Native.Nat.{ℕ, ◌+◌, ◌^◌, ◌≤◌, ◌<◌, min, zero-le}
use native.Mathlib.Numerals.{add-one}
use native.Mathlib.Omega.{arith}
use lib.Dec.{T}
use lib.ListN.{length, get_or, drop}
use Rattle.numbers.proofs.Places.{front}
use Rattle.sets.specs.Sets.{In, Share, Joins, only}
use Rattle.numbers.proofs.Deciding.{T_true}
use Rattle.sets.proofs.Digits.{in_below, share_only, only_in}
use Rattle.setups.specs.Limits.{settings_most}
use Rattle.setups.specs.Clauses.{clauses}
use Rattle.setups.specs.Setups.{settings}
use Rattle.setups.proofs.CheckLaws.{settings_length, clauses_end, clauses_literal}
use Rattle.forcing.specs.Selectors.{next_selector, Adds}

-- a set has no setting from its width on
pub beyond : (S n : ℕ) → S < 2 ^ settings_most → settings_most ≤ n → ¬ In n S
beyond S n s l h = omega (arith, in_below settings_most s h)

-- `has`, asked for the setting of selector n
pub has_selector : (b : Bool) (S n k : ℕ) → n < settings_most → k ≡ n + 1 → (b ≡ true) ↔ Share S (only settings_most k)
    → (b ≡ true) ↔ In n S
has_selector b S n k l e h = Iff.trans h (rw (e, add-one) (share_only settings_most n S l))

-- `with`, given the setting of selector n
pub adds_one : (S n k R : ℕ) (counts : Bool) → counts ≡ true → n < settings_most → k ≡ n + 1 → Joins S (only settings_most k) R
    → Adds S counts n R
adds_one S n k R counts t l e h i = Iff.trans (h i) (⊎_elim inl to, ⊎_elim inl from)
  where
    to : In i (only settings_most k) → In i S ⊎ (T counts × (i ≡ n) × (i < settings_most))
    to q =
        let p = (only_in settings_most k i).0 q in
        inr ((T_true counts).1 t, omega (arith, p.0), omega (arith, p.0))

    from : T counts × (i ≡ n) × (i < settings_most) → In i S ⊎ In i (only settings_most k)
    from q = inr ((only_in settings_most k i).1 (omega arith, omega arith))

-- ---- the selector along a soft buffer

-- at place i: the selector n, and the clauses from there on, make up all settings, as far as selectors go
pub record Along (soft : List ℕ) (n i : ℕ) : Type 0 where
  pub upto : i ≤ length soft
  pub sums : min (n + length (clauses (drop i soft))) settings_most ≡ min (length (settings soft)) settings_most

pub along_starts : (soft : List ℕ) (n : ℕ) → n ≡ 0 → Along soft n 0
along_starts soft n e = record { upto = zero-le; sums = omega (arith, settings_length soft) }

module _ {soft : List ℕ} {n i : ℕ} (at : Along soft n i) (l : i < length soft) where
  -- the clauses from the byte at i on
  here : length (clauses (drop i soft)) ≡ length (clauses (get_or soft i 0 ∷ drop (i + 1) soft))
  here = rw (front soft i l)

  pub along_ends : get_or soft i 0 ≡ 0 → {n' : ℕ} → n' ≡ next_selector n → Along soft n' (i + 1)
  along_ends z e = record {
    upto = omega arith;
    sums = omega (arith, at.sums, here, clauses_end (get_or soft i 0) z (drop (i + 1) soft));
  }

  pub along_reads : get_or soft i 0 ≢ 0 → Along soft n (i + 1)
  along_reads z = record {
    upto = omega arith;
    sums = omega (arith, at.sums, here, clauses_literal (get_or soft i 0) z (drop (i + 1) soft));
  }

  -- a literal of a setting that there is: its setting ends further on
  pub along_inside : get_or soft i 0 ≢ 0 → n < settings_most → n < length (settings soft) → 0 < length (clauses (drop (i + 1) soft))
  along_inside z k q = omega (arith, at.sums, here, clauses_literal (get_or soft i 0) z (drop (i + 1) soft))
