-- What the marks mean: kept, lost and open as facts of the listed sets, and where each setting's mark stands.
use mathlib.Core.Path.{◌≡◌, refl, ap}
use mathlib.Core.Logic.{◌↔◌, by_cases}
use mathlib.Core.Bool.{Bool, not}
use mathlib.Core.List.{List}
use Prim.Native.Nat.{ℕ, zero, suc, ◌+◌, ◌<◌}
use native.Mathlib.Nat.{not-suc-le-zero, le_of_suc-le-suc}
use native.Mathlib.Omega.{arith}
use lib.Dec.{T}
use lib.ListN.{length, get_or}
use Rattle.sets.specs.Sets.{In}
use Rattle.sets.specs.Lists.{Among}
use Rattle.sets.specs.Tests.{has, all}
use Rattle.sets.specs.Marks.{kept, lost, open', mark, marks_from, marks}
use Rattle.numbers.proofs.Deciding.{T_true, T_false, dec_not, stable}
use Rattle.sets.proofs.Digits.{in_dec}
use Rattle.sets.proofs.Lists.{some_dec}
use Rattle.sets.proofs.Tests.{has_in, in_has, lacks_iff, all_at, at_all}

-- ---- a setting's mark

module _ (list : List ℕ) (i : ℕ) where
  -- some listed set has the setting at place i
  abbrev pub Had : Type 0
  Had = (S : ℕ) × Among S list × In i S

  -- some listed set has it not
  abbrev pub Spared : Type 0
  Spared = (S : ℕ) × Among S list × (¬ In i S)

  -- both are decided
  had_dec : Dec Had
  had_dec = some_dec (λ S. In i S) (in_dec i) list

  spared_dec : Dec Spared
  spared_dec = some_dec (λ S. ¬ In i S) (λ S. dec_not (in_dec i S)) list

  -- the two tests that a mark waits for
  abbrev none : Bool
  none = all (λ S. not (has S i)) list

  abbrev whole : Bool
  whole = all (λ S. has S i) list

  -- they say that no listed set has the setting, and that no listed set has it not
  none_iff : T none ↔ (¬ Had)
  none_iff = (
    (λ t h. (lacks_iff h.0 i).0 (all_at (λ S. not (has S i)) list t h.0 h.1) h.2),
    λ q. at_all (λ S. not (has S i)) list (λ S h. (lacks_iff S i).1 (λ k. q (S, h, k))),
  )

  whole_iff : T whole ↔ (¬ Spared)
  whole_iff = (
    (λ t h. h.2 (has_in h.0 i (all_at (λ S. has S i) list t h.0 h.1))),
    λ q. at_all (λ S. has S i) list (λ S h. in_has S i (stable (in_dec i S) (λ k. q (S, h, k)))),
  )

  -- the mark in each of the three cases
  mark_kept : ¬ Had → mark list i ≡ kept
  mark_kept q = rw ((T_true none).0 (none_iff.1 q))

  mark_lost : Had → ¬ Spared → mark list i ≡ lost
  mark_lost h q = rw ((T_false none).0 (λ t. none_iff.0 t h), (T_true whole).0 (whole_iff.1 q))

  mark_open : Had → Spared → mark list i ≡ open'
  mark_open h s = rw ((T_false none).0 (λ t. none_iff.0 t h), (T_false whole).0 (λ t. whole_iff.0 t s))

  -- kept: no listed set has the setting
  pub kept_iff : (mark list i ≡ kept) ↔ ((S : ℕ) → Among S list → ¬ In i S)
  kept_iff = (to, λ f. mark_kept (λ h. f h.0 h.1 h.2))
    where
      to : mark list i ≡ kept → (S : ℕ) → Among S list → ¬ In i S
      to e S h k = by_cases spared_dec (λ s. omega (arith, mark_open (S, h, k) s)) (λ q. omega (arith, mark_lost (S, h, k) q))

  -- lost: some set is listed, and each listed set has the setting
  pub lost_iff : (mark list i ≡ lost) ↔ (((S : ℕ) × Among S list) × ((S : ℕ) → Among S list → In i S))
  lost_iff = (to, λ f. mark_lost (f.0.0, f.0.1, f.1 f.0.0 f.0.1) (λ s. s.2 (f.1 s.0 s.1)))
    where
      to : mark list i ≡ lost → ((S : ℕ) × Among S list) × ((S : ℕ) → Among S list → In i S)
      to e =
          by_cases had_dec
          (λ h. ((h.0, h.1), λ S k. stable (in_dec i S) (λ n. omega (arith, mark_open h (S, k, n)))))
          (λ q. absurd (let b : ⊥ = omega (arith, mark_kept q) in b))

  -- open: some listed set has the setting and some has it not
  pub open_iff : (mark list i ≡ open') ↔ (Had × Spared)
  open_iff = (to, λ f. mark_open f.0 f.1)
    where
      to : mark list i ≡ open' → Had × Spared
      to e =
          by_cases had_dec
          (λ h. (h, stable spared_dec (λ q. omega (arith, mark_lost h q))))
          (λ q. absurd (let b : ⊥ = omega (arith, mark_kept q) in b))

-- ---- the marks of n settings

-- there are n
pub marks_length : (n : ℕ) (list : List ℕ) → length (marks n list) ≡ n
marks_length n list = from 0 n
  where
    from : (i n : ℕ) → length (marks_from i n list) ≡ n
    from i zero = refl
    from i (suc n) = ap suc (from (suc i) n)

-- the i-th is the mark of the setting at place i
pub marks_at : (n : ℕ) (list : List ℕ) (i : ℕ) → i < n → get_or (marks n list) i 0 ≡ mark list i
marks_at n list i l = from 0 n i i l (omega arith)
  where
    from : (k n i place : ℕ) → i < n → place ≡ k + i → get_or (marks_from k n list) i 0 ≡ mark list place
    from k zero i place l e = absurd (not-suc-le-zero l)
    from k (suc n) zero place l e = ap (mark list) (let z : k ≡ place = omega arith in z)
    from k (suc n) (suc i) place l e = from (suc k) n i place (le_of_suc-le-suc l) (omega arith)
