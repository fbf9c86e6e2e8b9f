-- The tests of specs/Tests.antt mean their propositions, so that Meetable, WayOut and Clash are decided.
use mathlib.Core.Path.{refl, sym, ap}
use mathlib.Core.Logic.{◌⊎◌, inl, inr, ◌↔◌}
use mathlib.Core.Bool.{Bool, not, ◌&&◌, ◌||◌}
use mathlib.Core.List.{List, [], ◌∷◌}
use Prim.Native.Nat.{ℕ, zero, suc, ◌-◌, ◌^◌, ◌≤◌, ◌<◌, zero-le, suc-le-suc}
use native.Mathlib.Nat.{not-suc-le-zero, le_of_suc-le-suc, le_refl, zero-lt-suc, suc_inj, suc-ne-zero}
use native.Mathlib.Omega.{arith}
use lib.Dec.{T, T_not, not_T, ltb, ltb→lt, lt→ltb}
use lib.ListN.{length, get_or}
use Rattle.sets.specs.Sets.{In, Within}
use Rattle.sets.specs.Tests.{has, every}
use Rattle.numbers.proofs.Deciding.{and_left, and_right, and_both, or_left, or_right, or_cases, implies_use, implies_make, T-dec, dec_iff}
use Rattle.sets.proofs.Tests.{has_in, in_has, every_at, at_every}
use Rattle.sets.proofs.Digits.{in_below, out_within, out_differs, within_out, missing}
use Rattle.setups.specs.Clauses.{clauses, Assigns, all_true}
use Rattle.setups.specs.Setups.{Setup, settings, count, Meetable, Together, Without, WayOut, Clash}
use Rattle.setups.specs.Tests.{some, held, meetable, together, without, way_out, clash}

-- ---- some assignment

-- an assignment with one more value in front
cons_assigns : (n x : ℕ) (m : List ℕ) → x ≤ 1 → Assigns n m → Assigns (suc n) (x ∷ m)
cons_assigns n x m small a = record { size = ap suc a.size; bits = each }
  where
    each : (i : ℕ) → i < suc n → get_or (x ∷ m) i 0 ≤ 1
    each zero l = small
    each (suc i) l = a.bits i (le_of_suc-le-suc l)

tail_assigns : (n x : ℕ) (m : List ℕ) → Assigns (suc n) (x ∷ m) → Assigns n m
tail_assigns n x m a = record { size = suc_inj a.size; bits = λ i h. a.bits (suc i) (suc-le-suc h) }

-- an assignment of n variables that passes
abbrev Passes : ℕ → (List ℕ → Bool) → Type 0
Passes n test = (m : List ℕ) × Assigns n m × T (test m)

pub some_finds : (n : ℕ) (test : List ℕ → Bool) → T (some n test) → Passes n test
some_finds zero test t = ([], record { size = refl; bits = λ i h. zero-le }, t)
some_finds (suc n) test t =
    either (some_finds n (λ m. test (0 ∷ m))) (some_finds n (λ m. test (1 ∷ m)))
    (or_cases (some n (λ m. test (0 ∷ m))) (some n (λ m. test (1 ∷ m))) t)
  where
    with_value : (x : ℕ) → x ≤ 1 → Passes n (λ m. test (x ∷ m)) → Passes (suc n) test
    with_value x small r = (x ∷ r.0, cons_assigns n x r.0 small r.1, r.2)

    either : (T (some n (λ m. test (0 ∷ m))) → Passes n (λ m. test (0 ∷ m))) → (T (some n (λ m. test (1 ∷ m))) → Passes n (λ m. test (1 ∷ m)))
        → T (some n (λ m. test (0 ∷ m))) ⊎ T (some n (λ m. test (1 ∷ m))) → Passes (suc n) test
    either low high (inl a) = with_value 0 zero-le (low a)
    either low high (inr b) = with_value 1 (le_refl 1) (high b)

pub finds_some : (n : ℕ) (test : List ℕ → Bool) (m : List ℕ) → Assigns n m → T (test m) → T (some n test)
finds_some zero test [] a t = t
finds_some zero test (x ∷ m) a t = absurd (suc-ne-zero (length m) a.size)
finds_some (suc n) test [] a t = absurd (suc-ne-zero n (sym a.size))
finds_some (suc n) test (zero ∷ m) a t =
    or_left (some n (λ m. test (0 ∷ m))) (some n (λ m. test (1 ∷ m)))
    (finds_some n (λ m. test (0 ∷ m)) m (tail_assigns n 0 m a) t)
finds_some (suc n) test (suc zero ∷ m) a t =
    or_right (some n (λ m. test (0 ∷ m))) (some n (λ m. test (1 ∷ m)))
    (finds_some n (λ m. test (1 ∷ m)) m (tail_assigns n 1 m a) t)
finds_some (suc n) test (suc (suc x) ∷ m) a t = absurd (let b : ⊥ = omega (arith, a.bits 0 (zero-lt-suc n)) in b)

-- ---- the kept settings

held_at : (keep : ℕ → Bool) (m : List ℕ) (ss : List (List (List ℕ))) → T (held keep m ss)
    → (i : ℕ) → i < length ss → T (keep i) → T (all_true m (get_or ss i []))
held_at keep m [] t i h k = absurd (not-suc-le-zero h)
held_at keep m (s ∷ ss) t zero h k =
    implies_use (keep 0) (all_true m s) (and_left (not (keep 0) || all_true m s) (held (λ i. keep (suc i)) m ss) t) k
held_at keep m (s ∷ ss) t (suc i) h k =
    held_at (λ i. keep (suc i)) m ss (and_right (not (keep 0) || all_true m s) (held (λ i. keep (suc i)) m ss) t) i (le_of_suc-le-suc h) k

at_held : (keep : ℕ → Bool) (m : List ℕ) (ss : List (List (List ℕ)))
    → ((i : ℕ) → i < length ss → T (keep i) → T (all_true m (get_or ss i []))) → T (held keep m ss)
at_held keep m [] f = tt
at_held keep m (s ∷ ss) f =
    and_both (not (keep 0) || all_true m s) (held (λ i. keep (suc i)) m ss)
    (implies_make (keep 0) (all_true m s) (f 0 (zero-lt-suc (length ss))))
    (at_held (λ i. keep (suc i)) m ss (λ i h k. f (suc i) (suc-le-suc h) k))

-- ---- Meetable

module _ (g : Setup) (keep : ℕ → Bool) (Kept : ℕ → Type 0) (is : (i : ℕ) → T (keep i) ↔ Kept i) where
  pub meetable_iff : T (meetable g keep) ↔ Meetable g Kept
  meetable_iff = (to, from)
    where
      to : T (meetable g keep) → Meetable g Kept
      to t =
          let r = some_finds g.variables (λ m. all_true m (clauses g.hard) && held keep m (settings g.soft)) t in
          let hard = all_true r.0 (clauses g.hard) in
          let soft = held keep r.0 (settings g.soft) in (
            r.0,
            record {
              assigns = r.1;
              hard = and_left hard soft r.2;
              kept = λ i h k. held_at keep r.0 (settings g.soft) (and_right hard soft r.2) i h ((is i).1 k);
            },
          )

      from : Meetable g Kept → T (meetable g keep)
      from r =
          finds_some g.variables (λ m. all_true m (clauses g.hard) && held keep m (settings g.soft)) r.0 r.1.assigns
          (and_both (all_true r.0 (clauses g.hard)) (held keep r.0 (settings g.soft)) r.1.hard
          (at_held keep r.0 (settings g.soft) (λ i h k. r.1.kept i h ((is i).0 k))))

pub together_iff : (g : Setup) (C : ℕ) → T (together g C) ↔ Together g C
together_iff g C = meetable_iff g (has C) (λ i. In i C) (λ i. (has_in C i, in_has C i))

pub without_iff : (g : Setup) (S : ℕ) → T (without g S) ↔ Without g S
without_iff g S =
    meetable_iff g (λ i. not (has S i)) (λ i. ¬ In i S)
    (λ i. ((λ t h. T_not (has S i) t (in_has S i h)), λ n. not_T (has S i) (λ t. n (has_in S i t))))

pub together_dec : (g : Setup) (C : ℕ) → Dec (Together g C)
together_dec g C = dec_iff (together_iff g C).0 (together_iff g C).1 (T-dec (together g C))

pub without_dec : (g : Setup) (S : ℕ) → Dec (Without g S)
without_dec g S = dec_iff (without_iff g S).0 (without_iff g S).1 (T-dec (without g S))

-- giving up more, or asking for less, keeps a model
pub without_more : (g : Setup) (S R : ℕ) → Within S R → Without g S → Without g R
without_more g S R w h = (h.0, record { assigns = h.1.assigns; hard = h.1.hard; kept = λ i l k. h.1.kept i l (λ s. k (w i s)) })

pub together_less : (g : Setup) (S R : ℕ) → Within S R → Together g R → Together g S
together_less g S R w h = (h.0, record { assigns = h.1.assigns; hard = h.1.hard; kept = λ i l k. h.1.kept i l (w i k) })

-- ---- WayOut and Clash

module _ (g : Setup) (S : ℕ) where
  -- setting i isn't in S, or putting it back leaves no model
  tight : ℕ → Bool
  tight i = not (has S i) || not (without g (S - 2 ^ i))

  pub way_out_iff : T (way_out g S) ↔ WayOut g S
  unfolding tight
  way_out_iff = (to, from)
    where
      to : T (way_out g S) → WayOut g S
      to t =
          let s : S < 2 ^ count g = ltb→lt S (2 ^ count g) (and_left (ltb S (2 ^ count g)) (without g S && every (count g) tight) t) in
          let u = and_right (ltb S (2 ^ count g)) (without g S && every (count g) tight) t in
          let each = every_at (count g) tight (and_right (without g S) (every (count g) tight) u) in
          record {
            below = s;
            meets = (without_iff g S).0 (and_left (without g S) (every (count g) tight) u);
            tight = λ i h f.
                T_not (without g (S - 2 ^ i)) (implies_use (has S i) (not (without g (S - 2 ^ i))) (each i (in_below (count g) s h)) (in_has S i h))
                ((without_iff g (S - 2 ^ i)).1 f);
          }

      from : WayOut g S → T (way_out g S)
      from w =
          and_both (ltb S (2 ^ count g)) (without g S && every (count g) tight) (lt→ltb S (2 ^ count g) w.below)
          (and_both (without g S) (every (count g) tight) ((without_iff g S).1 w.meets)
          (at_every (count g) tight (λ i l.
          implies_make (has S i) (not (without g (S - 2 ^ i))) (λ k. not_T (without g (S - 2 ^ i)) (λ f. w.tight i (has_in S i k) ((without_iff g (S - 2 ^ i)).0 f))))))

  -- setting i isn't in S, or S without it has a model
  part : ℕ → Bool
  part i = not (has S i) || together g (S - 2 ^ i)

  pub clash_iff : T (clash g S) ↔ Clash g S
  unfolding part
  clash_iff = (to, from)
    where
      to : T (clash g S) → Clash g S
      to t =
          let s : S < 2 ^ count g = ltb→lt S (2 ^ count g) (and_left (ltb S (2 ^ count g)) (not (together g S) && every (count g) part) t) in
          let u = and_right (ltb S (2 ^ count g)) (not (together g S) && every (count g) part) t in
          let each = every_at (count g) part (and_right (not (together g S)) (every (count g) part) u) in
          record {
            below = s;
            fails = λ f. T_not (together g S) (and_left (not (together g S)) (every (count g) part) u) ((together_iff g S).1 f);
            parts = λ R w ne.
                let lack = missing R S w ne in
                let i = lack.0 in
                together_less g R (S - 2 ^ i) (within_out i S R lack.1 w lack.2)
                ((together_iff g (S - 2 ^ i)).0
                (implies_use (has S i) (together g (S - 2 ^ i)) (each i (in_below (count g) s lack.1)) (in_has S i lack.1)));
          }

      from : Clash g S → T (clash g S)
      from c =
          and_both (ltb S (2 ^ count g)) (not (together g S) && every (count g) part) (lt→ltb S (2 ^ count g) c.below)
          (and_both (not (together g S)) (every (count g) part) (not_T (together g S) (λ f. c.fails ((together_iff g S).0 f)))
          (at_every (count g) part (λ i l. implies_make (has S i) (together g (S - 2 ^ i)) (λ k.
          let h : In i S = has_in S i k in
          (together_iff g (S - 2 ^ i)).1 (c.parts (S - 2 ^ i) (out_within i S h) (out_differs i S h))))))

-- both are decided
pub way_out_dec : (g : Setup) (S : ℕ) → Dec (WayOut g S)
way_out_dec g S = dec_iff (way_out_iff g S).0 (way_out_iff g S).1 (T-dec (way_out g S))

pub clash_dec : (g : Setup) (C : ℕ) → Dec (Clash g C)
clash_dec g C = dec_iff (clash_iff g C).0 (clash_iff g C).1 (T-dec (clash g C))
