-- Demand 3 over a setup: the clashes are exactly the smallest sets across the ways out, and the ways out the smallest across the
-- clashes, also where the hard clauses alone have no model (Unmet).
use mathlib.Core.Path.{◌≡◌, sym, subst}
use mathlib.Core.Logic.Iff
use mathlib.Core.Logic.{inl, ⊎_elim, ◌↔◌}
use mathlib.Core.List.{List, [], ◌∷◌}
use Prim.Native.Nat.{ℕ, ◌-◌, ◌<◌, ◌^◌}
use native.Mathlib.Decide.{ℕ_discrete, dec_lt}
use native.Mathlib.Omega.{arith}
use lib.Pow.{pow_pos}
use Rattle.sets.specs.Sets.{Smallest}
use Rattle.sets.specs.Lists.{Among, Exactly}
use Rattle.sets.specs.Turns.{SmallestCross, Turned}
use Rattle.numbers.proofs.Deciding.{dec_and, dec_iff, stable}
use Rattle.sets.proofs.Digits.{in_dec, none_in, none_within, within_le, within_none, within_out, out_within, out_differs, missing, other, other_lt, other_in, other_out}
use Rattle.sets.proofs.Dual.{Up, Dual, across, back, cross_iff}
use Rattle.sets.proofs.Lists.{exists}
use Rattle.setups.specs.Setups.{Setup, count, Together, Without, WayOut, Clash}
use Rattle.setups.proofs.Tests.{together_dec, without_dec, without_more, way_out_dec, clash_dec}

module _ (g : Setup) where
  -- giving up S leaves a model
  pub record Frees (S : ℕ) : Type 0 where
    pub below : S < 2 ^ count g
    pub meets : Without g S

  frees_up : Up (count g) Frees
  frees_up = record {
    below = λ S h. h.below;
    decided = λ S.
        dec_iff (λ h. record { below = h.0; meets = h.1 }) (λ h. (h.below, h.meets)) (dec_and (dec_lt S (2 ^ count g)) (without_dec g S));
    larger = λ S R w r h. record { below = r; meets = without_more g S R w h.meets };
  }

  -- a way out is a smallest set that leaves a model
  pub way_out_smallest : (S : ℕ) → WayOut g S ↔ Smallest Frees S
  way_out_smallest S = (to, from)
    where
      to : WayOut g S → Smallest Frees S
      to h = (
        record { below = h.below; meets = h.meets },
        λ R w ne f.
            let lack = missing R S w ne in
            h.tight lack.0 lack.1 (without_more g R (S - 2 ^ lack.0) (within_out lack.0 S R lack.1 w lack.2) f.meets),
      )

      from : Smallest Frees S → WayOut g S
      from h = record {
        below = h.0.below;
        meets = h.0.meets;
        tight = λ i k f.
            let s : S < 2 ^ count g = h.0.below in
            let l : S - 2 ^ i < 2 ^ count g = omega arith in
            h.1 (S - 2 ^ i) (out_within i S k) (out_differs i S k) (record { below = l; meets = f });
      }

  -- C together has a model exactly when giving up all that is outside C leaves one
  outside_to : (C : ℕ) → Without g (other (count g) C) → Together g C
  outside_to C h =
      (h.0, record { assigns = h.1.assigns; hard = h.1.hard; kept = λ i l k. h.1.kept i l (other_out (count g) C i k) })

  outside_from : (C : ℕ) → Together g C → Without g (other (count g) C)
  outside_from C h = (
    h.0,
    record {
      assigns = h.1.assigns;
      hard = h.1.hard;
      kept = λ i l k. h.1.kept i l (stable (in_dec i C) (λ q. k (other_in (count g) C i l q)));
    },
  )

  -- a clash is a smallest set whose outside doesn't leave a model
  pub clash_smallest : (C : ℕ) → Clash g C ↔ Smallest (Dual (count g) Frees) C
  clash_smallest C = (to, from)
    where
      to : Clash g C → Smallest (Dual (count g) Frees) C
      to h = (
        record { below = h.below; outside = λ f. h.fails (outside_to C f.meets) },
        λ R w ne d. d.outside (record { below = other_lt (count g) R; meets = outside_from R (h.parts R w ne) }),
      )

      from : Smallest (Dual (count g) Frees) C → Clash g C
      from h = record {
        below = h.0.below;
        fails = λ t. h.0.outside (record { below = other_lt (count g) C; meets = outside_from C t });
        parts = λ R w ne. stable (together_dec g R) (λ q.
            let c : C < 2 ^ count g = h.0.below in
            let r : R < 2 ^ count g = omega (arith, within_le R C w) in
            h.1 R w ne (record { below = r; outside = λ f. q (outside_to R f.meets) }));
      }

  -- the clashes are the smallest sets that share a setting with every way out
  pub clashes_cross : (C : ℕ) → Clash g C ↔ SmallestCross (count g) (WayOut g) C
  clashes_cross C =
      Iff.trans (clash_smallest C) (Iff.trans (Iff.symm (across (count g) Frees frees_up C))
      (cross_iff (count g) (Smallest Frees) (WayOut g) (λ S. Iff.symm (way_out_smallest S)) C))

  -- the ways out are the smallest sets that share a setting with every clash
  pub ways_out_cross : (S : ℕ) → WayOut g S ↔ SmallestCross (count g) (Clash g) S
  ways_out_cross S =
      Iff.trans (way_out_smallest S) (Iff.trans (Iff.symm (back (count g) Frees frees_up S))
      (cross_iff (count g) (Smallest (Dual (count g) Frees)) (Clash g) (λ C. Iff.symm (clash_smallest C)) S))

  -- ---- over lists

  -- the list of the ways out turns into the list of the clashes, and the other way about
  module _ (ways clashes : List ℕ) (w : Exactly (WayOut g) ways) (c : Exactly (Clash g) clashes) where
    pub clashes_turned : Turned (count g) ways clashes
    clashes_turned = record {
      rising = c.rising;
      exact = λ C.
          Iff.trans (c.exact C) (Iff.trans (clashes_cross C) (cross_iff (count g) (WayOut g) (λ M. Among M ways) (λ S. Iff.symm (w.exact S)) C));
    }

    pub ways_out_turned : Turned (count g) clashes ways
    ways_out_turned = record {
      rising = w.rising;
      exact = λ S.
          Iff.trans (w.exact S) (Iff.trans (ways_out_cross S) (cross_iff (count g) (Clash g) (λ M. Among M clashes) (λ C. Iff.symm (c.exact C)) S));
    }

  -- both lists exist
  pub ways_out_exist : (list : List ℕ) × Exactly (WayOut g) list
  ways_out_exist = exists (WayOut g) (way_out_dec g) (2 ^ count g) (λ S h. h.below)

  pub clashes_exist : (list : List ℕ) × Exactly (Clash g) list
  clashes_exist = exists (Clash g) (clash_dec g) (2 ^ count g) (λ S h. h.below)

  -- ---- Unmet

  -- where the hard clauses have no model there is no way out
  pub unmet_no_way_out : ¬ Together g 0 → (S : ℕ) → ¬ WayOut g S
  unmet_no_way_out unmet S h =
      unmet (
        h.meets.0,
        record {
          assigns = h.meets.1.assigns;
          hard = h.meets.1.hard;
          kept = λ i l k. absurd (none_in i k);
        },
      )

  -- and the empty set is the only clash
  pub unmet_empty_clash : ¬ Together g 0 → (C : ℕ) → Clash g C ↔ (C ≡ 0)
  unmet_empty_clash unmet C = (to, from)
    where
      to : Clash g C → C ≡ 0
      to h = stable (ℕ_discrete C 0) (λ ne. unmet (h.parts 0 (none_within C) (λ e. ne (sym e))))

      from : C ≡ 0 → Clash g C
      from e = subst (Clash g) (sym e) (record {
        below = pow_pos (count g);
        fails = unmet;
        parts = λ R w ne. absurd (ne (within_none R w));
      })

  -- both as lists
  pub unmet_ways_out : ¬ Together g 0 → Exactly (WayOut g) []
  unmet_ways_out unmet = record { rising = tt; exact = λ S. ((λ h. absurd h), λ w. absurd (unmet_no_way_out unmet S w)) }

  pub unmet_clashes : ¬ Together g 0 → Exactly (Clash g) (0 ∷ [])
  unmet_clashes unmet = record {
    rising = ((λ R h. absurd h), tt);
    exact = λ C. (⊎_elim (unmet_empty_clash unmet C).1 (λ h. absurd h), λ c. inl ((unmet_empty_clash unmet C).0 c));
  }
