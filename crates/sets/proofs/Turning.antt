-- Turning a list: the turn of a fine list exists, there is no second one, it is fine again, and its own turn is the first list.
use mathlib.Core.Path.{◌≡◌, refl, sym}
use mathlib.Core.Logic.Iff
use mathlib.Core.Logic.{inl, inr, ◌↔◌}
use mathlib.Core.List.{List, [], ◌∷◌}
use Prim.Native.Nat.{ℕ, ◌^◌, ◌<◌}
use native.Mathlib.Decide.{ℕ_discrete, dec_lt}
use lib.Pow.{pow_pos}
use Rattle.sets.specs.Sets.{Within, Share, Smallest}
use Rattle.sets.specs.Lists.{Among}
use Rattle.sets.specs.Turns.{Crosses, SmallestCross, Fine, Turned}
use Rattle.numbers.proofs.Deciding.{dec_and, dec_not, dec_iff, stable}
use Rattle.sets.proofs.Digits.{within_antisym, within_self, within_trans, within_none, none_within, within_dec, none_share, share_sym, share_dec}
use Rattle.sets.proofs.Lists.{exactly_unique, some_dec, exists, smallest_dec}
use Rattle.sets.proofs.Dual.{Up, Dual, across, back, cross_iff}

-- ---- the turn of a list

-- whether a set crosses all listed ones is decided
pub crosses_dec : (n : ℕ) (list : List ℕ) (S : ℕ) → Dec (Crosses n (λ M. Among M list) S)
crosses_dec n list S =
    dec_iff (λ h. record { below = h.0; each = λ M k. stable (share_dec S M) (λ q. h.1 (M, k, q)) })
    (λ h. (h.below, λ t. t.2 (h.each t.0 t.1)))
    (dec_and (dec_lt S (2 ^ n)) (dec_not (some_dec (λ M. ¬ Share S M) (λ M. dec_not (share_dec S M)) list)))

-- every list has a turn
pub turn_exists : (n : ℕ) (list : List ℕ) → (turned : List ℕ) × Turned n list turned
turn_exists n list =
    exists (SmallestCross n (λ M. Among M list)) (smallest_dec (Crosses n (λ M. Among M list)) (crosses_dec n list)) (2 ^ n)
    (λ S h. h.0.below)

-- and no second one
pub turn_unique : (n : ℕ) (list a b : List ℕ) → Turned n list a → Turned n list b → a ≡ b
turn_unique n list = exactly_unique (SmallestCross n (λ M. Among M list))

-- a turn may be turned
pub turned_fine : (n : ℕ) (list turned : List ℕ) → Turned n list turned → Fine n turned
turned_fine n list turned t = record {
  rising = t.rising;
  below = λ S h. ((t.exact S).0 h).0.below;
  apart = λ S R s r w. stable (ℕ_discrete S R) (λ ne. ((t.exact R).0 r).1 S w ne ((t.exact S).0 s).0);
}

-- ---- turning twice

-- a set over n settings that contains a listed one
record Above (n : ℕ) (list : List ℕ) (S : ℕ) : Type 0 where
  below : S < 2 ^ n
  one : (M : ℕ) × Among M list × Within M S

module _ (n : ℕ) (list : List ℕ) (fine : Fine n list) where
  -- these are decided, and each larger set is one of them
  above_up : Up n (Above n list)
  above_up = record {
    below = λ S h. h.below;
    decided = dec;
    larger = λ S R w r h. record { below = r; one = (h.one.0, h.one.1, within_trans h.one.0 S R h.one.2 w) };
  }
    where
      dec : (S : ℕ) → Dec (Above n list S)
      dec S =
          dec_iff (λ h. record { below = h.0; one = h.1 }) (λ h. (h.below, h.one))
          (dec_and (dec_lt S (2 ^ n)) (some_dec (λ M. Within M S) (λ M. within_dec M S) list))

  -- the smallest of these are the listed ones
  listed_smallest : (S : ℕ) → Among S list ↔ Smallest (Above n list) S
  listed_smallest S = (to, from)
    where
      itself : (M : ℕ) → Among M list → Above n list M
      itself M h = record { below = fine.below M h; one = (M, h, within_self M) }

      to : Among S list → Smallest (Above n list) S
      to h = (itself S h, λ R w ne a. ne (within_antisym R S w (below R w a)))
        where
          below : (R : ℕ) → Within R S → Above n list R → Within S R
          below R w a = rw (fine.apart a.one.0 S a.one.1 h (within_trans a.one.0 R S a.one.2 w)) at a.one.2

      from : Smallest (Above n list) S → Among S list
      from h =
          let t = h.0.one in
          rw (stable (ℕ_discrete t.0 S) (λ ne. h.1 t.0 t.2 ne (itself t.0 t.1))) at t.1

  -- so the turn lists the smallest sets of the dual
  turn_dual : (turned : List ℕ) → Turned n list turned → (S : ℕ) → Among S turned ↔ Smallest (Dual n (Above n list)) S
  turn_dual turned t S =
      Iff.trans (t.exact S)
      (Iff.trans (cross_iff n (λ M. Among M list) (Smallest (Above n list)) listed_smallest S) (across n (Above n list) above_up S))

  -- and the first list is the turn of its turn
  pub turn_back : (turned : List ℕ) → Turned n list turned → Turned n turned list
  turn_back turned t = record { rising = fine.rising; exact = same }
    where
      same : (S : ℕ) → Among S list ↔ SmallestCross n (λ M. Among M turned) S
      same S =
          Iff.trans (listed_smallest S)
          (Iff.symm
          (Iff.trans (cross_iff n (λ M. Among M turned) (Smallest (Dual n (Above n list))) (turn_dual turned t) S)
          (back n (Above n list) above_up S)))

-- ---- the empty list, and the list of the empty set

-- the turn of the empty list is the list of the empty set alone
pub turn_of_empty : (n : ℕ) → Turned n [] (0 ∷ [])
turn_of_empty n = record { rising = ((λ R h. absurd h), tt); exact = λ S. (to S, from S) }
  where
    all : (S : ℕ) → S < 2 ^ n → Crosses n (λ M. Among M []) S
    all S s = record { below = s; each = λ M h. absurd h }

    to : (S : ℕ) → Among S (0 ∷ []) → SmallestCross n (λ M. Among M []) S
    to S (inl e) = rw e (all 0 (pow_pos n), λ R w ne c. ne (within_none R w))
    to S (inr h) = absurd h

    from : (S : ℕ) → SmallestCross n (λ M. Among M []) S → Among S (0 ∷ [])
    from S h = inl (stable (ℕ_discrete S 0) (λ ne. h.1 0 (none_within S) (λ e. ne (sym e)) (all 0 (pow_pos n))))

-- the turn of the list of the empty set alone is the empty list
pub turn_of_nothing : (n : ℕ) → Turned n (0 ∷ []) []
turn_of_nothing n = record {
  rising = tt;
  exact = λ S. ((λ h. absurd h), λ h. none_share S (share_sym S 0 (h.0.each 0 (inl refl))));
}
