-- A list taken apart from its front: what the check of a list asks is what it asks of the first set and of the rest.
use mathlib.Core.Path.{◌≡◌, refl, sym, ◌∙◌, subst}
use mathlib.Core.Logic.{inl, inr, ⊎_elim, ◌↔◌}
use mathlib.Core.Bool.{Bool, true, false, false≢true}
use mathlib.Core.List.{List, [], ◌∷◌}
use Prim.Native.Nat.{ℕ, ◌-◌, ◌^◌, ◌≤◌, ◌<◌, min}
use native.Mathlib.Nat.{lt_of_lt_of_le}
use native.Mathlib.Omega.{arith}
use lib.ListN.{length, get_or}
use lib.Pow.{pow_pos, pow_mono}
use Rattle.std.specs.Bool.{MatchBool}
use Rattle.std.specs.List.{AllWithin, HoldsAt}
use Rattle.sets.specs.Sets.{Within}
use Rattle.sets.specs.Lists.{Among}
use Rattle.sets.specs.Turns.{Fine}
use Rattle.sets.specs.Tests.{fine}
use Rattle.numbers.proofs.Deciding.{T_true, T_false}
use Rattle.sets.proofs.Lists.{place_listed, listed_place}
use Rattle.sets.proofs.Tests.{fine_iff}
use Rattle.sets.proofs.Digits.{within_le, in_below, full_in}
use Rattle.lent.specs.Leads.{Leads}

-- ---- what a loop answers

-- it answers true where the fact holds
pub answers_true : {A : Type 0} → A → (true ≡ true) ↔ A
answers_true a = ((λ e. a), λ h. refl)

-- and false where it doesn't
pub answers_false : {A : Type 0} → ¬ A → (false ≡ true) ↔ A
answers_false q = ((λ e. absurd (false≢true e)), λ h. absurd (q h))

-- what is asked of a list from some place on is asked of the set there, twice, and from the next place on: where the set passes, what
-- is asked of the whole list is asked from the next place on
pub passed : {Here First Second Next Whole : Type 0} → Here ↔ (First × Second × Next) → First → Second → Here ↔ Whole → Next ↔ Whole
passed at first second here = ((λ next. here.0 (at.1 (first, second, next))), λ whole. (at.0 (here.1 whole)).2)

-- a test of every set of a list, answered by its places, answers for the sets that are listed
pub answers_all : (P : ℕ → Type 0) (list : List ℕ) (answer : Bool)
    → MatchBool answer (AllWithin P list 0 (length list)) ((k : ℕ) × (k < length list) × HoldsAt (λ R. ¬ P R) list k)
    → (answer ≡ true) ↔ ((R : ℕ) → Among R list → P R)
answers_all P list true h = answers_true (λ R l. let place = listed_place list R l in subst P place.2 (h place.0 0 (omega arith) place.1))
answers_all P list false h = answers_false (λ f. h.2 0 (f (get_or list h.0 0) (place_listed list h.0 h.1)))

-- ---- what is asked of the first set and of the rest

-- a list is fine where its first set is over n settings and leads the rest, and the rest is fine
pub fine_front : (n S : ℕ) (list : List ℕ) → Fine n (S ∷ list) ↔ ((S < 2 ^ n) × Leads S list × Fine n list)
fine_front n S list = (to, from)
  where
    to : Fine n (S ∷ list) → (S < 2 ^ n) × Leads S list × Fine n list
    to f = (
      f.below S (inl refl),
      (λ R h. (f.rising.0 R h, λ w. let l = f.rising.0 R h in omega (arith, f.apart S R (inl refl) (inr h) w))),
      record { rising = f.rising.1; below = λ R h. f.below R (inr h); apart = λ A B a b. f.apart A B (inr a) (inr b) },
    )

    from : (S < 2 ^ n) × Leads S list × Fine n list → Fine n (S ∷ list)
    from f = record {
      rising = ((λ R h. (f.1 R h).0), f.2.rising);
      below = λ R. ⊎_elim (λ e. rw e f.0) (f.2.below R);
      apart = pair;
    }
      where
        pair : (A B : ℕ) → Among A (S ∷ list) → Among B (S ∷ list) → Within A B → A ≡ B
        pair A B (inl a) (inl b) w = a ∙ sym b
        pair A B (inl a) (inr b) w = absurd ((f.1 B b).1 (rw a at w))
        pair A B (inr a) (inl b) w = let l = (f.1 A a).0 in absurd (let z : ⊥ = omega (arith, within_le A B w) in z)
        pair A B (inr a) (inr b) w = f.2.apart A B a b w

-- the empty list is fine
pub fine_none : (n : ℕ) → Fine n []
fine_none n = record { rising = tt; below = λ S h. absurd h; apart = λ A B h. absurd h }

pub fine_end : (n : ℕ) (list : List ℕ) → length list ≡ 0 → Fine n list
fine_end n [] e = fine_none n
fine_end n (S ∷ list) e = absurd (let z : ⊥ = omega arith in z)

-- ---- no setting above the count

-- the sets within all of the first n settings are those over n settings, also where n is above the width
pub within_count : (width n S : ℕ) → S < 2 ^ width → Within S (2 ^ min n width - 1) ↔ (S < 2 ^ n)
within_count width n S s = (to, λ l i h. (full_in (min n width) i).1 (let k = in_below n l h in let m = in_below width s h in omega arith))
  where
    to : Within S (2 ^ min n width - 1) → S < 2 ^ n
    to w = lt_of_lt_of_le (let l : S < 2 ^ min n width = omega (arith, within_le S (2 ^ min n width - 1) w, pow_pos (min n width)) in l) (pow_mono (let m : min n width ≤ n = omega arith in m))

-- ---- the answer of the whole check

pub fine_true : (n : ℕ) (list : List ℕ) → Fine n list → true ≡ fine n list
fine_true n list f = sym ((T_true (fine n list)).0 ((fine_iff n list).1 f))

pub fine_false : (n : ℕ) (list : List ℕ) → ¬ Fine n list → false ≡ fine n list
fine_false n list q = sym ((T_false (fine n list)).0 (λ t. q ((fine_iff n list).0 t)))
