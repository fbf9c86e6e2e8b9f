-- The tests of specs/Tests.antt mean their propositions; and two tests more, for lists that a table spells out.
use mathlib.Core.Path.{◌≡◌, refl, sym, ◌∙◌, subst}
use mathlib.Core.Logic.Iff
use mathlib.Core.Logic.{◌⊎◌, inl, inr, ⊎_elim, ◌↔◌, by_cases}
use mathlib.Core.Bool.{Bool, false, not, ◌&&◌, ◌||◌}
use mathlib.Core.List.{List, [], ◌∷◌}
use Prim.Native.Nat.{ℕ, zero, suc, ◌^◌, ◌<◌}
use native.Mathlib.Nat.{not-suc-le-zero, le_refl}
use native.Mathlib.Decide.{dec_lt}
use native.Mathlib.Omega.{arith}
use lib.Dec.{T, eqb, eqb→eq, eqb_refl, ltb, ltb→lt, lt→ltb}
use Rattle.sets.specs.Sets.{digit, In, Within}
use Rattle.sets.specs.Lists.{Among, Rising, Apart, Exactly}
use Rattle.sets.specs.Turns.{Fine}
use Rattle.sets.specs.Tests.{has, every, all, within, climbs, rises, apart, fine}
use Rattle.numbers.proofs.Deciding.{and_left, and_right, and_both, and_iff, not_iff, or_left, or_right, or_cases, implies_use, implies_make}
use Rattle.sets.proofs.Digits.{in_below}

-- ---- settings

-- what passes is in the set
pub has_in : (S i : ℕ) → T (has S i) → In i S
has_in S i t = eqb→eq (digit S i) 1 t

-- what is in the set passes
pub in_has : (S i : ℕ) → In i S → T (has S i)
in_has S i h = rw h tt

-- what fails is not in the set, and the other way about
pub lacks_iff : (S i : ℕ) → T (not (has S i)) ↔ (¬ In i S)
lacks_iff S i = Iff.trans (not_iff (has S i)) (Iff.not (has_in S i, in_has S i))

-- ---- numbers below n, and the sets of a list

-- where every number below n passes, each does
pub every_at : (n : ℕ) (test : ℕ → Bool) → T (every n test) → (i : ℕ) → i < n → T (test i)
every_at zero test t i l = absurd (not-suc-le-zero l)
every_at (suc n) test t i l =
    let rest = every_at n test (and_right (test n) (every n test) t) i in
    by_cases (dec_lt i n) rest
    (λ k. subst (λ (x : ℕ). T (test x)) (let e : n ≡ i = omega arith in e) (and_left (test n) (every n test) t))

-- where each does, every number passes
pub at_every : (n : ℕ) (test : ℕ → Bool) → ((i : ℕ) → i < n → T (test i)) → T (every n test)
at_every zero test f = tt
at_every (suc n) test f =
    and_both (test n) (every n test) (f n (le_refl (suc n))) (at_every n test (λ i l. f i (omega arith)))

-- where every set of a list passes, each listed one does
pub all_at : (test : ℕ → Bool) (list : List ℕ) → T (all test list) → (S : ℕ) → Among S list → T (test S)
all_at test [] t S h = absurd h
all_at test (R ∷ list) t S (inl e) = rw e (and_left (test R) (all test list) t)
all_at test (R ∷ list) t S (inr h) = all_at test list (and_right (test R) (all test list) t) S h

-- where each listed one does, every set passes
pub at_all : (test : ℕ → Bool) (list : List ℕ) → ((S : ℕ) → Among S list → T (test S)) → T (all test list)
at_all test [] f = tt
at_all test (R ∷ list) f =
    and_both (test R) (all test list) (f R (inl refl)) (at_all test list (λ S h. f S (inr h)))

-- ---- a list that may be turned

-- the test for a set over n settings that lies within another
pub within_iff : (n S R : ℕ) → S < 2 ^ n → T (within n S R) ↔ Within S R
within_iff n S R s = (to, from)
  where
    test : ℕ → Bool
    test i = not (has S i) || has R i

    to : T (every n test) → Within S R
    to t i h = has_in R i (implies_use (has S i) (has R i) (every_at n test t i (in_below n s h)) (in_has S i h))

    from : Within S R → T (every n test)
    from w = at_every n test (λ i l. implies_make (has S i) (has R i) (λ t. in_has R i (w i (has_in S i t))))

-- the test for a list that climbs from above `low`
climbs_iff : (low : ℕ) (list : List ℕ) → T (climbs low list) ↔ (((S : ℕ) → Among S list → low < S) × Rising list)
climbs_iff low [] = ((λ t. ((λ S h. absurd h), tt)), λ h. tt)
climbs_iff low (S ∷ list) = both (climbs_iff S list)
  where
    above : low < S → ((R : ℕ) → Among R list → S < R) → (R : ℕ) → Among R (S ∷ list) → low < R
    above l r R (inl e) = omega arith
    above l r R (inr h) = omega (arith, r R h)

    both : T (climbs S list) ↔ Rising (S ∷ list)
        → T (ltb low S && climbs S list) ↔ (((R : ℕ) → Among R (S ∷ list) → low < R) × Rising (S ∷ list))
    both rest = (to, λ h. and_both (ltb low S) (climbs S list) (lt→ltb low S (h.0 S (inl refl))) (rest.1 h.1))
      where
        to : T (ltb low S && climbs S list) → ((R : ℕ) → Among R (S ∷ list) → low < R) × Rising (S ∷ list)
        to t =
            let k = (and_iff (ltb low S) (climbs S list)).0 t in
            let r = rest.0 k.1 in
            (above (ltb→lt low S k.0) r.0, r)

-- the test for a list that rises
pub rises_iff : (list : List ℕ) → T (rises list) ↔ Rising list
rises_iff [] = ((λ t. tt), λ h. tt)
rises_iff (S ∷ list) = climbs_iff S list

-- the test for two sets over n settings of which neither contains the other
clear_iff : (n S R : ℕ) → S < 2 ^ n → R < 2 ^ n → T (not (within n S R) && not (within n R S)) ↔ ((¬ Within S R) × (¬ Within R S))
clear_iff n S R s r =
    Iff.trans (and_iff (not (within n S R)) (not (within n R S)))
    (Iff.and (Iff.trans (not_iff (within n S R)) (Iff.not (within_iff n S R s)))
    (Iff.trans (not_iff (within n R S)) (Iff.not (within_iff n R S r))))

-- the test for a rising list over n settings of which no set contains another
pub apart_iff : (n : ℕ) (list : List ℕ) → Rising list → ((S : ℕ) → Among S list → S < 2 ^ n) → T (apart n list) ↔ Apart list
apart_iff n [] r b = ((λ t S R h. absurd h), λ a. tt)
apart_iff n (S ∷ list) r b = both (apart_iff n list r.1 (λ R h. b R (inr h)))
  where
    test : ℕ → Bool
    test R = not (within n S R) && not (within n R S)

    clear : (R : ℕ) → Among R list → T (test R) ↔ ((¬ Within S R) × (¬ Within R S))
    clear R h = clear_iff n S R (b S (inl refl)) (b R (inr h))

    pair : T (all test list) → Apart list → (A B : ℕ) → Among A (S ∷ list) → Among B (S ∷ list) → Within A B → A ≡ B
    pair t a A B (inl e) (inl f) w = e ∙ sym f
    pair t a A B (inl e) (inr k) w = absurd (((clear B k).0 (all_at test list t B k)).0 (rw e at w))
    pair t a A B (inr h) (inl f) w = absurd (((clear A h).0 (all_at test list t A h)).1 (rw f at w))
    pair t a A B (inr h) (inr k) w = a A B h k w

    alone : Apart (S ∷ list) → (R : ℕ) → Among R list → T (test R)
    alone a R h =
        let l : S < R = r.0 R h in
        (clear R h).1 ((λ w. omega (arith, a S R (inl refl) (inr h) w)), λ w. omega (arith, a R S (inr h) (inl refl) w))

    both : T (apart n list) ↔ Apart list → T (all test list && apart n list) ↔ Apart (S ∷ list)
    both rest = (
      (λ t. pair (and_left (all test list) (apart n list) t) (rest.0 (and_right (all test list) (apart n list) t))),
      λ a. and_both (all test list) (apart n list) (at_all test list (alone a)) (rest.1 (λ A B h k. a A B (inr h) (inr k))),
    )

-- the test for a list that Turn and Mark take
pub fine_iff : (n : ℕ) (list : List ℕ) → T (fine n list) ↔ Fine n list
fine_iff n list = (to, from)
  where
    under : ℕ → Bool
    under S = ltb S (2 ^ n)

    to : T (fine n list) → Fine n list
    to t =
        let u = (and_iff (rises list) (all under list && apart n list)).0 t in
        let v = (and_iff (all under list) (apart n list)).0 u.1 in
        let r = (rises_iff list).0 u.0 in
        let b : (S : ℕ) → Among S list → S < 2 ^ n = λ S h. ltb→lt S (2 ^ n) (all_at under list v.0 S h) in
        record { rising = r; below = b; apart = (apart_iff n list r b).0 v.1 }

    from : Fine n list → T (fine n list)
    from f =
        and_both (rises list) (all under list && apart n list) ((rises_iff list).1 f.rising)
        (and_both (all under list) (apart n list) (at_all under list (λ S h. lt→ltb S (2 ^ n) (f.below S h)))
        ((apart_iff n list f.rising f.below).1 f.apart))

-- ---- lists that a table spells out

-- S stands in the list
abbrev pub listed : ℕ → List ℕ → Bool
listed S [] = false
listed S (R ∷ list) = eqb S R || listed S list

-- the test for it
pub listed_iff : (S : ℕ) (list : List ℕ) → T (listed S list) ↔ Among S list
listed_iff S [] = ((λ t. t), λ h. h)
listed_iff S (R ∷ list) = both (listed_iff S list)
  where
    both : T (listed S list) ↔ Among S list → T (eqb S R || listed S list) ↔ ((S ≡ R) ⊎ Among S list)
    both rest = (
      (λ t. ⊎_elim (λ e. inl (eqb→eq S R e)) (λ h. inr (rest.0 h)) (or_cases (eqb S R) (listed S list) t)),
      ⊎_elim (λ e. or_left (eqb S R) (listed S list) (rw e (eqb_refl R))) (λ h. or_right (eqb S R) (listed S list) (rest.1 h)),
    )

-- the list rises, each of its sets is below `top` and passes, and each set below `top` that passes stands in it
abbrev pub lists : ℕ → (ℕ → Bool) → List ℕ → Bool
lists top test list =
    rises list && (all (λ S. ltb S top && test S) list && every top (λ S. not (test S) || listed S list))

-- such a list is the exact one of a family below `top` that the test decides there
pub lists_exactly : (top : ℕ) (P : ℕ → Type 0) (test : ℕ → Bool) (list : List ℕ) → ((S : ℕ) → P S → S < top)
    → ((S : ℕ) → S < top → T (test S) ↔ P S) → T (lists top test list) → Exactly P list
lists_exactly top P test list below is t =
    let u = (and_iff (rises list) (all good list && every top found)).0 t in
    let v = (and_iff (all good list) (every top found)).0 u.1 in
    record { rising = (rises_iff list).0 u.0; exact = λ S. (to v.0 S, from v.1 S) }
  where
    good : ℕ → Bool
    good S = ltb S top && test S

    found : ℕ → Bool
    found S = not (test S) || listed S list

    to : T (all good list) → (S : ℕ) → Among S list → P S
    to each S h =
        let k = (and_iff (ltb S top) (test S)).0 (all_at good list each S h) in
        (is S (ltb→lt S top k.0)).0 k.1

    from : T (every top found) → (S : ℕ) → P S → Among S list
    from each S p =
        let s = below S p in
        (listed_iff S list).0 (implies_use (test S) (listed S list) (every_at top found each S s) ((is S s).1 p))
