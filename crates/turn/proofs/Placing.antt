-- A set put into a rising list: the list rises again and has that set more; and how `insert` does it.
use mathlib.Core.Path.{◌≡◌, refl, sym, ap, ◌∙◌}
use mathlib.Core.Logic.{◌⊎◌, inl, inr, ⊎_elim, ◌↔◌, by_cases}
use mathlib.Core.Bool.{true, false}
use mathlib.Core.List.{List, [], ◌∷◌, ◌++◌}
use Prim.Native.Nat.{ℕ, zero, suc, ◌+◌, ◌-◌, ◌≤◌, ◌<◌, min, max}
use native.Mathlib.Nat.{not-suc-le-zero}
use native.Mathlib.Decide.{dec_lt}
use native.Mathlib.Omega.{arith}
use lib.Dec.{ltb}
use lib.ListN.{length, get_or, set, take, drop, length-set, length-append, length-take, length-drop}
use lib.Seq.{length-paste, take-take, take_at, drop_at, length-take-le}
use borrow.Author.Tests.{ltb-true, ltb-false, lt-ltb}
use Rattle.std.specs.List.{insert}
use Rattle.std.specs.List.Sorted.{IsPartitionedBy, IsPartitionPoint}
use Rattle.std.proofs.lemmas.Slice.{between_is, put_mid-paste, take-put_mid}
use Rattle.sets.specs.Lists.{Among, Rising}
use Rattle.std.proofs.lemmas.List.{get_or_default, take_more_set, take-set-le, drop-append-le}
use borrow.Rule.Slice.PartMut.{put_mid}
use Rattle.sets.proofs.Lists.{place_listed, listed_place}
use Rattle.turn.specs.Code.Growing.{placed}

-- ---- the list with the set in its place

-- it has one set more
pub placed_length : (S : ℕ) (list : List ℕ) → length (placed S list) ≡ suc (length list)
placed_length S [] = refl
placed_length S (R ∷ list) = ap suc (placed_length (max S R) list)

-- the smaller and the larger of two numbers are the one and the other
either : (S R : ℕ) → ((min S R ≡ S) × (max S R ≡ R)) ⊎ ((min S R ≡ R) × (max S R ≡ S))
either S R = by_cases (dec_lt S R) (λ l. inl (omega arith)) (λ l. inr (omega arith))

-- the one that was put in
pub placed_listed : (S : ℕ) (list : List ℕ) (X : ℕ) → Among X (placed S list) ↔ ((X ≡ S) ⊎ Among X list)
placed_listed S [] X = ((λ h. h), λ h. h)
placed_listed S (R ∷ list) X = go (min S R) (max S R) (either S R) (placed_listed (max S R) list X)
  where
    go : (low high : ℕ) → ((low ≡ S) × (high ≡ R)) ⊎ ((low ≡ R) × (high ≡ S)) → Among X (placed high list) ↔ ((X ≡ high) ⊎ Among X list)
        → ((X ≡ low) ⊎ Among X (placed high list)) ↔ ((X ≡ S) ⊎ ((X ≡ R) ⊎ Among X list))
    go low high (inl o) rest = (
      ⊎_elim (λ e. inl (e ∙ o.0)) (λ h. inr (⊎_elim (λ e. inl (e ∙ o.1)) inr (rest.0 h))),
      ⊎_elim (λ e. inl (e ∙ sym o.0)) (λ h. inr (rest.1 (⊎_elim (λ e. inl (e ∙ sym o.1)) inr h))),
    )
    go low high (inr o) rest = (
      ⊎_elim (λ e. inr (inl (e ∙ o.0))) (λ h. ⊎_elim (λ e. inl (e ∙ o.1)) (λ k. inr (inr k)) (rest.0 h)),
      ⊎_elim (λ e. inr (rest.1 (inl (e ∙ sym o.1)))) (⊎_elim (λ e. inl (e ∙ sym o.0)) (λ k. inr (rest.1 (inr k)))),
    )

-- and it rises, if that one was not there
pub placed_rising : (S : ℕ) (list : List ℕ) → Rising list → ¬ Among S list → Rising (placed S list)
placed_rising S [] r q = ((λ R h. absurd h), tt)
placed_rising S (R ∷ list) r q = (first, placed_rising (max S R) list r.1 later)
  where
    first : (X : ℕ) → Among X (placed (max S R) list) → min S R < X
    first X h =
        let ne : ¬ (S ≡ R) = λ e. q (inl e) in
        ⊎_elim (λ e. omega arith) (λ k. omega (arith, r.0 X k)) ((placed_listed (max S R) list X).0 h)

    later : ¬ Among (max S R) list
    later h = ⊎_elim (λ o. omega (arith, r.0 (max S R) h)) (λ o. q (inr (rw o.1 at h))) (either S R)

-- ---- the place that is found by halves

-- the sets below S come first
pub rising_parts : (S : ℕ) (list : List ℕ) → Rising list → IsPartitionedBy (λ R. ltb R S) list
rising_parts S [] r i j d l m t = absurd (not-suc-le-zero m)
rising_parts S (R ∷ list) r zero zero d l m t = t
rising_parts S (R ∷ list) r zero (suc j) d l m t =
    let k : j < length list = omega arith in
    let e : get_or list j d ≡ get_or list j 0 = get_or_default list j d 0 k in
    let above : R < get_or list j d = rw e (r.0 (get_or list j 0) (place_listed list j k)) in
    let below : get_or list j d < S = ltb-true (get_or list j d) S t in
    lt-ltb R S (omega arith)
rising_parts S (R ∷ list) r (suc i) zero d l m t = absurd (not-suc-le-zero l)
rising_parts S (R ∷ list) r (suc i) (suc j) d l m t = rising_parts S list r.1 i j d (omega arith) (omega arith) t

-- a set that is not above any of a rising list stands before them
placed_first : (S : ℕ) (list : List ℕ) → Rising list → ((X : ℕ) → Among X list → S ≤ X) → placed S list ≡ S ∷ list
placed_first S [] r low = refl
placed_first S (R ∷ list) r low =
    let l : S ≤ R = low R (inl refl) in
    let one : min S R ≡ S = omega arith in
    let other : max S R ≡ R = omega arith in
    rw (one, other) (ap (λ (rest : List ℕ). S ∷ rest) (placed_first R list r.1 (λ X h. let m = r.0 X h in omega arith)))

-- so the place of S is where the sets that are not below it begin
pub placed_at : (S : ℕ) (list : List ℕ) (at : ℕ) → Rising list → at ≤ length list → IsPartitionPoint (λ R. ltb R S ≡ true) (λ R. ltb R S ≡ false) list at
    → placed S list ≡ insert list at S
placed_at S list zero r l parts =
    placed_first S list r (λ X h. let place = listed_place list X h in rw place.2 at (ltb-false (get_or list place.0 0) S (parts.1 place.0 0 (omega arith) place.1)))
placed_at S [] (suc at) r l parts = absurd (not-suc-le-zero l)
placed_at S (R ∷ list) (suc at) r l parts =
    let b : R < S = ltb-true R S (parts.0 zero 0 (omega arith) (omega arith)) in
    let one : min S R ≡ R = omega arith in
    let other : max S R ≡ S = omega arith in
    rw (one, other)
    (ap (λ (rest : List ℕ). R ∷ rest) (placed_at S list at r.1 (omega arith)
    ((λ k d a b. parts.0 (suc k) d (omega arith) (omega arith)), λ k d a b. parts.1 (suc k) d (omega arith) (omega arith))))

-- ---- the sets from there on move by one place

-- a set behind the first `filled` goes to place `at`, as the part from there to it turns by one
pub turned : (list : List ℕ) (at filled S : ℕ) (part moved : List ℕ) → at ≤ filled → filled < length list → part ≡ take (filled + 1 - at) (drop at (set list filled S))
    → moved ≡ drop (length part - 1) part ++ take (length part - 1) part
    → take (filled + 1) (put_mid at (filled + 1 - at) (set list filled S) moved) ≡ insert (take filled list) at S
turned list at filled S part moved l m e f =
    take-put_mid at (filled + 1 - at) (set list filled S) moved (filled + 1) (omega (arith, ap length turns, length-drop at sets, size)) (omega (arith, length-set list filled S)) ∙ rw (kept, turns)
  where
    sets : List ℕ
    sets = take filled list

    size : length sets ≡ filled
    size = length-take-le filled list (omega arith)

    whole : part ≡ drop at sets ++ (S ∷ [])
    whole =
        e ∙ between_is (set list filled S) at (filled + 1) ∙ ap (drop at) (take_more_set list filled S m) ∙ drop-append-le at sets (S ∷ []) (omega (arith, size))

    before : length part - 1 ≡ length (drop at sets)
    before = rw (whole, length-append) (omega arith)

    turns : moved ≡ S ∷ drop at sets
    turns = f ∙ rw (before, whole, drop_at (drop at sets) (S ∷ []) (length (drop at sets)) refl, take_at (drop at sets) (S ∷ []) (length (drop at sets)) refl)

    kept : take at (set list filled S) ≡ take at sets
    kept = take-set-le at list filled S l ∙ sym (take-take at filled list l)

-- and there are as many places as before
pub turned_length : (list : List ℕ) (at filled S : ℕ) (part moved : List ℕ) → at ≤ filled → filled < length list → part ≡ take (filled + 1 - at) (drop at (set list filled S))
    → length moved ≡ length part → length (put_mid at (filled + 1 - at) (set list filled S) moved) ≡ length list
turned_length list at filled S part moved l m e f =
    let long : length part ≡ filled + 1 - at = rw e (omega (arith, length-take (filled + 1 - at) (drop at (set list filled S)), length-drop at (set list filled S), length-set list filled S)) in
    rw (put_mid-paste at (filled + 1 - at) (set list filled S) moved moved (filled + 1 - at) refl refl (omega arith))
    (length-paste (set list filled S) at moved (filled + 1 - at) (omega (arith, length-set list filled S)) (omega arith) ∙ length-set list filled S)
