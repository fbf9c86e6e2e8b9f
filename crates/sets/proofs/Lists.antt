-- Lists of sets: a rising list is known by its members, lists grow at their end, and every decided family below a bound has its exact list.
use mathlib.Core.Path.{◌≡◌, refl, sym, ap₂, subst}
use mathlib.Core.Logic.Iff
use mathlib.Core.Logic.{◌⊎◌, inl, inr, ⊎_elim, ◌≢◌, ◌↔◌, by_cases}
use mathlib.Core.List.{List, [], ◌∷◌, ◌++◌}
use Prim.Native.Nat.{ℕ, zero, suc, ◌≤◌, ◌<◌, zero-le, suc-le-suc}
use native.Mathlib.Nat.{not-suc-le-zero, le_of_suc-le-suc, zero-lt-suc}
use native.Mathlib.Decide.{ℕ_discrete, dec_lt}
use native.Mathlib.Omega.{arith}
use lib.ListN.{length, get_or}
use Rattle.sets.specs.Sets.{Within, Smallest}
use Rattle.sets.specs.Lists.{Among, Rising, Exactly}
use Rattle.numbers.proofs.Deciding.{any, dec_and, dec_not, dec_iff}
use Rattle.sets.proofs.Digits.{within_le, within_dec}

-- ---- members

-- what stands at a place of the list is listed
pub place_listed : (list : List ℕ) (i : ℕ) → i < length list → Among (get_or list i 0) list
place_listed [] i l = absurd (not-suc-le-zero l)
place_listed (S ∷ list) zero l = inl refl
place_listed (S ∷ list) (suc i) l = inr (place_listed list i (le_of_suc-le-suc l))

-- what is listed stands at a place of the list
pub listed_place : (list : List ℕ) (S : ℕ) → Among S list → (i : ℕ) × (i < length list) × (get_or list i 0 ≡ S)
listed_place [] S h = absurd h
listed_place (R ∷ list) S (inl e) = (0, zero-lt-suc (length list), sym e)
listed_place (R ∷ list) S (inr h) = let r = listed_place list S h in (suc r.0, suc-le-suc r.1, r.2)

-- what stands in two lists joined stands in one of them
pub listed_append : (a b : List ℕ) (S : ℕ) → Among S (a ++ b) ↔ (Among S a ⊎ Among S b)
listed_append [] b S = (inr, ⊎_elim (λ h. absurd h) (λ h. h))
listed_append (R ∷ a) b S = (
  ⊎_elim (λ e. inl (inl e)) (λ h. ⊎_elim (λ k. inl (inr k)) inr ((listed_append a b S).0 h)),
  ⊎_elim (⊎_elim inl (λ h. inr ((listed_append a b S).1 (inl h)))) (λ h. inr ((listed_append a b S).1 (inr h))),
)

-- what stands in a list with one set put behind stood in the list, or is that set
pub listed_last : (list : List ℕ) (S R : ℕ) → Among R (list ++ (S ∷ [])) ↔ (Among R list ⊎ (R ≡ S))
listed_last list S R =
    Iff.trans (listed_append list (S ∷ []) R)
    (⊎_elim inl (⊎_elim inr (λ h. absurd h)), ⊎_elim inl (λ e. inr (inl e)))

-- some listed set has P, or none has
pub some_dec : (P : ℕ → Type 0) → ((S : ℕ) → Dec (P S)) → (list : List ℕ) → Dec ((S : ℕ) × Among S list × P S)
some_dec P dec [] = no (λ h. h.1)
some_dec P dec (R ∷ list) = go (dec R) (some_dec P dec list)
  where
    go : Dec (P R) → Dec ((S : ℕ) × Among S list × P S) → Dec ((S : ℕ) × Among S (R ∷ list) × P S)
    go (yes p) d = yes (R, inl refl, p)
    go (no q) (yes h) = yes (h.0, inr h.1, h.2)
    go (no q) (no r) = no (λ h. ⊎_elim (λ e. q (subst P e h.2)) (λ k. r (h.0, k, h.2)) h.1)

-- ---- rising lists

-- two rising lists joined rise where each set of the first is below each of the second
pub rising_append : (a b : List ℕ) → Rising a → Rising b → ((S R : ℕ) → Among S a → Among R b → S < R) → Rising (a ++ b)
rising_append [] b r s l = s
rising_append (S ∷ a) b r s l = (
  (λ R h. ⊎_elim (r.0 R) (l S R (inl refl)) ((listed_append a b R).0 h)),
  rising_append a b r.1 s (λ T R h. l T R (inr h)),
)

-- a rising list with a set put behind that is above all of them rises
pub rising_last : (list : List ℕ) (S : ℕ) → Rising list → ((R : ℕ) → Among R list → R < S) → Rising (list ++ (S ∷ []))
rising_last list S r l =
    rising_append list (S ∷ []) r ((λ R h. absurd h), tt) (λ Q R h. ⊎_elim (λ e. rw e (l Q h)) (λ k. absurd k))

-- the first set of a rising list is not above the others
head_le : (S R : ℕ) (list : List ℕ) → Rising (R ∷ list) → Among S (R ∷ list) → R ≤ S
head_le S R list r (inl e) = omega arith
head_le S R list r (inr h) = omega (arith, r.0 S h)

-- a set that follows S in a rising list is not S
past_head : (S R : ℕ) (a b : List ℕ) → Rising (S ∷ a) → Among R a → Among R (S ∷ b) → Among R b
past_head S R a b r h (inl e) = absurd (let z : ⊥ = omega (arith, r.0 R h) in z)
past_head S R a b r h (inr k) = k

-- rising lists with the same members are the same
pub rising_unique : (a b : List ℕ) → Rising a → Rising b → ((S : ℕ) → Among S a ↔ Among S b) → a ≡ b
rising_unique [] [] r s e = refl
rising_unique [] (R ∷ b) r s e = absurd ((e R).1 (inl refl))
rising_unique (S ∷ a) [] r s e = absurd ((e S).0 (inl refl))
rising_unique (S ∷ a) (R ∷ b) r s e = ap₂ ◌∷◌ same (rising_unique a b r.1 s.1 (λ Q. (to Q, from Q)))
  where
    same : S ≡ R
    same = omega (arith, head_le S R b s ((e S).0 (inl refl)), head_le R S a r ((e R).1 (inl refl)))

    to : (Q : ℕ) → Among Q a → Among Q b
    to Q h = past_head S Q a b r h (rw same ((e Q).0 (inr h)))

    from : (Q : ℕ) → Among Q b → Among Q a
    from Q h = past_head R Q b a s h (rw (← same) ((e Q).1 (inr h)))

-- a rising list whose members stand in another is no longer than that
pub rising_shorter : (a b : List ℕ) → Rising a → Rising b → ((S : ℕ) → Among S a → Among S b) → length a ≤ length b
rising_shorter [] b r s f = zero-le
rising_shorter (S ∷ a) [] r s f = absurd (f S (inl refl))
rising_shorter (S ∷ a) (R ∷ b) r s f = go (f S (inl refl)) (rising_shorter a b r.1 s.1) (rising_shorter (S ∷ a) b r s.1)
  where
    go : (S ≡ R) ⊎ Among S b → (((Q : ℕ) → Among Q a → Among Q b) → length a ≤ length b)
        → (((Q : ℕ) → Among Q (S ∷ a) → Among Q b) → suc (length a) ≤ length b) → suc (length a) ≤ suc (length b)
    go (inl e) drop-both drop-one = suc-le-suc (drop-both (λ Q h. past_head S Q a b r h (rw e (f Q (inr h)))))
    go (inr k) drop-both drop-one = let l = drop-one later in omega arith
      where
        later : (Q : ℕ) → Among Q (S ∷ a) → Among Q b
        later Q (inl e) = rw e k
        later Q (inr h) = ⊎_elim (λ e. absurd (let z : ⊥ = omega (arith, r.0 Q h, s.0 S k) in z)) (λ j. j) (f Q (inr h))

-- ---- exact lists

-- a family has one exact list at the most
pub exactly_unique : (P : ℕ → Type 0) (a b : List ℕ) → Exactly P a → Exactly P b → a ≡ b
exactly_unique P a b p q =
    rising_unique a b p.rising q.rising (λ S. Iff.trans (p.exact S) (Iff.symm (q.exact S)))

-- families with the same sets have the same exact list
pub exactly_iff : (P Q : ℕ → Type 0) → ((S : ℕ) → P S ↔ Q S) → (list : List ℕ) → Exactly P list → Exactly Q list
exactly_iff P Q e list p = record { rising = p.rising; exact = λ S. Iff.trans (p.exact S) (e S) }

module _ (P : ℕ → Type 0) where
  -- the exact list of those below `top`, with `top` put behind, is that of those below the next number, if `top` has P
  pub exactly_next : (top : ℕ) (list : List ℕ) → Exactly (λ S. P S × (S < top)) list → P top
      → Exactly (λ S. P S × (S < suc top)) (list ++ (top ∷ []))
  exactly_next top list e p = record {
    rising = rising_last list top e.rising (λ R h. ((e.exact R).0 h).1);
    exact = λ S. Iff.trans (listed_last list top S) (to S, from S);
  }
    where
      to : (S : ℕ) → Among S list ⊎ (S ≡ top) → P S × (S < suc top)
      to S (inl h) = let k = (e.exact S).0 h in (k.0, omega (arith, k.1))
      to S (inr q) = (subst P (sym q) p, omega arith)

      from : (S : ℕ) → P S × (S < suc top) → Among S list ⊎ (S ≡ top)
      from S h = by_cases (dec_lt S top) (λ l. inl ((e.exact S).1 (h.0, l))) (λ n. inr (omega (arith, h.1)))

  -- it is that of those below any number up to which no other set has P
  pub exactly_skip : (top next : ℕ) (list : List ℕ) → top ≤ next → ((S : ℕ) → top ≤ S → S < next → ¬ P S)
      → Exactly (λ S. P S × (S < top)) list → Exactly (λ S. P S × (S < next)) list
  exactly_skip top next list l q = exactly_iff (λ S. P S × (S < top)) (λ S. P S × (S < next)) (λ S. (to S, from S)) list
    where
      to : (S : ℕ) → P S × (S < top) → P S × (S < next)
      to S h = (h.0, omega (arith, h.1))

      from : (S : ℕ) → P S × (S < next) → P S × (S < top)
      from S h = (h.0, by_cases (dec_lt S top) (λ k. k) (λ n. absurd (q S (omega arith) h.1 h.0)))

module _ (P : ℕ → Type 0) (dec : (S : ℕ) → Dec (P S)) where
  -- those below `top` that have P have an exact list
  exists_below : (top : ℕ) → (list : List ℕ) × Exactly (λ S. P S × (S < top)) list
  exists_below zero = ([], record { rising = tt; exact = λ S. ((λ h. absurd h), λ h. not-suc-le-zero h.1) })
  exists_below (suc top) =
      let r = exists_below top in
      by_cases (dec top)
      (λ p. (r.0 ++ (top ∷ []), exactly_next P top r.0 r.1 p))
      (λ n. (r.0, exactly_skip P top (suc top) r.0 (omega arith) (gap n) r.1))
    where
      gap : ¬ P top → (S : ℕ) → top ≤ S → S < suc top → ¬ P S
      gap n S a b p = n (subst P (let e : S ≡ top = omega arith in e) p)

  -- every decided family below a bound has its exact list
  pub exists : (top : ℕ) → ((S : ℕ) → P S → S < top) → (list : List ℕ) × Exactly P list
  exists top below =
      let r = exists_below top in
      (r.0, exactly_iff (λ S. P S × (S < top)) P (λ S. ((λ h. h.0), λ p. (p, below S p))) r.0 r.1)

  -- whether a set is a smallest of a decided family is decided
  pub smallest_dec : (S : ℕ) → Dec (Smallest P S)
  smallest_dec S =
      dec_iff (λ h. (h.0, λ R w n p. h.1 (R, suc-le-suc (within_le R S w), (w, (n, p)))))
      (λ h. (h.0, λ t. h.1 t.0 t.2.0 t.2.1.0 t.2.1.1))
      (dec_and (dec S) (dec_not (any (suc S) Smaller smaller)))
    where
      Smaller : ℕ → Type 0
      Smaller R = Within R S × ((R ≢ S) × P R)

      smaller : (R : ℕ) → Dec (Smaller R)
      smaller R = dec_and (within_dec R S) (dec_and (dec_not (ℕ_discrete R S)) (dec R))
