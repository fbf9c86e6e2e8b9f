-- What the search computes at its leaves is right: the judgement of a clause, a scan, the count of free values, the lowest of them.
use mathlib.Core.Path.{◌≡◌, refl, sym, ap, ◌∙◌, subst}
use mathlib.Core.Logic.{◌⊎◌, inl, inr, ⊎_elim, ◌≢◌, by_cases}
use mathlib.Core.Bool.{false}
use mathlib.Core.List.{List, [], ◌∷◌}
use Prim.Native.Nat.{ℕ, zero, suc, ◌≤◌, ◌<◌}
use native.Mathlib.Decide.{dec_lt}
use native.Mathlib.Omega.{arith}
use lib.Dec.{T, ltb, eqb}
use lib.ListN.{length, get_or, set}
use borrow.Author.Tests.{eqb-true, eqb-false, ltb-true, ltb-false, lt-ltb, le-ltb}
use Rattle.sets.specs.Lists.{Among}
use Rattle.numbers.proofs.Deciding.{or_left, or_right, or_cases, cond_case}
use Rattle.setups.specs.declared.Seen.{Seen}
use Rattle.setups.specs.declared.Seen.TheVariants.{AllFalse, OneFree, Enough}
use Rattle.setups.specs.Clauses.{place, wish, literal_true}
use Rattle.setups.specs.Settling.{is_free, is_false, all_false, broken, Forces, put}
use Rattle.setups.specs.Search.{Lowest}
use Rattle.setups.specs.Searching.{see_clause, or_else, scan, free_count, lowest_free}
use Rattle.setups.proofs.Settling.{wish_small, free_value, free_not_false, true_not_false, true_not_free, each_false, Stable}

-- ---- clauses

-- what a judgement says of the clause: it is wholly false; it forces the literal; neither
abbrev pub SeenRight : List ℕ → List ℕ → Seen → Type 0
SeenRight values clause AllFalse = T (all_false values clause)
SeenRight values clause (OneFree b) = Forces values clause b
SeenRight values clause Enough = ¬ T (all_false values clause) × ((b : ℕ) → ¬ Forces values clause b)

-- each literal of c stands in d too or is false
abbrev CoveredBy : List ℕ → List ℕ → List ℕ → Type 0
CoveredBy values c d = (l : ℕ) → Among l c → Among l d ⊎ T (is_false values l)

module _ (values : List ℕ) where
  -- where a clause forces a literal, each free literal in it is that one
  free_forced : (clause : List ℕ) (b l : ℕ) → Forces values clause b → Among l clause → T (is_free values l) → l ≡ b
  free_forced clause b l f h free = ⊎_elim (λ e. e) (λ n. absurd (free_not_false values l free n)) (f.others l h)

  -- a clause that is covered by a wholly false one is wholly false
  false_carries : (c d : List ℕ) → CoveredBy values d c → T (all_false values c) → T (all_false values d)
  false_carries c d g t = (each_false values d).1 (λ l h. ⊎_elim ((each_false values c).0 t l) (λ n. n) (g l h))

  -- of two clauses that cover each other, each forces what the other forces
  forces_carries : (c d : List ℕ) (b : ℕ) → CoveredBy values c d → CoveredBy values d c → Forces values c b → Forces values d b
  forces_carries c d b f g r = record {
    stands = ⊎_elim (λ h. h) (λ n. absurd (free_not_false values b r.free n)) (f b r.stands);
    free = r.free;
    others = λ l h. ⊎_elim (r.others l) inr (g l h);
  }

  -- so that they are judged alike: false literals, order and repeats do not count
  seen_carries : (c d : List ℕ) (k : Seen) → CoveredBy values c d → CoveredBy values d c → SeenRight values c k → SeenRight values d k
  seen_carries c d AllFalse f g r = false_carries c d g r
  seen_carries c d (OneFree b) f g r = forces_carries c d b f g r
  seen_carries c d Enough f g r = ((λ t. r.0 (false_carries d c f t)), λ b h. r.1 b (forces_carries d c b g f h))

  -- a true literal is enough
  true_enough : (clause : List ℕ) (l : ℕ) → Among l clause → T (literal_true values l) → SeenRight values clause Enough
  true_enough clause l h t = (
    (λ n. true_not_false values l t ((each_false values clause).0 n l h)),
    λ b f. ⊎_elim (λ e. true_not_free values l t (rw e f.free)) (true_not_false values l t) (f.others l h),
  )

  -- two free literals are enough
  two_enough : (clause : List ℕ) (l b : ℕ) → Among l clause → Among b clause → T (is_free values l) → T (is_free values b) → l ≢ b
      → SeenRight values clause Enough
  two_enough clause l b h k f g n = (
    (λ a. free_not_false values l f ((each_false values clause).0 a l h)),
    λ c r. n (free_forced clause c l r h f ∙ sym (free_forced clause c b r k g)),
  )

  -- enough stays enough, whatever is still to be read
  see_clause_enough : (clause : List ℕ) → Enough ≡ see_clause values Enough clause
  unfolding see_clause
  see_clause_enough [] = refl
  see_clause_enough (b ∷ clause) =
      let P : Seen → Type 0 = λ k. Enough ≡ see_clause values k clause in
      let rest = see_clause_enough clause in
      cond_case P (is_free values b) (λ e. rest) (λ e. cond_case P (literal_true values b) (λ t. rest) (λ t. rest))

  -- also as a judgement of the whole clause
  still_enough : (whole clause : List ℕ) → SeenRight values whole Enough → SeenRight values whole (see_clause values Enough clause)
  still_enough whole clause h = subst (SeenRight values whole) (see_clause_enough clause) h

  -- a literal that is neither free nor true
  is_false_lem : (l b : ℕ) → l ≡ b → is_free values b ≡ false → literal_true values b ≡ false → T (is_false values l)
  is_false_lem l b i e t = rw i (rw (e, t) tt)

  -- a clause whose first literal is free
  see_clause_free : (l : ℕ) (clause : List ℕ) → T (is_free values l) → SeenRight values (l ∷ clause) (see_clause values (OneFree l) clause)
  unfolding see_clause
  see_clause_free l [] f = record { stands = inl refl; free = f; others = λ j h. ⊎_elim inl (λ z. absurd z) h }
  see_clause_free l (b ∷ clause) f =
      let P : Seen → Type 0 = λ k. SeenRight values (l ∷ b ∷ clause) (see_clause values k clause) in
      let past : CoveredBy values (l ∷ b ∷ clause) (l ∷ clause) → P (OneFree l) = λ g.
      seen_carries (l ∷ clause) (l ∷ b ∷ clause) (see_clause values (OneFree l) clause) (λ j h. inl (⊎_elim inl (λ i. inr (inr i)) h)) g
      (see_clause_free l clause f) in
      cond_case P (is_free values b)
      (λ e. cond_case P (eqb l b) (λ q. past (λ j h. inl (⊎_elim inl (⊎_elim (λ i. inl (i ∙ sym (eqb-true l b q))) inr) h)))
      (λ q. still_enough (l ∷ b ∷ clause) clause (two_enough (l ∷ b ∷ clause) l b (inl refl) (inr (inl refl)) f (rw e tt) (eqb-false l b q))))
      (λ e. cond_case P (literal_true values b)
      (λ t. still_enough (l ∷ b ∷ clause) clause (true_enough (l ∷ b ∷ clause) b (inr (inl refl)) (rw t tt)))
      (λ t. past (λ j h. ⊎_elim (λ i. inl (inl i)) (⊎_elim (λ i. inr (is_false_lem j b i e t)) (λ i. inl (inr i))) h)))

  -- the judgement of a clause is right
  see_clause_right : (clause : List ℕ) → SeenRight values clause (see_clause values AllFalse clause)
  unfolding see_clause
  see_clause_right [] = tt
  see_clause_right (b ∷ clause) =
      let P : Seen → Type 0 = λ k. SeenRight values (b ∷ clause) (see_clause values k clause) in
      cond_case P (is_free values b) (λ e. see_clause_free b clause (rw e tt))
      (λ e. cond_case P (literal_true values b)
      (λ t. still_enough (b ∷ clause) clause (true_enough (b ∷ clause) b (inl refl) (rw t tt)))
      (λ t. seen_carries clause (b ∷ clause) (see_clause values AllFalse clause) (λ j h. inl (inr h))
      (λ j h. ⊎_elim (λ i. inr (is_false_lem j b i e t)) inl h) (see_clause_right clause)))

-- ---- scans

-- what a scan says: some clause is wholly false; some clause forces the literal; neither
abbrev pub ScanRight : List ℕ → List (List ℕ) → Seen → Type 0
ScanRight values cs AllFalse = T (broken values cs)
ScanRight values cs (OneFree b) = (clause : List ℕ) × Among clause cs × Forces values clause b
ScanRight values cs Enough = Stable cs values

-- a clause in front decides, or leaves it to the others
scan_next : (values clause : List ℕ) (rest : List (List ℕ)) (k j : Seen) → SeenRight values clause k → ScanRight values rest j
    → ScanRight values (clause ∷ rest) (or_else k j)
scan_next values clause rest AllFalse j h g = or_left (all_false values clause) (broken values rest) h
scan_next values clause rest (OneFree b) j h g = (clause, inl refl, h)
scan_next values clause rest Enough AllFalse h g = or_right (all_false values clause) (broken values rest) g
scan_next values clause rest Enough (OneFree b) h g = (g.0, inr g.1, g.2)
scan_next values clause rest Enough Enough h g = record {
  whole = λ t. ⊎_elim h.0 g.whole (or_cases (all_false values clause) (broken values rest) t);
  calm = λ c among b f. ⊎_elim (λ e. h.1 b (rw (← e) f)) (λ i. g.calm c i b f) among;
}

-- so that the first clause decides that can
scan_told : (values : List ℕ) (cs : List (List ℕ)) → ScanRight values cs (scan values cs)
unfolding scan
scan_told values [] = record { whole = λ t. t; calm = λ c among b f. among }
scan_told values (clause ∷ rest) =
    scan_next values clause rest (see_clause values AllFalse clause) (scan values rest) (see_clause_right values clause) (scan_told values rest)

-- what a scan says is right
pub scan_right : (values : List ℕ) (cs : List (List ℕ)) (k : Seen) → scan values cs ≡ k → ScanRight values cs k
scan_right values cs k e = subst (ScanRight values cs) e (scan_told values cs)

-- ---- free values

-- where a free value is set, one fewer is free
pub free_set : (values : List ℕ) (i x : ℕ) → 2 ≤ get_or values i 0 → x < 2 → free_count values ≡ suc (free_count (set values i x))
unfolding free_count
free_set [] i x f h = absurd (omega arith)
free_set (y ∷ values) zero x f h = rw (lt-ltb 1 y f, le-ltb 1 x (let k : x ≤ 1 = omega arith in k)) (omega arith)
free_set (y ∷ values) (suc i) x f h = let rest = free_set values i x f h in omega arith

-- and where a free literal is made true
pub free_put : (values : List ℕ) (b : ℕ) → T (is_free values b) → free_count values ≡ suc (free_count (put values b))
free_put values b f = free_set values (place b) (wish b) ((free_value values b).0 f) (wish_small b)

-- no value is free
abbrev pub Full : List ℕ → Type 0
Full values = (i : ℕ) → get_or values i 0 < 2

-- the place that is found is the lowest free one, or none is free and it is the length
pub lowest_cases : (values : List ℕ) → Lowest values (lowest_free values) ⊎ (Full values × (lowest_free values ≡ length values))
unfolding lowest_free
lowest_cases [] = inr ((λ i. omega arith), refl)
lowest_cases (x ∷ values) =
    cond_case (λ (i : ℕ). Lowest (x ∷ values) i ⊎ (Full (x ∷ values) × (i ≡ suc (length values)))) (ltb 1 x)
    (λ e. inl (record { inside = omega arith; free = ltb-true 1 x e; lowest = λ j h. absurd (omega arith) }))
    (λ e. ⊎_elim (λ h. inl (record { inside = omega (arith, h.inside); free = h.free; lowest = below (ltb-false 1 x e) h.lowest }))
    (λ h. inr (full (ltb-false 1 x e) h.0, ap suc h.1)) (lowest_cases values))
  where
    below : {i : ℕ} → x ≤ 1 → ((j : ℕ) → j < i → get_or values j 0 < 2) → (j : ℕ) → j < suc i → get_or (x ∷ values) j 0 < 2
    below h f zero k = omega arith
    below h f (suc j) k = f j (omega arith)

    full : x ≤ 1 → Full values → Full (x ∷ values)
    full h f zero = omega arith
    full h f (suc j) = f j

-- the lowest free place is the one that is found
pub lowest_only : {values : List ℕ} {i : ℕ} → Lowest values i → lowest_free values ≡ i
lowest_only {values} {i} h =
    ⊎_elim
    (λ k. by_cases (dec_lt i (lowest_free values)) (λ l. absurd (omega (arith, k.lowest i l, h.free)))
    (λ n. by_cases (dec_lt (lowest_free values) i) (λ l. absurd (omega (arith, h.lowest (lowest_free values) l, k.free))) (λ m. omega arith)))
    (λ k. absurd (omega (arith, k.0 i, h.free))) (lowest_cases values)

-- and where none is free, the length is found
pub lowest_none : (values : List ℕ) → Full values → lowest_free values ≡ length values
lowest_none values h = ⊎_elim (λ k. absurd (omega (arith, h (lowest_free values), k.free))) (λ k. k.1) (lowest_cases values)
