-- What the search means: it gives the first model, or none where there is none.
use mathlib.Core.Path.{◌≡◌, sym, ◌∙◌}
use mathlib.Core.Logic.{◌⊎◌, inl, inr, ⊎_elim, by_cases}
use mathlib.Core.List.{List, [], ◌∷◌}
use Prim.Native.Nat.{ℕ, ◌+◌, ◌<◌}
use native.Mathlib.Decide.{dec_lt}
use native.Mathlib.Omega.{arith}
use lib.Dec.{T}
use lib.ListN.{length, get_or, set, replicate, length-replicate, get_or-replicate, get_or-eq_default}
use lib.Seq.{get_or-set_same, ext_get_or}
use Rattle.numbers.proofs.Deciding.{and_left, and_right, and_both, or_left, or_right, or_cases}
use Rattle.setups.specs.Clauses.{Assigns, place, literal_true, clause_true, all_true}
use Rattle.setups.specs.Settling.{is_free, is_false, all_false, broken, Settles}
use Rattle.setups.specs.Search.{SearchResult, Model, None, after, Lowest, Visit, visit_fails, visit_models, split_low, split_high}
use Rattle.setups.specs.Searching.{visit, search}
use Rattle.setups.specs.Meaning.{Earlier, Before, First, Means}
use Rattle.setups.proofs.Settling.{free_value, true_not_false, literal_cases, Grows, grows_trans, set_grows, set_within, broken_grows, Stable, steps_run, run_grows, run_within}
use Rattle.setups.proofs.Scanning.{Full}
use Rattle.setups.proofs.Visits.{visits_exist}

-- ---- the order of models

-- two assignments, each the other or before it, are equal
pub before_equal : {m m' : List ℕ} → Before m m' → Before m' m → m ≡ m'
before_equal (inl e) q = e
before_equal (inr p) (inl e) = sym e
before_equal {m} {m'} (inr p) (inr q) =
    by_cases (dec_lt p.here q.here) (λ l. absurd (omega (arith, p.less, q.same p.here l)))
    (λ k. by_cases (dec_lt q.here p.here) (λ l. absurd (omega (arith, q.less, p.same q.here l)))
    (λ j. let e : p.here ≡ q.here = omega arith in absurd (omega (arith, p.less, rw (← e) at q.less))))

-- there is one first model at most
pub first_only : {n : ℕ} {cs : List (List ℕ)} {m m' : List ℕ} → First n cs m → First n cs m' → m ≡ m'
first_only {m = m} {m' = m'} f g = before_equal (f.first m' g.assigns g.holds) (g.first m f.assigns f.holds)

-- ---- clauses under values of which none is free

-- no literal is free
full_not_free : (m : List ℕ) (b : ℕ) → Full m → ¬ T (is_free m b)
full_not_free m b full f = omega (arith, (free_value m b).0 f, full (place b))

-- a true clause is not wholly false
pub true_not_broken : (m : List ℕ) (cs : List (List ℕ)) → T (all_true m cs) → ¬ T (broken m cs)
true_not_broken m [] t b = b
true_not_broken m (c ∷ cs) t b =
    ⊎_elim (clause c (and_left (clause_true m c) (all_true m cs) t)) (true_not_broken m cs (and_right (clause_true m c) (all_true m cs) t))
    (or_cases (all_false m c) (broken m cs) b)
  where
    clause : (c : List ℕ) → T (clause_true m c) → ¬ T (all_false m c)
    clause [] t n = t
    clause (b ∷ c) t n =
        ⊎_elim (λ k. true_not_false m b k (and_left (is_false m b) (all_false m c) n)) (λ k. clause c k (and_right (is_false m b) (all_false m c) n))
        (or_cases (literal_true m b) (clause_true m c) t)

-- where no clause is wholly false, all are true
pub whole_true : (m : List ℕ) (cs : List (List ℕ)) → Full m → ¬ T (broken m cs) → T (all_true m cs)
whole_true m [] full w = tt
whole_true m (c ∷ cs) full w =
    and_both (clause_true m c) (all_true m cs) (clause c (λ n. w (or_left (all_false m c) (broken m cs) n)))
    (whole_true m cs full (λ n. w (or_right (all_false m c) (broken m cs) n)))
  where
    clause : (c : List ℕ) → ¬ T (all_false m c) → T (clause_true m c)
    clause [] w = absurd (w tt)
    clause (b ∷ c) w =
        ⊎_elim (λ f. absurd (full_not_free m b full f))
        (⊎_elim (or_left (literal_true m b) (clause_true m c))
        (λ n. or_right (literal_true m b) (clause_true m c) (clause c (λ k. w (and_both (is_false m b) (all_false m c) n k)))))
        (literal_cases m b)

-- a model is stable
pub model_stable : (m : List ℕ) (cs : List (List ℕ)) → Full m → T (all_true m cs) → Stable cs m
model_stable m cs full t = record { whole = true_not_broken m cs t; calm = λ c among b f. full_not_free m b full f.free }

-- so that settling stays within every model that it starts within
pub settle_within : {cs : List (List ℕ)} {values end m : List ℕ} → Settles cs values end → Grows values m → Full m → T (all_true m cs) → Grows end m
settle_within {cs} {m = m} h g full t = run_within (model_stable m cs full t) g (steps_run h.steps)

-- values of which none is free grow into themselves alone
full_equal : {s m : List ℕ} → Full s → Grows s m → s ≡ m
full_equal {s} {m} full g = ext_get_or 0 s m (sym g.size) (λ i h. sym (g.keeps i (full i)))

-- ---- a visit

-- m is the first of the models that the values grow into
pub record FirstWithin (cs : List (List ℕ)) (values m : List ℕ) : Type 0 where
  pub grows : Grows values m
  pub full : Full m
  pub holds : T (all_true m cs)
  pub first : (m' : List ℕ) → Grows values m' → Full m' → T (all_true m' cs) → Before m m'

-- what a visit finds: the first of them; or none, and then there is none
abbrev pub MeansWithin : List (List ℕ) → List ℕ → SearchResult → Type 0
MeansWithin cs values (Model m visits) = FirstWithin cs values m
MeansWithin cs values (None visits) = (m : List ℕ) → Grows values m → Full m → ¬ T (all_true m cs)

-- a value that is set is 0 or 1
bit_cases : (x : ℕ) → x < 2 → (x ≡ 0) ⊎ (x ≡ 1)
bit_cases x h = by_cases (dec_lt x 1) (λ l. inl (omega arith)) (λ l. inr (omega arith))

-- the split on the lowest free variable
module _ (cs : List (List ℕ)) (values end : List ℕ) (i : ℕ) (h : Settles cs values end) (l : Lowest end i) where
  -- what a side grows into, the visit grows into
  from_side : (x : ℕ) (m : List ℕ) → x < 2 → Grows (set end i x) m → Grows values m
  from_side x m b g = grows_trans (run_grows (steps_run h.steps)) (grows_trans (set_grows end i x l.free b) g)

  -- a model that the visit grows into, the side with its value grows into
  to_side : (x : ℕ) (m : List ℕ) → x < 2 → Grows values m → Full m → T (all_true m cs) → get_or m i 0 ≡ x → Grows (set end i x) m
  to_side x m b g full t e = set_within i x (settle_within h g full t) l.free b e

  -- a model with 0 comes before one with 1: below the lowest free place they agree
  zero_earlier : (m m' : List ℕ) → Grows (set end i 0) m → Grows end m' → get_or m' i 0 ≡ 1 → Earlier m m'
  zero_earlier m m' g k e = record {
    here = i;
    same = λ j b.
        let s = l.lowest j b in
        (grows_trans (set_grows end i 0 l.free (omega arith)) g).keeps j s ∙ sym (k.keeps j s);
    less =
        let z = get_or-set_same end i 0 0 l.inside in
        omega (arith, g.keeps i (omega arith));
  }

  -- the first model of the side with 0 is the first of the visit
  low_means : (m : List ℕ) → FirstWithin cs (set end i 0) m → FirstWithin cs values m
  low_means m r = record {
    grows = from_side 0 m (omega arith) r.grows;
    full = r.full;
    holds = r.holds;
    first = λ m' g full t.
        ⊎_elim (λ e. r.first m' (to_side 0 m' (omega arith) g full t e) full t)
        (λ e. inr (zero_earlier m m' r.grows (settle_within h g full t) e)) (bit_cases (get_or m' i 0) (full i));
  }

  -- where that side has none, the side with 1 decides
  high_means : (visits : ℕ) (r : SearchResult) → MeansWithin cs (set end i 0) (None visits) → MeansWithin cs (set end i 1) r
      → MeansWithin cs values (after (1 + visits) r)
  high_means visits (Model m k) low r = record {
    grows = from_side 1 m (omega arith) r.grows;
    full = r.full;
    holds = r.holds;
    first = λ m' g full t.
        ⊎_elim (λ e. absurd (low m' (to_side 0 m' (omega arith) g full t e) full t))
        (λ e. r.first m' (to_side 1 m' (omega arith) g full t e) full t) (bit_cases (get_or m' i 0) (full i));
  }
  high_means visits (None k) low r = λ m g full t.
      ⊎_elim (λ e. low m (to_side 0 m (omega arith) g full t e) full t) (λ e. r m (to_side 1 m (omega arith) g full t e) full t)
      (bit_cases (get_or m i 0) (full i))

-- a visit finds the first model within its values, or none where there is none
pub visit_means : {cs : List (List ℕ)} {values : List ℕ} {r : SearchResult} → Visit cs values r → MeansWithin cs values r
visit_means {cs} (visit_fails h t) = λ m g full k. true_not_broken m cs k (broken_grows cs (settle_within h g full k) t)
visit_means {cs} (visit_models {end = end} h w full) = record {
  grows = run_grows (steps_run h.steps);
  full = full;
  holds = whole_true end cs full w;
  first = λ m' g f t. inl (full_equal full (settle_within h g f t));
}
visit_means {cs} {values} (split_low {end = end} {m = m} {i = i} h w l v) = low_means cs values end i h l m (visit_means v)
visit_means {cs} {values} (split_high {end = end} {i = i} {visits = visits} {r = r} h w l v u) =
    high_means cs values end i h l visits r (visit_means v) (visit_means u)

-- ---- the whole search

-- a place outside the values counts as 0
outside : (n i : ℕ) (s : List ℕ) → length s ≡ n → ¬ (i < n) → get_or s i 0 ≡ 0
outside n i s e k = get_or-eq_default s 0 {n = i} (omega arith)

-- an assignment leaves no value free
pub assigns_full : {n : ℕ} {m : List ℕ} → Assigns n m → Full m
assigns_full {n} {m} a i = by_cases (dec_lt i n) (λ l. omega (arith, a.bits i l)) (λ k. omega (arith, outside n i m a.size k))

-- values that are all free grow into every assignment
pub free_grows : {n : ℕ} {m : List ℕ} → Assigns n m → Grows (replicate n 2) m
free_grows {n} {m} a = record {
  size = a.size ∙ sym (length-replicate {A = ℕ} n 2);
  keeps = λ i h.
      by_cases (dec_lt i n) (λ l. absurd (omega (arith, get_or-replicate {A = ℕ} n i 2 0 l)))
      (λ k. outside n i m a.size k ∙ sym (outside n i (replicate n 2) (length-replicate {A = ℕ} n 2) k));
  frees = λ i h. absurd (omega (arith, assigns_full a i));
}

-- what a visit with all values free finds
all_means : (n : ℕ) (cs : List (List ℕ)) (r : SearchResult) → MeansWithin cs (replicate n 2) r → Means n cs r
all_means n cs (Model m visits) r = record {
  assigns = record { size = r.grows.size ∙ length-replicate {A = ℕ} n 2; bits = λ i l. omega (arith, r.full i) };
  holds = r.holds;
  first = λ m' a t. r.first m' (free_grows a) (assigns_full a) t;
}
all_means n cs (None visits) r = λ m a t. r m (free_grows a) (assigns_full a) t

-- The search gives the first model, or none where there is none.
pub search_means : (n : ℕ) (cs : List (List ℕ)) → Means n cs (search n cs)
unfolding search
search_means n cs = all_means n cs (visit cs (replicate n 2)) (visit_means (visits_exist cs (replicate n 2)))
