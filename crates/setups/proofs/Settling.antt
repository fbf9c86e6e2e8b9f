-- Settling forced values: every order of steps ends alike. Values only grow, and what one order forces stands in every stable end.
use mathlib.Core.Path.{◌≡◌, refl, sym, ◌∙◌, subst}
use mathlib.Core.Logic.{◌⊎◌, inl, inr, ⊎_elim, ◌≢◌, ◌↔◌, by_cases}
use mathlib.Core.Bool.{Bool, true, false, not, ◌&&◌}
use mathlib.Core.List.{List, [], ◌∷◌}
use Prim.Native.Nat.{ℕ, zero, suc, ◌≤◌, ◌<◌}
use native.Mathlib.Decide.{ℕ_discrete, dec_lt}
use native.Mathlib.Omega.{arith}
use lib.Dec.{T, ltb, T_not, not_T, ltb→lt, lt→ltb, nltb→le, eqb→eq, eqb_refl}
use lib.ListN.{length, get_or, set, length-set}
use lib.Seq.{get_or-set_same, get_or-set_other, ext_get_or}
use Rattle.sets.specs.Lists.{Among}
use Rattle.numbers.proofs.Deciding.{and_left, and_right, and_both, or_left, or_right, or_cases, T-dec, cond_case}
use Rattle.setups.specs.Clauses.{place, wish, literal_true}
use Rattle.setups.specs.Settling.{is_free, is_false, all_false, broken, Forces, put, Forced, Steps, no_step, step_on, Settles}
use Rattle.setups.specs.Meaning.{Alike}

-- ---- literals

-- the value that a literal wishes is 0 or 1
pub wish_small : (b : ℕ) → wish b < 2
wish_small b = cond_case (λ (x : ℕ). x < 2) (ltb b 128) (λ e. omega arith) (λ e. omega arith)

-- a literal is free exactly where its variable's value is 2 or more
pub free_value : (values : List ℕ) (b : ℕ) → T (is_free values b) ↔ (2 ≤ get_or values (place b) 0)
free_value values b = (ltb→lt 1 (get_or values (place b) 0), lt→ltb 1 (get_or values (place b) 0))

-- true exactly where that is the value that it wishes
pub true_value : (values : List ℕ) (b : ℕ) → T (literal_true values b) ↔ (get_or values (place b) 0 ≡ wish b)
true_value values b = (eqb→eq (get_or values (place b) 0) (wish b), λ e. rw e (eqb_refl (wish b)))

-- a free literal is not false
pub free_not_false : (values : List ℕ) (b : ℕ) → T (is_free values b) → ¬ T (is_false values b)
free_not_false values b f n = T_not (is_free values b) (and_left (not (is_free values b)) (not (literal_true values b)) n) f

-- neither is a true one
pub true_not_false : (values : List ℕ) (b : ℕ) → T (literal_true values b) → ¬ T (is_false values b)
true_not_false values b t n = T_not (literal_true values b) (and_right (not (is_free values b)) (not (literal_true values b)) n) t

-- and a true one is not free
pub true_not_free : (values : List ℕ) (b : ℕ) → T (literal_true values b) → ¬ T (is_free values b)
true_not_free values b t f = omega (arith, (true_value values b).0 t, (free_value values b).0 f, wish_small b)

-- false exactly where the variable is set to the value that the literal does not wish
pub false_value : (values : List ℕ) (b : ℕ) → T (is_false values b) ↔ ((get_or values (place b) 0 < 2) × (get_or values (place b) 0 ≢ wish b))
false_value values b = (there, back)
  where
    there : T (is_false values b) → (get_or values (place b) 0 < 2) × (get_or values (place b) 0 ≢ wish b)
    there n = (
      omega (arith, nltb→le 1 (get_or values (place b) 0) (and_left (not (is_free values b)) (not (literal_true values b)) n)),
      λ e. true_not_false values b ((true_value values b).1 e) n,
    )

    back : (get_or values (place b) 0 < 2) × (get_or values (place b) 0 ≢ wish b) → T (is_false values b)
    back h =
        and_both (not (is_free values b)) (not (literal_true values b)) (not_T (is_free values b) (λ f. omega (arith, (free_value values b).0 f)))
        (not_T (literal_true values b) (λ t. h.1 ((true_value values b).0 t)))

-- each literal is one of the three
pub literal_cases : (values : List ℕ) (b : ℕ) → T (is_free values b) ⊎ (T (literal_true values b) ⊎ T (is_false values b))
literal_cases values b = go (is_free values b) (literal_true values b)
  where
    go : (f t : Bool) → T f ⊎ (T t ⊎ T (not f && not t))
    go true t = inl tt
    go false true = inr (inl tt)
    go false false = inr (inr tt)

-- a place outside the values is never free
pub free_inside : (values : List ℕ) (i : ℕ) → 2 ≤ get_or values i 0 → i < length values
free_inside [] i h = absurd (omega arith)
free_inside (x ∷ values) zero h = omega arith
free_inside (x ∷ values) (suc i) h = omega (arith, free_inside values i h)

-- ---- clauses

-- a clause is wholly false exactly where each of its literals is false
pub each_false : (values clause : List ℕ) → T (all_false values clause) ↔ ((l : ℕ) → Among l clause → T (is_false values l))
each_false values clause = (there clause, back clause)
  where
    there : (clause : List ℕ) → T (all_false values clause) → (l : ℕ) → Among l clause → T (is_false values l)
    there [] t l h = absurd h
    there (b ∷ clause) t l (inl e) = rw e (and_left (is_false values b) (all_false values clause) t)
    there (b ∷ clause) t l (inr h) = there clause (and_right (is_false values b) (all_false values clause) t) l h

    back : (clause : List ℕ) → ((l : ℕ) → Among l clause → T (is_false values l)) → T (all_false values clause)
    back [] f = tt
    back (b ∷ clause) f = and_both (is_false values b) (all_false values clause) (f b (inl refl)) (back clause (λ l h. f l (inr h)))

-- the values are broken exactly where one of the clauses is wholly false
pub some_broken : (values : List ℕ) (cs : List (List ℕ)) → T (broken values cs) ↔ ((clause : List ℕ) × Among clause cs × T (all_false values clause))
some_broken values cs = (there cs, back cs)
  where
    there : (cs : List (List ℕ)) → T (broken values cs) → (clause : List ℕ) × Among clause cs × T (all_false values clause)
    there [] t = absurd t
    there (c ∷ cs) t =
        ⊎_elim (λ h. (c, inl refl, h)) (λ h. let r = there cs h in (r.0, inr r.1, r.2)) (or_cases (all_false values c) (broken values cs) t)

    back : (cs : List (List ℕ)) → (clause : List ℕ) × Among clause cs × T (all_false values clause) → T (broken values cs)
    back [] r = absurd r.1
    back (c ∷ cs) r =
        ⊎_elim (λ e. or_left (all_false values c) (broken values cs) (subst (λ (k : List ℕ). T (all_false values k)) e r.2))
        (λ h. or_right (all_false values c) (broken values cs) (back cs (r.0, h, r.2))) r.1

-- ---- values that grow

-- a grows into s: there are as many values, what is set stays as it is, and so does what is still free
pub record Grows (a s : List ℕ) : Type 0 where
  pub size : length s ≡ length a
  pub keeps : (i : ℕ) → get_or a i 0 < 2 → get_or s i 0 ≡ get_or a i 0
  pub frees : (i : ℕ) → 2 ≤ get_or s i 0 → get_or s i 0 ≡ get_or a i 0

-- values grow into themselves
pub grows_refl : (a : List ℕ) → Grows a a
grows_refl a = record { size = refl; keeps = λ i h. refl; frees = λ i h. refl }

-- and on
pub grows_trans : {a s t : List ℕ} → Grows a s → Grows s t → Grows a t
grows_trans {a} {s} {t} p q = record {
  size = q.size ∙ p.size;
  keeps = λ i h. let e = p.keeps i h in q.keeps i (let k : get_or s i 0 < 2 = omega arith in k) ∙ e;
  frees = λ i h. let e = q.frees i h in e ∙ p.frees i (let k : 2 ≤ get_or s i 0 = omega arith in k);
}

-- values that grow into each other are equal
pub grows_equal : {s t : List ℕ} → Grows s t → Grows t s → s ≡ t
grows_equal {s} {t} p q =
    ext_get_or 0 s t q.size (λ i h. by_cases (dec_lt (get_or s i 0) 2) (λ k. sym (p.keeps i k)) (λ k. q.frees i (omega arith)))

-- values grow where a free one is set
pub set_grows : (a : List ℕ) (i x : ℕ) → 2 ≤ get_or a i 0 → x < 2 → Grows a (set a i x)
set_grows a i x f h = record {
  size = length-set a i x;
  keeps = λ j k. get_or-set_other a i j x 0 (λ e. omega (arith, rw e at k));
  frees = λ j k. get_or-set_other a i j x 0 (λ e. omega (arith, rw e at k, get_or-set_same a i x 0 (free_inside a i f)));
}

-- and still grow into whatever has that value there
pub set_within : {a s : List ℕ} (i x : ℕ) → Grows a s → 2 ≤ get_or a i 0 → x < 2 → get_or s i 0 ≡ x → Grows (set a i x) s
set_within {a} {s} i x g f h e = record {
  size = g.size ∙ sym (length-set a i x);
  keeps = λ j k. by_cases (ℕ_discrete j i) (λ p. rw (p, get_or-set_same a i x 0 (free_inside a i f)) e)
      (λ n. let o = get_or-set_other a i j x 0 n in g.keeps j (rw (← o) k) ∙ sym o);
  frees = λ j k. by_cases (ℕ_discrete j i) (λ p. absurd (omega (arith, rw p at k))) (λ n. g.frees j k ∙ sym (get_or-set_other a i j x 0 n));
}

-- a literal that is false stays false
pub false_grows : {a s : List ℕ} (b : ℕ) → Grows a s → T (is_false a b) → T (is_false s b)
false_grows {a} {s} b g n =
    let h = (false_value a b).0 n in
    let e = g.keeps (place b) h.0 in
    (false_value s b).1 (rw e h)

-- and so does a clause that is wholly false
pub broken_grows : {a s : List ℕ} (cs : List (List ℕ)) → Grows a s → T (broken a cs) → T (broken s cs)
broken_grows {a} {s} cs g t =
    let r = (some_broken a cs).0 t in
    (some_broken s cs).1 (r.0, r.1, (each_false s r.0).1 (λ l h. false_grows l g ((each_false a r.0).0 r.2 l h)))

-- ---- runs

-- forced literals made true one after another, also where some clause is wholly false by then
pub data Run (cs : List (List ℕ)) : List ℕ → List ℕ → Type 0 where
  run_ends : {values : List ℕ} → Run cs values values
  run_on : {values next end : List ℕ} → Forced cs values next → Run cs next end → Run cs values end

-- no clause is wholly false and none forces a literal
pub record Stable (cs : List (List ℕ)) (s : List ℕ) : Type 0 where
  pub whole : ¬ T (broken s cs)
  pub calm : (clause : List ℕ) → Among clause cs → (b : ℕ) → ¬ Forces s clause b

-- steps are a run
pub steps_run : {cs : List (List ℕ)} {values end : List ℕ} → Steps cs values end → Run cs values end
steps_run no_step = run_ends
steps_run (step_on h rest) = run_on h.forced (steps_run rest)

-- values grow where a free literal is made true
pub put_grows : (values : List ℕ) (b : ℕ) → T (is_free values b) → Grows values (put values b)
put_grows values b f = set_grows values (place b) (wish b) ((free_value values b).0 f) (wish_small b)

-- they grow all along a run
pub run_grows : {cs : List (List ℕ)} {values end : List ℕ} → Run cs values end → Grows values end
run_grows {values = values} run_ends = grows_refl values
run_grows {values = values} (run_on h rest) =
    grows_trans (put_grows values h.literal h.forces.free) (rw (← h.sets) (run_grows rest))

-- a forced literal is true in every stable end: the clause's other literals are false there, so that it can be neither false nor free
pub force_within : {cs : List (List ℕ)} {a s : List ℕ} (clause : List ℕ) (b : ℕ) → Stable cs s → Grows a s → Among clause cs → Forces a clause b
    → Grows (put a b) s
force_within {cs} {a} {s} clause b stable g among forces =
    ⊎_elim (λ f. absurd (stable.calm clause among b (record { stands = forces.stands; free = f; others = others })))
    (⊎_elim (λ t. set_within (place b) (wish b) g ((free_value a b).0 forces.free) (wish_small b) ((true_value s b).0 t))
    (λ n. absurd (stable.whole ((some_broken s cs).1 (clause, among, (each_false s clause).1 (λ l h. ⊎_elim (λ e. rw e n) (λ k. k) (others l h)))))))
    (literal_cases s b)
  where
    others : (l : ℕ) → Among l clause → (l ≡ b) ⊎ T (is_false s l)
    others l h = ⊎_elim inl (λ n. inr (false_grows l g n)) (forces.others l h)

-- so that every run stays within every stable end
pub run_within : {cs : List (List ℕ)} {a s end : List ℕ} → Stable cs s → Grows a s → Run cs a end → Grows end s
run_within stable g run_ends = g
run_within stable g (run_on h rest) =
    run_within stable (rw h.sets (force_within h.clause h.literal stable g h.among h.forces)) rest

-- ---- ends

-- a run has come to its end where some clause is wholly false or the values are stable
abbrev pub Ended : List (List ℕ) → List ℕ → Type 0
Ended cs s = T (broken s cs) ⊎ Stable cs s

-- any two such runs end alike
pub runs_alike : {cs : List (List ℕ)} {values s t : List ℕ} → Run cs values s → Run cs values t → Ended cs s → Ended cs t → Alike cs s t
runs_alike {cs} p q (inl x) (inl y) = inl (x, y)
runs_alike {cs} p q (inl x) (inr y) = absurd (y.whole (broken_grows cs (run_within y (run_grows q) p) x))
runs_alike {cs} p q (inr x) (inl y) = absurd (x.whole (broken_grows cs (run_within x (run_grows p) q) y))
runs_alike {cs} p q (inr x) (inr y) = inr (x.whole, grows_equal (run_within y (run_grows q) p) (run_within x (run_grows p) q))

-- settling has come to its end
pub settles_ended : {cs : List (List ℕ)} {values s : List ℕ} → Settles cs values s → Ended cs s
settles_ended {cs} {s = s} h = by_cases (T-dec (broken s cs)) inl (λ w. inr (record {
  whole = w;
  calm = λ clause among b forces. h.stuck (put s b) (record {
    whole = w;
    forced = record { clause = clause; among = among; literal = b; forces = forces; sets = refl };
  });
}))

-- Whatever the order of the steps, settling ends alike.
pub ends_alike : {cs : List (List ℕ)} {values s t : List ℕ} → Settles cs values s → Settles cs values t → Alike cs s t
ends_alike p q = runs_alike (steps_run p.steps) (steps_run q.steps) (settles_ended p) (settles_ended q)
