-- What the question's two answers say of a node's branch: after None it holds no way out, after Some it always holds one.
use mathlib.Core.Path.{◌≡◌, ◌∙◌, subst}
use mathlib.Core.Logic.{by_cases}
use mathlib.Core.Bool.{Bool, not}
use mathlib.Core.List.{List, []}
use Prim.Native.Nat.{ℕ, ◌+◌, ◌-◌, ◌*◌, ◌/◌, ◌^◌, ◌≤◌, ◌<◌}
use native.Mathlib.Nat.{le_refl, lt-div-mul-add, mul-le-mul_right}
use native.Mathlib.Decide.{ℕ_discrete, dec_lt}
use native.Mathlib.Omega.{arith}
use lib.Dec.{T_not, not_T}
use lib.ListN.{get_or}
use lib.Pow.{pow_pos}
use Rattle.sets.specs.Sets.{digit, In, Within, Smallest}
use Rattle.sets.specs.Lists.{Among}
use Rattle.numbers.proofs.Deciding.{T-dec, any, dec_and, dec_not, stable}
use Rattle.sets.proofs.Digits.{in_dec, in_below, digit_out, within_le, out_stays, out_within, out_differs, opposite_digit, those, those_lt, those_in, digit_up, high_digit, high_in}
use Rattle.sets.proofs.Dual.{smallest_within}
use Rattle.setups.specs.Clauses.{all_true}
use Rattle.setups.specs.Setups.{Setup, settings, count, SettingTrue, Without, WayOut}
use Rattle.setups.proofs.Tests.{without_dec}
use Rattle.setups.proofs.Duality.{way_out_smallest}
use Rattle.question.specs.Question.{Meets, Breaks}
use Rattle.walk.specs.Walking.{AboveDecided, Below, WayOutBetween}

-- the digits of a · 2^i from place i up are those of a
shifted : (i a k : ℕ) → digit (a * 2 ^ i) (i + k) ≡ digit a k
shifted i a k = high_digit i a (a * 2 ^ i) k (le_refl (a * 2 ^ i)) (omega (arith, pow_pos i))

-- of two ways out neither lies within the other
ways_apart : (g : Setup) (W S : ℕ) → WayOut g W → WayOut g S → Within W S → W ≡ S
ways_apart g W S w s h = stable (ℕ_discrete W S) (λ ne. ((way_out_smallest g S).0 s).1 W h ne ((way_out_smallest g W).0 w).0)

-- the model of a way out's rest breaks each of its settings
breaks_own : (g : Setup) (S : ℕ) (w : WayOut g S) → Breaks g S w.meets.0
breaks_own g S w i l h t =
    w.tight i h
    (w.meets.0, record { assigns = w.meets.1.assigns; hard = w.meets.1.hard; kept = λ j k q. by_cases (ℕ_discrete j i) (λ e. rw e t) (other j k q) })
  where
    other : (j : ℕ) → j < count g → ¬ In j (S - 2 ^ i) → ¬ (j ≡ i) → SettingTrue g w.meets.0 j
    other j k q n = w.meets.1.kept j k (λ y. q (out_stays i S j h n ∙ y))

-- ---- what a model breaks

module _ (g : Setup) (m : List ℕ) where
  -- it breaks the setting at place i
  untrue : ℕ → Bool
  untrue i = not (all_true m (get_or (settings g.soft) i []))

  -- all that it breaks
  broken_set : ℕ
  unfolding untrue
  broken_set = those (count g) untrue

  broken_in : (i : ℕ) → In i broken_set → ¬ SettingTrue g m i
  unfolding untrue broken_set
  broken_in i h = T_not (all_true m (get_or (settings g.soft) i [])) ((those_in (count g) untrue i).0 h).1

  broken_out : (i : ℕ) → i < count g → ¬ In i broken_set → SettingTrue g m i
  unfolding untrue broken_set
  broken_out i l h =
      stable (T-dec (all_true m (get_or (settings g.soft) i [])))
      (λ q. h ((those_in (count g) untrue i).1 (l, not_T (all_true m (get_or (settings g.soft) i [])) q)))

  -- within it there is a way out
  broken_way_out : (kept : ℕ) (found : List ℕ) → Meets g kept found m → (S : ℕ) × Within S broken_set × WayOut g S
  unfolding broken_set
  broken_way_out kept found y = (S, least.1, way)
    where
      without : Without g broken_set
      without = (m, record { assigns = y.models.assigns; hard = y.models.hard; kept = broken_out })

      least : (S : ℕ) × Within S broken_set × Smallest (Without g) S
      least = smallest_within (Without g) (without_dec g) broken_set without

      S : ℕ
      S = least.0

      way : WayOut g S
      way = record {
        below = let b = those_lt (count g) untrue in let l = within_le S broken_set least.1 in omega arith;
        meets = least.2.0;
        tight = λ i h. least.2.1 (S - 2 ^ i) (out_within i S h) (out_differs i S h);
      }

module _ {g : Setup} {left given kept : ℕ} {found : List ℕ} (decided : AboveDecided (count g) left given kept) (before : Below g given found) where
  -- after None the branch is empty: the model of a way out in it would have met all that was asked
  pub no_way_out : ((m : List ℕ) → Meets g kept found m → Breaks g given m → ⊥) → ¬ WayOutBetween g given (given + 2 ^ left)
  no_way_out refutes s =
      refutes m (record { models = record { assigns = s.1.meets.1.assigns; hard = s.1.meets.1.hard; kept = keeps }; each = each }) breaks
    where
      S : ℕ
      S = s.0

      m : List ℕ
      m = s.1.meets.0

      same : (k : ℕ) → digit S (left + k) ≡ digit decided.high_given k
      same k =
          high_digit left decided.high_given S k (let l = s.2 in omega (arith, decided.gives)) (let l = s.3 in omega (arith, decided.gives))

      keeps : (j : ℕ) → j < count g → In j kept → SettingTrue g m j
      keeps j l h =
          let r = high_in left decided.high_kept j (subst (In j) decided.keeps h) in
          let one = opposite_digit decided.above decided.high_given decided.high_kept r.0 decided.whole (omega (arith, r.1, decided.all)) in
          s.1.meets.1.kept j l (λ q.
          let z : digit S (left + r.0) ≡ 1 = subst (λ (x : ℕ). In x S) r.1 q in
          let b : ⊥ = omega (arith, same r.0, r.2) in b)

      breaks : Breaks g given m
      breaks j l h =
          let r = high_in left decided.high_given j (subst (In j) decided.gives h) in
          breaks_own g S s.1 j l (rw r.1 (same r.0 ∙ r.2))

      each : (W : ℕ) → Among W found → (j : ℕ) × (j < count g) × In j W × SettingTrue g m j
      each W h =
          by_cases (any (count g) (λ j. In j W × ¬ In j S) (λ j. dec_and (in_dec j W) (dec_not (in_dec j S))))
          (λ t. (t.0, t.1, t.2.0, s.1.meets.1.kept t.0 t.1 t.2.1)) inside
        where
          w : WayOut g W × (W < given)
          w = (before.exact W).0 h

          inside : ¬ ((j : ℕ) × (j < count g) × (In j W × ¬ In j S)) → (j : ℕ) × (j < count g) × In j W × SettingTrue g m j
          inside q =
              let e : W ≡ S = ways_apart g W S w.0 s.1 (λ j k. stable (in_dec j S) (λ x. q (j, in_below (count g) w.0.below k, (k, x)))) in
              absurd (let b : ⊥ = omega (arith, w.1, s.2) in b)

  -- after Some it is not: what the model breaks contains a way out, and none that is found, so it isn't below the branch; nor is it
  -- above, since it has no kept setting
  pub some_way_out : (m : List ℕ) → Meets g kept found m → WayOutBetween g given (given + 2 ^ left)
  some_way_out m y = (S, way, by_cases (dec_lt S given) new (λ q. let z : given ≤ S = omega arith in z), high)
    where
      least : (S : ℕ) × Within S (broken_set g m) × WayOut g S
      least = broken_way_out g m kept found y

      S : ℕ
      S = least.0

      way : WayOut g S
      way = least.2

      new : S < given → given ≤ S
      new l =
          let t = y.each S ((before.exact S).1 (way, l)) in
          absurd (broken_in g m t.0 (least.1 t.0 t.2) t.3)

      within : Within (S / 2 ^ left) decided.high_given
      within k h =
          let z : In (left + k) S = digit_up left S k ∙ h in
          let l : left + k < count g = in_below (count g) way.below z in
          let q : ¬ In k decided.high_kept = λ x.
          broken_in g m (left + k) (least.1 (left + k) z) (y.models.kept (left + k) l (rw decided.keeps (shifted left decided.high_kept k ∙ x))) in
          omega (arith, opposite_digit decided.above decided.high_given decided.high_kept k decided.whole (omega (arith, decided.all)), digit_out k decided.high_kept q)

      high : S < given + 2 ^ left
      high =
          let l = lt-div-mul-add {a = S} {b = 2 ^ left} (pow_pos left) in
          let p = mul-le-mul_right (2 ^ left) (within_le (S / 2 ^ left) decided.high_given within) in
          omega (arith, decided.gives)
