-- The search: what it tells where a round fails, where what is asked is met, where no variable is free, and after a split.
use mathlib.Core.Path.{◌≡◌, sym, subst}
use mathlib.Core.Logic.{◌⊎◌, inl, inr, ⊎_elim, ◌↔◌, by_cases}
use mathlib.Core.Bool.{Bool}
use Rattle.std.specs.Prelude.{Option, Some, None}
use mathlib.Core.List.{List}
use Prim.Native.Nat.{ℕ, ◌-◌, ◌≤◌, ◌<◌}
use native.Mathlib.Decide.{ℕ_discrete}
use native.Mathlib.Omega.{arith}
use lib.Dec.{T}
use lib.ListN.{get_or, set}
use Rattle.setups.specs.Clauses.{clauses, wish}
use Rattle.setups.specs.Searching.{free_count}
use Rattle.setups.proofs.Settling.{wish_small}
use Rattle.found.specs.FoundSets.{Fit}
use Rattle.literals.specs.Slots.{slot, AllSet}
use Rattle.forcing.specs.Holding.{is_true}
use Rattle.forcing.specs.Values.{AgreesWith}
use Rattle.forcing.specs.Standings.{Stands}
use Rattle.forcing.proofs.ValueLaws.{free_set_lt, agrees_set}
use Rattle.question.specs.Seeking.{Fulfils, AdvancesTo, Done, Seeks}
use Rattle.question.specs.declared.sought.Sought.{Sought}
use Rattle.question.specs.declared.seeking.Round.{Round}
use Rattle.question.proofs.TestLaws.{all_more, holds_more, true_stays, true_was}
use Rattle.question.proofs.Rounds.{fulfils_wider, fulfils_narrower}

-- kept settings and found sets, over a test that passes more
fit_more : {kept : ℕ} {found : List ℕ} {test more : ℕ → Bool} → ((i : ℕ) → T (test i) → T (more i)) → Fit kept found test → Fit kept found more
fit_more weaker fit = record {
  keeps = λ i h. weaker i (fit.keeps i h);
  each = λ W h. let one = fit.each W h in (one.0, one.1, weaker one.0 one.2);
}

-- what is asked, over a test of literals that passes more
fulfils_more : {q : Sought} {kept : ℕ} {test more : ℕ → Bool} → ((b : ℕ) → T (test b) → T (more b))
    → Fulfils q kept test → Fulfils q kept more
fulfils_more {q} {test = test} {more = more} weaker fulfils =
    record { rules = all_more test more weaker (clauses q.hard.now) fulfils.rules; fit = fit_more (holds_more test more weaker q.soft.now) fulfils.fit }

-- it is met so far where what is true so far fulfils it
done_so : {q : Sought} {s : Round} → Stands s.values q.soft.now s.standing → Done q s ↔ Fulfils q s.kept (is_true s.values)
done_so stands = (
  (λ done. record { rules = done.rules; fit = fit_more (λ i t. subst T (stands.sure i) t) done.fit }),
  λ fulfils. record { rules = fulfils.rules; fit = fit_more (λ i t. subst T (sym (stands.sure i)) t) fulfils.fit },
)

-- an assignment gives a literal's variable the value that it wishes, or the other
value_cases : (m : List ℕ) (b : ℕ) → AllSet m → (get_or m (slot b) 0 ≡ wish b) ⊎ (get_or m (slot b) 0 ≡ 1 - wish b)
value_cases m b d =
    by_cases (ℕ_discrete (get_or m (slot b) 0) (wish b)) inl (λ n. inr (omega (arith, d (slot b), wish_small b)))

module _ {q : Sought} {kept : ℕ} {values : List ℕ} {s : Round} (advances : AdvancesTo q kept values s) where
  so_far : Done q s ↔ Fulfils q s.kept (is_true s.values)
  so_far = done_so advances.stands

  -- what is asked is met
  pub seeks_done : Done q s → Seeks (λ m. Fulfils q kept (is_true m)) values (Some s.values)
  seeks_done done m agrees = fulfils_narrower advances.grows (fulfils_more (true_stays s.values m agrees) (so_far.0 done))

  -- no variable is free, and what is asked is not met
  pub seeks_full : AllSet s.values → ¬ Done q s → Seeks (λ m. Fulfils q kept (is_true m)) values None
  seeks_full full not_done m d fulfils agrees =
      let r = advances.stays m d fulfils agrees in
      not_done (so_far.1 (fulfils_more (λ b. true_was s.values m r.0 b (full (slot b))) (fulfils_wider fulfils r.1)))

  -- ---- a split on the literal b

  module _ (b : ℕ) where
    -- the first side finds one
    pub seeks_first : (r : List ℕ) → ((m : List ℕ) → AgreesWith r m → Fulfils q s.kept (is_true m))
        → Seeks (λ m. Fulfils q kept (is_true m)) values (Some r)
    seeks_first r told m agrees = fulfils_narrower advances.grows (told m agrees)

    -- it does not, and the second side tells
    pub seeks_second : Seeks (λ m. Fulfils q s.kept (is_true m)) (set s.values (slot b) (wish b)) None
        → (r : Option (List ℕ)) → Seeks (λ m. Fulfils q s.kept (is_true m)) (set s.values (slot b) (1 - wish b)) r
        → Seeks (λ m. Fulfils q kept (is_true m)) values r
    seeks_second first (Some r) second = seeks_first r second
    seeks_second first None second = λ m d fulfils agrees.
        let was = advances.stays m d fulfils agrees in
        let wider = fulfils_wider fulfils was.1 in
        ⊎_elim (λ h. first m d wider (agrees_set s.values m (slot b) (wish b) was.0 h))
        (λ h. second m d wider (agrees_set s.values m (slot b) (1 - wish b) was.0 h)) (value_cases m b d)

    -- either side has fewer free values
    pub split_less : 1 < get_or s.values (slot b) 0 → (x : ℕ) → x ≤ 1 → free_count (set s.values (slot b) x) < free_count values
    split_less free x l = omega (arith, advances.less, free_set_lt s.values (slot b) x free l)
