-- Rounds of the rules: one round, and one after another.
use mathlib.Core.Path.{◌≡◌, refl, sym, subst}
use mathlib.Core.Logic.{◌≢◌, ◌⊎◌, ⊎_elim}
use Rattle.std.specs.Prelude.{Some, None}
use mathlib.Core.Bool.{Bool, true, false, cond}
use mathlib.Core.List.{List}
use Prim.Native.Nat.{ℕ, ◌+◌, ◌-◌, ◌*◌, ◌^◌, ◌<◌, min}
use native.Mathlib.Omega.{arith}
use lib.Dec.{T}
use Rattle.sets.specs.Sets.{In, Within}
use Rattle.sets.proofs.Digits.{in_below, within_le}
use Rattle.sets.proofs.Tests.{has_in}
use Rattle.setups.specs.Limits.{settings_most}
use Rattle.setups.specs.Clauses.{clauses}
use Rattle.setups.specs.Searching.{free_count}
use Rattle.found.specs.FoundSets.{Each, Widens, Narrows}
use Rattle.literals.specs.Slots.{AllSet}
use Rattle.forcing.specs.Holding.{is_true, may_be, holds}
use Rattle.forcing.specs.Selectors.{Owing, OwingBoth}
use Rattle.forcing.specs.Values.{AgreesWith}
use Rattle.forcing.specs.Rules.{unmoved, Keeps, KeepsAnswers}
use Rattle.forcing.specs.Standings.{Stands}
use Rattle.forcing.specs.declared.forcing.Progress.{Progress}
use Rattle.forcing.specs.declared.standing.Standing.{Standing}
use Rattle.forcing.proofs.Verdicts.{verdict_clause, verdict_holds}
use Rattle.question.specs.Seeking.{Fulfils, AdvancesTo, Advances}
use Rattle.question.specs.declared.sought.Sought.{Sought}
use Rattle.question.specs.declared.seeking.Round.{Round}
use Rattle.question.proofs.TestLaws.{holds_more, each_passes, true_may}

-- ---- what is asked, as the passes take it

-- each kept setting's clause is owed, and each hard clause
fulfils_both : {q : Sought} {kept : ℕ} {test : ℕ → Bool} → kept < 2 ^ settings_most → Fulfils q kept test
    → OwingBoth kept test q.hard.now q.soft.now
fulfils_both {q} {kept} {test} small fulfils = record { keeps = keeps; rules = λ i l h. each_passes test (clauses q.hard.now) fulfils.rules i l }
  where
    keeps : Owing (λ n. In n kept) test q.soft.now
    keeps i l h =
        let e : min i settings_most ≡ i = let k = in_below settings_most small h in omega arith in
        let held = fulfils.fit.keeps i (subst (λ (x : ℕ). In x kept) e h) in
        subst T (verdict_clause test (clauses q.soft.now) i) ((verdict_holds test q.soft.now i).0 held).1

-- ---- one round

-- what holds in the end is possible
possible : {values soft : List ℕ} {standing : Standing} → Stands values soft standing → (m : List ℕ) → AgreesWith values m → (i : ℕ)
    → T (holds (is_true m) soft i) → In i standing.possible
possible {values} {soft} {standing} stands m agrees i t =
    has_in standing.possible i (subst T (sym (stands.possible i)) (holds_more (is_true m) (may_be values) (true_may values m agrees) soft i t))

module _ (q : Sought) {kept : ℕ} (values : List ℕ) (small : kept < 2 ^ settings_most) where
  -- a clause can't be met
  pub advances_stuck : KeepsAnswers (λ m. OwingBoth kept (is_true m) q.hard.now q.soft.now) (unmoved values) None → Advances q kept values None
  advances_stuck none m d fulfils = none m d (fulfils_both small fulfils)

  module _ {forced : Progress} (step : Keeps (λ m. OwingBoth kept (is_true m) q.hard.now q.soft.now) (unmoved values) forced)
      {standing : Standing} (stands : Stands forced.values q.soft.now standing) where
    still : (m : List ℕ) → AllSet m → Fulfils q kept (is_true m) → AgreesWith values m → AgreesWith forced.values m
    still m d fulfils = step.stays m d (fulfils_both small fulfils)

    -- some found set has no setting left
    pub advances_dead : Narrows kept standing.possible q.found.now None → Advances q kept values None
    advances_dead none m d fulfils agrees = none (holds (is_true m) q.soft.now) (possible stands m (still m d fulfils agrees)) fulfils.fit

    -- each has one, and it has moved where a value was forced or more is kept
    pub advances_round : {wider : ℕ} → Widens kept standing.possible q.found.now wider → (moved : Bool)
        → (moved ≡ true → (forced.moved ≡ true) ⊎ (wider ≢ kept))
        → Advances q kept values (Some (record { moved = moved; kept = wider; standing = standing; values = forced.values }))
    advances_round {wider} widens moved why = record {
      less = step.less;
      grows = widens.grows;
      moves = λ t.
          let more = within_le kept wider widens.grows in
          ⊎_elim (λ e. omega (arith, step.moves refl e, more)) (λ n. omega (arith, step.less, more)) (why t);
      stands = stands;
      stays = λ m d fulfils agrees.
          let was = still m d fulfils agrees in (was, widens.stays (holds (is_true m) q.soft.now) (possible stands m was) fulfils.fit);
    }

-- ---- one round after another

-- what is asked, with more kept that holds
pub fulfils_wider : {q : Sought} {kept wider : ℕ} {test : ℕ → Bool} → Fulfils q kept test
    → Each wider (holds test q.soft.now) → Fulfils q wider test
fulfils_wider fulfils each = record { rules = fulfils.rules; fit = record { keeps = each; each = fulfils.fit.each } }

-- and with less kept
pub fulfils_narrower : {q : Sought} {kept wider : ℕ} {test : ℕ → Bool} → Within kept wider → Fulfils q wider test
    → Fulfils q kept test
fulfils_narrower w fulfils = fulfils_wider fulfils (λ i h. fulfils.fit.keeps i (w i h))

-- how much is left to do: values to set and settings to keep, and a last round
abbrev pub left : Round → ℕ
left r = 2 * (free_count r.values + (2 ^ settings_most - r.kept)) + cond r.moved 1 0

pub left_less : (q : Sought) (r s : Round) → r.moved ≡ true → s.kept < 2 ^ settings_most
    → AdvancesTo q r.kept r.values s → left s < left r
left_less q r s t small next = rw t (go s.moved refl)
  where
    sum : Round → ℕ
    sum x = free_count x.values + (2 ^ settings_most - x.kept)

    go : (q : Bool) → s.moved ≡ q → 2 * sum s + cond q 1 0 < 2 * sum r + 1
    go true e = omega (arith, next.moves e, within_le r.kept s.kept next.grows)
    go false e = omega (arith, next.less, within_le r.kept s.kept next.grows)
