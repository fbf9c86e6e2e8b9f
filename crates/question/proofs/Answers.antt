-- What the question answers: none where the search fails, and else what its model makes true.
use mathlib.Core.Path.{◌≡◌, refl, sym, ◌∙◌, subst}
use mathlib.Core.Logic.Iff
use mathlib.Core.Logic.{◌↔◌}
use Rattle.std.specs.Prelude.{Some, None}
use mathlib.Core.List.{List}
use Prim.Native.Nat.{ℕ, ◌-◌, ◌^◌, ◌<◌, min}
use native.Mathlib.Omega.{arith}
use denote.Bor.{Bor}
use lib.Bits.{bit_and}
use lib.Dec.{T}
use lib.ListN.{length, get_or, take, length-take}
use lib.Pow.{pow_pos}
use lib.Seq.{get_or-take}
use Rattle.sets.specs.Sets.{In, Within}
use Rattle.sets.proofs.Digits.{within_le, full_in, and_in}
use Rattle.sets.proofs.Tests.{has_in, in_has}
use Rattle.setups.specs.Limits.{variables_most, settings_most}
use Rattle.setups.specs.Clauses.{Assigns}
use Rattle.setups.specs.Setups.{Setup, count, SettingTrue}
use Rattle.setups.specs.declared.taken.TakenSetup.{TakenSetup}
use Rattle.literals.specs.Slots.{opening}
use Rattle.setups.proofs.Models.{assigns_full}
use Rattle.forcing.specs.Holding.{is_true, holds, AllBroken}
use Rattle.forcing.specs.Values.{AgreesWith, Completes}
use Rattle.forcing.specs.Rules.{Keeps, KeepsAnswers, unmoved}
use Rattle.forcing.specs.Standings.{Stands}
use Rattle.forcing.specs.declared.forcing.Progress.{Progress}
use Rattle.forcing.specs.declared.standing.Standing.{Standing}
use Rattle.forcing.proofs.ValueLaws.{agrees_opening}
use Rattle.setups.specs.Code.SetupOf.{setup_of}
use Rattle.question.specs.Question.{Meets, Breaks, Says}
use Rattle.question.specs.Seeking.{Fulfils, Seeks}
use Rattle.question.specs.declared.sought.Sought.{Sought}
use Rattle.question.proofs.Bridge.{rules_true, holds_true}

module _ (s : TakenSetup) (sets : Bor (List ℕ)) (all : ℕ) (every : all ≡ 2 ^ min (count (setup_of s)) settings_most - 1) where
  abbrev g : Setup
  g = setup_of s

  -- what is asked, apart from the kept settings
  abbrev q : Sought
  q = record { hard = s.hard; soft = s.soft; found = sets }

  all_in : (i : ℕ) → In i all ↔ (i < count g)
  all_in i =
      let e : min (count g) settings_most ≡ count g = omega (arith, s.taken.settings) in
      rw (every, e) (full_in (count g) i)

  -- of a set, the settings that there are
  there : (S i : ℕ) → In i (bit_and S all) ↔ (In i S × (i < count g))
  there S i = Iff.trans (and_in S all i) ((λ h. (h.0, (all_in i).0 h.1)), λ h. (h.0, (all_in i).1 h.1))

  -- a set of settings that there are is below the power
  below : (S : ℕ) → ((i : ℕ) → In i S → i < count g) → S < 2 ^ count g
  below S inside =
      let w : Within S (2 ^ count g - 1) = λ i h. (full_in (count g) i).1 (inside i h) in
      omega (arith, within_le S (2 ^ count g - 1) w, pow_pos (count g))

  module _ (kept given : ℕ) where
    -- ---- no model

    module _ (m : List ℕ) (meets : Meets g kept sets.now m) where
      -- what holds under m is what m makes true
      truly : (i : ℕ) → T (holds (is_true m) g.soft i) ↔ ((i < count g) × SettingTrue g m i)
      truly = holds_true g s.taken m m (λ i l. refl)

      asked : Fulfils q (bit_and kept all) (is_true m)
      asked = record {
        rules = subst T (sym (rules_true g s.taken m m (λ i l. refl))) meets.models.hard;
        fit = record {
          keeps = λ i h. let k = (there kept i).0 h in (truly i).1 (k.1, meets.models.kept i k.1 k.0);
          each = λ W h. let one = meets.each W h in (one.0, one.2, (truly one.0).1 (one.1, one.3));
        };
      }

      agrees : (start : List ℕ) → start ≡ opening g.variables → AgreesWith start m
      agrees start is = rw is (agrees_opening g.variables (variables_most - g.variables) m meets.models.assigns.size)

      broken : Breaks g given m → AllBroken (bit_and given all) (is_true m) g.soft
      broken breaks i h t = let k = (there given i).0 h in breaks i k.1 k.0 ((truly i).0 t).1

    module _ (start : List ℕ) (is : start ≡ opening g.variables) where
      -- the given-up settings cannot be broken
      pub no_start : KeepsAnswers (λ m. AllBroken (bit_and given all) (is_true m) g.soft) (unmoved start) None → Says g kept given sets.now None
      no_start none m meets breaks = none m (assigns_full meets.models.assigns) (broken m meets breaks) (agrees m meets start is)

      -- they can, and the search finds nothing
      pub no_model_lem : {forced : Progress} → Keeps (λ m. AllBroken (bit_and given all) (is_true m) g.soft) (unmoved start) forced
          → Seeks (λ m. Fulfils q (bit_and kept all) (is_true m)) forced.values None → Says g kept given sets.now None
      no_model_lem step none m meets breaks =
          let full = assigns_full meets.models.assigns in
          none m full (asked m meets) (step.stays m full (broken m meets breaks) (agrees m meets start is))

    -- ---- a model

    module _ (reached w : List ℕ) (completes : Completes reached w) where
      -- the values of the variables are a model's
      same : (i : ℕ) → i < g.variables → get_or (take g.variables w) i 0 ≡ get_or w i 0
      same i l = get_or-take g.variables w i 0 l

      assigns : Assigns g.variables (take g.variables w)
      assigns = record {
        size =
            let e : min g.variables (length w) ≡ g.variables = omega (arith, completes.size, s.taken.variables) in
            length-take g.variables w ∙ e;
        bits = λ i l. omega (arith, same i l, completes.full i);
      }

      truth : (i : ℕ) → T (holds (is_true w) g.soft i) ↔ ((i < count g) × SettingTrue g (take g.variables w) i)
      truth = holds_true g s.taken (take g.variables w) w same

      module _ (told : (m : List ℕ) → AgreesWith reached m → Fulfils q (bit_and kept all) (is_true m)) where
        answer : Fulfils q (bit_and kept all) (is_true w)
        answer = told w completes.agrees

        meets : Meets g kept sets.now (take g.variables w)
        meets = record {
          models = record {
            assigns = assigns;
            hard = subst T (rules_true g s.taken (take g.variables w) w same) answer.rules;
            kept = λ i l h. ((truth i).0 (answer.fit.keeps i ((there kept i).1 (h, l)))).1;
          };
          each = λ W h.
              let one = answer.fit.each W h in
              let k = (truth one.0).0 one.2 in
              (one.0, k.0, one.1, k.1);
        }

        pub yes_model : (standing : Standing) → Stands w g.soft standing → Says g kept given sets.now (Some standing.sure)
        yes_model standing stands = (
          take g.variables w,
          meets,
          record {
            below = below standing.sure (λ i h. ((shown i).0 h).0);
            exact = λ i l. ((λ h. ((shown i).0 h).1), λ h. (shown i).1 (l, h));
          },
        )
          where
            shown : (i : ℕ) → In i standing.sure ↔ ((i < count g) × SettingTrue g (take g.variables w) i)
            shown i =
                Iff.trans (
                  (λ h. subst T (stands.sure i) (in_has standing.sure i h)),
                  λ t. has_in standing.sure i (subst T (sym (stands.sure i)) t),
                ) (truth i)
