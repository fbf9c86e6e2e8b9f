-- `question` meets its contract: the search is over the settings that there are, and its model is one of the setup.
use mathlib.Core.Path.{◌≡◌, ◌∙◌, ap}
use Prim.Native.Nat.{ℕ, ◌-◌, ◌^◌, min}
use Rattle.setups.specs.Limits.{settings_most}
use Rattle.setups.specs.Setups.{count}
use Rattle.setups.specs.Code.SetupOf.{setup_of}
use Rattle.question.proofs.Answers.{no_start, no_model_lem, yes_model}
use Rattle.question.proofs.question.Goals as goal
use Rattle.question.proofs.question.Goals.{After-full-all}

-- `full` gives the set of all settings
every : (c : After-full-all) → c.full-all.result ≡ 2 ^ min (count (setup_of c.args.taken.now)) settings_most - 1
every c = c.full-all.ensures ∙ ap (λ (x : ℕ). 2 ^ min x settings_most - 1) c.args.taken.now.counted

pub returns-in_err-start : goal.returns-in_err-start
returns-in_err-start c =
    rw c.from_residual.ensures
    (no_start c.args.taken.now c.args.found _ (every (goal.at.returns-in_err-start c).After-full-all) _ _ _ c.opening.ensures c.in_err-start.ensures)

pub returns-in_err-reached : goal.returns-in_err-reached
returns-in_err-reached c =
    rw c.from_residual-in_err-reached.ensures
    (no_model_lem c.args.taken.now c.args.found _ (every (goal.at.returns-in_err-reached c).After-full-all) _ _ _ c.opening.ensures c.in_ok-start.ensures
    c.in_err-reached.ensures)

pub returns : goal.returns
returns c =
    yes_model c.args.taken.now c.args.found _ (every (goal.at.returns c).After-full-all) _ c.args.given _ _ c.complete.ensures c.in_ok-reached.ensures _ c.stand.ensures
