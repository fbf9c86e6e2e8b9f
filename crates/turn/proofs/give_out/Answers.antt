-- `turn::give_out` meets its contract: the branch with nothing taken and every setting left holds the turn.
use mathlib.Core.Path.{◌≡◌, refl, ◌∙◌}
use Prim.Native.Nat.{◌-◌, ◌^◌, min}
use native.Mathlib.Omega.{arith}
use Rattle.std.proofs.lemmas.Result.{err_from_is_err_and}
use Rattle.setups.specs.Limits.{settings_most}
use Rattle.turn.proofs.Ends.{gives_list, gives_too_many}
use Rattle.turn.proofs.give_out.Goals as goal
use Rattle.turn.proofs.give_out.Goals.{After-full}

-- every setting up to the count is left
all : (c : After-full) → c.full.result ≡ 2 ^ c.args.count - 1
all c =
    let few : min c.args.count settings_most ≡ c.args.count = omega (arith, c.requires) in
    c.full.ensures ∙ rw few

pub returns-in_err-search : goal.returns-in_err-search
returns-in_err-search c =
    let refused = err_from_is_err_and c.from_residual.result c.from_residual.ensures.1 in
    let e = all (goal.at.returns-in_err-search c).After-full in
    rw (refused.1, refused.2, c.in_err-search.ensures.0) (gives_too_many c.args.count c.new-found.ensures.none (c.new-found.ensures.room ∙ c.requires.1) (rw e at c.in_err-search.ensures.1))

pub returns : goal.returns
returns c =
    let e = all (goal.at.returns c).After-full in
    rw (c.copy_from_slice.ensures.after, c.sets-turned.ensures) (gives_list c.args.count c.new-found.ensures.none (c.new-found.ensures.room ∙ c.requires.1) (rw e at c.in_ok-search.ensures) refl)
