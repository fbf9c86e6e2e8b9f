-- `write::put_clauses` meets its contract: the lines of the clauses that are left are still to be stored from `to` on.
use mathlib.Core.Path.{◌∙◌}
use native.Mathlib.Omega.{arith}
use Rattle.std.proofs.Common.{rules}
use Rattle.frames.specs.Code.Kinds.{byte_of_kind}
use Rattle.write.proofs.ClauseLines.{cut_next, first_takes, first_stored}
use Rattle.write.proofs.put_clauses.Goals as goal

pub put_frame-requires : goal.put_frame-requires
put_frame-requires c =
    let left = cut_next _ _ _ _ _ _ (λ f a r f' k. search rules) c.in-Some.ensures.steps c.loop-clause.invariant.2 in
    omega (arith, first_takes (byte_of_kind c.args.kind) _ _ _ left.splits)

pub overflow_add-to-in-loop-clause : goal.overflow_add-to-in-loop-clause
overflow_add-to-in-loop-clause c =
    let left = cut_next _ _ _ _ _ _ (λ f a r f' k. search rules) c.in-Some.ensures.steps c.loop-clause.invariant.2 in
    omega (arith, first_takes (byte_of_kind c.args.kind) _ _ _ left.splits, c.well_formed)

pub loop-clause-preserved : goal.loop-clause-preserved
loop-clause-preserved c =
    let left = cut_next _ _ _ _ _ _ (λ f a r f' k. search rules) c.in-Some.ensures.steps c.loop-clause.invariant.2 in (
      search rules,
      tt,
      left.left_ended,
      omega (arith, first_takes (byte_of_kind c.args.kind) _ _ _ left.splits),
      first_stored (byte_of_kind c.args.kind) _ _ _ left.splits _ _ _ (rw c.from.ensures at c.put_frame.ensures) ∙ c.loop-clause.invariant.4,
    )
