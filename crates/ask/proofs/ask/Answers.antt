-- `ask::ask` meets its contract: the first refusal that is given, or what the search tells.
use mathlib.Core.Path.{sym}
use Rattle.std.proofs.lemmas.Result.{err_from_is_err_and}
use Rattle.ask.proofs.Refusing.{taken}
use Rattle.ask.proofs.Answering.{readable, refused_result, made_result}
use Rattle.ask.proofs.ask.Goals as goal

pub returns-in_err-first_refusal : goal.returns-in_err-first_refusal
returns-in_err-first_refusal c =
    let given = err_from_is_err_and c.from_residual.result c.from_residual.ensures.1 in
    rw (given.1, given.2) (refused_result _ _ _ _ _ _ c.in_err-first_refusal.ensures)

pub invariant_of-clauses : goal.invariant_of-clauses
invariant_of-clauses c = record { readable = readable (taken _ _ _ _ (sym c.in_ok-first_refusal.ensures)) }

pub returns-in_err-values : goal.returns-in_err-values
returns-in_err-values c =
    let given = err_from_is_err_and c.from_residual-in_err-values.result c.from_residual-in_err-values.ensures.1 in
    let told = rw c.opening.ensures at c.in_err-values.ensures in
    rw (given.1, given.2) (made_result _ _ _ _ _ _ c.in_ok-first_refusal.ensures told)

pub returns-in-Model : goal.returns-in-Model
returns-in-Model c =
    let told = rw (c.in-Model.is, c.opening.ensures) at c.in_ok-values.ensures in
    rw c.copy_from_slice.ensures.after
    (made_result c.args.count c.args.clauses.now c.args.assumed.now c.args.budget c.args.model.now _ c.in_ok-first_refusal.ensures told)

pub returns-in-None : goal.returns-in-None
returns-in-None c =
    let told = rw (c.in-None.is, c.opening.ensures) at c.in_ok-values.ensures in
    made_result _ _ _ _ _ _ c.in_ok-first_refusal.ensures told
