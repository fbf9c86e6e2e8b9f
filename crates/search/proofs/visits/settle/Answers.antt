-- `visits::settle` meets its contract: the value that is forced leaves one free value fewer, and settling ends as before.
use mathlib.Core.Path.{sym, ◌∙◌}
use Rattle.search.proofs.VisitLaws.{scan_seen, forced_once}
use Rattle.search.proofs.visits.settle.Goals as goal

pub loop-values-smaller : goal.loop-values-smaller
loop-values-smaller c =
    let seen = sym (scan_seen _ _ c.scan_all.result c.scan_all.ensures) ∙ c.in-OneFree.is in
    (forced_once c.args.clauses _ _ _ _ seen c.slot.ensures c.wish.ensures).fewer

pub loop-values-preserved : goal.loop-values-preserved
loop-values-preserved c =
    let seen = sym (scan_seen _ _ c.scan_all.result c.scan_all.ensures) ∙ c.in-OneFree.is in
    (forced_once c.args.clauses _ _ _ _ seen c.slot.ensures c.wish.ensures).same ∙ c.loop-values.invariant
