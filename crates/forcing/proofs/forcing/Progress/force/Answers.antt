-- `Progress::force` meets its contract: the clauses that are passed have been put to use, and those from here on are still due.
use mathlib.Core.Path.{refl, ap, ◌∙◌}
use Rattle.std.specs.Prelude.{Some, None}
use Rattle.numbers.specs.declared.Selector.{Selector}
use Rattle.forcing.proofs.ForcingLaws.{forcing_starts, forcing_reads, forcing_on, forcing_ends}
use Rattle.forcing.proofs.forcing.Progress.force.Goals as goal
use Rattle.forcing.proofs.forcing.Progress.force.Goals.{then-byte-eq0, then-due+in_ok-end_clause, else-due, else-byte-eq0}

pub loop-byte-init : goal.loop-byte-init
loop-byte-init g c = forcing_starts refl

pub returns-in_err-end_clause : goal.returns-in_err-end_clause
returns-in_err-end_clause g c =
    rw c.from_residual.ensures
    (forcing_on c.loop-byte.invariant c.loop-byte-test.true c.if-byte-eq0.true (rw c.if-due.true at c.due.ensures) None c.in_err-end_clause.ensures)

pub loop-byte-preserved : goal.loop-byte-preserved
loop-byte-preserved g c =
    let at = c.loop-byte in
    let l = c.loop-byte-test.true in
    elim c.if-byte-eq0.branch [
      | then-byte-eq0 w ↦
          let z = w.if-byte-eq0.true in
          rw (w.seen-is, w.forced-is)
          (forcing_ends at.invariant l z
          (elim w.if-due.branch [
            | then-due+in_ok-end_clause v ↦ rw v.forced-is
                (forcing_on at.invariant l z (rw v.if-due.true at w.due.ensures) (Some v.end_clause.new.self) v.in_ok-end_clause.ensures)
            | else-due v ↦ rw v.forced-is at.invariant.step
          ])
          (ap (λ (x : Selector). x.0) w.selector-is ∙ w.next_selector-selector.ensures))
      | else-byte-eq0 w ↦ rw (w.forced-is, w.selector-is)
          (forcing_reads at.invariant l w.if-byte-eq0.false w.slot.ensures (w.seen-is ∙ w.see-seen.ensures))
    ]
