-- `standing::stand` meets its contract: at each place both sets have the settings that end before it.
use borrow.Author.Rules.{rules}
use native.Mathlib.Omega.{arith}
use Rattle.forcing.proofs.StandingLaws.{is_sure, is_possible}
use mathlib.Core.Path.{◌≡◌, refl, ap, ◌∙◌}
use Rattle.numbers.specs.declared.Selector.{Selector}
use Rattle.forcing.proofs.Tallies.{standing_starts, standing_ends, standing_reads}
use Rattle.forcing.proofs.standing.stand.Goals as goal
use Rattle.forcing.proofs.standing.stand.Goals.{then-byte-eq0, else-byte-eq0}

pub loop-byte-init : goal.loop-byte-init
loop-byte-init c = standing_starts refl

pub loop-byte-preserved : goal.loop-byte-preserved
loop-byte-preserved c =
    let at = c.loop-byte in
    let l = c.loop-byte-test.true in
    elim c.if-byte-eq0.branch [
      | then-byte-eq0 w ↦
          let sure : w.eq.result ≡ is_sure at.chance = search rules in
          let possible : w.ne.result ≡ is_possible at.chance = grind arith in
          rw (w.chance-is, w.sure-is, w.possible-is)
          (standing_ends at.invariant l w.if-byte-eq0.true (rw sure at w.added-sure.ensures) (rw possible at w.added-possible.ensures)
          (ap (λ (x : Selector). x.0) w.selector-is ∙ w.next_selector-selector.ensures))
      | else-byte-eq0 w ↦ rw (w.sure-is, w.possible-is, w.selector-is)
          (standing_reads at.invariant l w.if-byte-eq0.false w.slot.ensures (w.chance-is ∙ w.look-chance.ensures))
    ]
