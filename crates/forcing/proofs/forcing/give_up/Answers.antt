-- `forcing::give_up` meets its contract: the literals of given-up settings that are passed are false.
use mathlib.Core.Path.{refl, ap, ◌∙◌}
use Prim.Native.Nat.{◌<◌, ◌^◌}
use native.Mathlib.Omega.{arith}
use Rattle.std.specs.Prelude.{Some, None}
use Rattle.numbers.specs.declared.Selector.{Selector}
use Rattle.setups.specs.Limits.{settings_most}
use Rattle.forcing.proofs.ForcingLaws.{giving_starts, giving_ends, giving_reads, giving_denies, giving_on}
use Rattle.forcing.proofs.forcing.give_up.Goals as goal
use Rattle.forcing.proofs.forcing.give_up.Goals.{then-byte-eq0, else-byte-eq0+then-has_selector+in_ok-forced, else-byte-eq0+else-has_selector}

pub loop-byte-init : goal.loop-byte-init
loop-byte-init c = rw c.start-forced.ensures (giving_starts refl)

pub returns-in_err-forced : goal.returns-in_err-forced
returns-in_err-forced c =
    let small : c.args.given < 2 ^ settings_most = omega (arith, c.ranges.given) in
    rw c.from_residual.ensures
    (giving_denies c.loop-byte.invariant c.loop-byte-test.true c.if-byte-eq0.false small c.requires (c.has_selector.ensures.0 c.if-has_selector.true)
    None c.in_err-forced.ensures)

pub loop-byte-preserved : goal.loop-byte-preserved
loop-byte-preserved c =
    let at = c.loop-byte in
    let l = c.loop-byte-test.true in
    let small : c.args.given < 2 ^ settings_most = omega (arith, c.ranges.given) in
    elim c.if-byte-eq0.branch [
      | then-byte-eq0 w ↦ rw w.forced-is
          (giving_ends at.invariant l w.if-byte-eq0.true (ap (λ (x : Selector). x.0) w.selector-is ∙ w.next_selector-selector.ensures))
      | else-byte-eq0+then-has_selector+in_ok-forced w ↦ rw (w.forced-is, w.selector-is)
          (giving_on at.invariant l w.if-byte-eq0.false
          (giving_denies at.invariant l w.if-byte-eq0.false small c.requires (w.has_selector.ensures.0 w.if-has_selector.true)
          (Some w.in_ok-forced.forced) w.in_ok-forced.ensures))
      | else-byte-eq0+else-has_selector w ↦ rw (w.forced-is, w.selector-is) (giving_reads at.invariant l w.if-byte-eq0.false)
    ]
