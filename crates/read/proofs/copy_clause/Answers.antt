-- `read::copy_clause` meets its contract: the bytes of the pairs that are left are still to be stored.
use mathlib.Core.Path.{◌≡◌, ap, ◌∙◌}
use Prim.Native.Nat.{◌+◌, ◌-◌, ◌/◌, suc}
use native.Mathlib.Omega.{arith}
use lib.ListN.{length, length-append}
use Rattle.std.proofs.Common.{rules}
use Rattle.std.specs.Iterator.Adapters.{enumerate_count}
use Rattle.read.proofs.Filling.{copy_more}
use Rattle.read.proofs.copy_clause.Goals as goal

pub loop-i-preserved : goal.loop-i-preserved
loop-i-preserved c =
    let steps = c.in-Some.ensures.steps in
    let x = c.loop-i.invariant in
    let shorter = ap length steps.0.1.0 ∙ length-append c.in-Some.pair.now _ in
    let place = c.args.place in
    let count = length c.args.digits.now / 2 in
    let i = enumerate_count c.loop-i.i-iterator in
    let next = enumerate_count c.next.new.self in
    let more : count - i ≡ suc (count - next) = omega (arith, shorter, steps, x.2, x.3) in (
      search rules,
      tt,
      steps.0.0 ∙ x.2,
      omega (arith, shorter, steps, x.2, x.3),
      copy_more _ _ _ _ (place + i) (place + c.in-Some.i) (place + next) (count - i) (count - next) _ steps.0.1.0 (steps.0.1.1 ∙ x.2) c.byte_at.ensures (omega (arith, steps.1)) (omega (arith, steps.2)) more ∙ x.4,
    )
