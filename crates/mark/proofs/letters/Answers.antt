-- `mark::letters` meets its contract: the places so far hold their letters and the others what they held.
use mathlib.Core.Path.{◌≡◌, ap, ◌∙◌}
use mathlib.Core.List.{List}
use Prim.Native.Nat.{ℕ, ◌-◌}
use native.Mathlib.Omega.{arith}
use lib.ListN.{length, set, take}
use lib.Seq.{length-take-le}
use Rattle.sets.specs.Marks.{mark}
use Rattle.mark.proofs.Writing.{marks_next, marks_whole}
use Rattle.mark.proofs.letters.Goals as goal

pub loop-i-preserved : goal.loop-i-preserved
loop-i-preserved c =
    let a = c.args in
    let i = c.loop-i.i in
    let place : c.setting_of.result.0 - 1 ≡ i = omega (arith, c.setting_of.ensures) in
    let here : c.into.result ≡ mark a.list.now i = c.into.ensures ∙ c.fares.ensures ∙ ap (mark a.list.now) place in
    ap (λ (places : List ℕ). set places i c.into.result) c.loop-i.invariant ∙ rw here (marks_next a.list.now (take a.count a.marks.now) i (omega arith))

pub returns : goal.returns
returns c =
    let a = c.args in
    let size : length (take a.count a.marks.now) ≡ a.count = length-take-le a.count a.marks.now (omega arith) in
    rw c.loop-i.invariant (marks_whole a.list.now a.marks.now c.loop-i.i a.count (omega arith) (omega arith))
