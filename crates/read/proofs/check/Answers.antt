-- `read::check` meets its contract: each line is one that the fold over the text's lines takes, or the one that it calls bad.
use native.Mathlib.Omega.{arith}
use Rattle.read.proofs.Passing.{new_within, first_header, no_first, first_other, no_more, header_again, hard_more, soft_more, line_after, line_last}
use Rattle.read.proofs.check.Goals as goal

pub returns-in_default : goal.returns-in_default
returns-in_default c = no_first c.args.text.now _ _ _ c.new-reader.ensures.1 (new_within c.args.text _ c.new-reader.ensures) c.next.ensures.steps c.in_default.is

pub returns-in_default-frame : goal.returns-in_default-frame
returns-in_default-frame c = first_other c.args.text.now _ _ _ c.new-reader.ensures.1 (new_within c.args.text _ c.new-reader.ensures) c.next.ensures.steps _ c.in-Some.is c.in_default-frame.not-Header

pub loop-found-init : goal.loop-found-init
loop-found-init c = rw c.into_iter-found-iterator.ensures.into_iter_gives (first_header c.args.text.now _ _ _ c.new-reader.ensures.1 (new_within c.args.text _ c.new-reader.ensures) c.next.ensures.steps _ _ c.in-Some.is c.in-Header.is)

pub returns-in-Header-frame : goal.returns-in-Header-frame
returns-in-Header-frame c = header_again c.loop-found.invariant _ _ c.in-Some-found.ensures.steps _ c.in-Header-frame.is

pub overflow_add-setup : goal.overflow_add-setup
overflow_add-setup c = let u = hard_more c.loop-found.invariant _ _ c.in-Some-found.ensures.steps _ c.in-Hard.is in omega (arith, u, c.well_formed)

pub overflow_add-setup-in-Hard : goal.overflow_add-setup-in-Hard
overflow_add-setup-in-Hard c = let u = hard_more c.loop-found.invariant _ _ c.in-Some-found.ensures.steps _ c.in-Hard.is in omega (arith, u, c.well_formed)

pub overflow_add-setup-in-Soft : goal.overflow_add-setup-in-Soft
overflow_add-setup-in-Soft c = let u = soft_more c.loop-found.invariant _ _ c.in-Some-found.ensures.steps _ c.in-Soft.is in omega (arith, u, c.well_formed)

pub overflow_add-setup-in-Soft-2 : goal.overflow_add-setup-in-Soft-2
overflow_add-setup-in-Soft-2 c = let u = soft_more c.loop-found.invariant _ _ c.in-Some-found.ensures.steps _ c.in-Soft.is in omega (arith, u, c.well_formed)

pub returns-in-End : goal.returns-in-End
returns-in-End c = line_after c.loop-found.invariant _ _ c.in-Some-found.ensures.steps c.in-End.is c.if-found-text.true

pub returns-in-End-2 : goal.returns-in-End-2
returns-in-End-2 c = line_last c.loop-found.invariant _ _ c.in-Some-found.ensures.steps c.in-End-2.is c.if-found-text.false

pub returns : goal.returns
returns c = no_more c.loop-found.invariant c.next-in-loop-found.new.self c.in-None.ensures.steps
