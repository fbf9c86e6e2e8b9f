-- `read::fill` meets its contract: what each frame brings is stored after what has come, and has its places in a good text.
use Rattle.read.proofs.Filling.{hard_digits, hard_room, soft_digits, soft_room, all_filled}
use Rattle.read.proofs.fill.Goals as goal

pub literal_digits-digits-requires : goal.literal_digits-digits-requires
literal_digits-digits-requires c = let d = hard_digits c.requires c.loop-found.invariant _ _ c.in-Some.ensures.steps _ c.in-Hard.is in (d.begin, d.inside)

pub copy_clause-hard_place-requires : goal.copy_clause-hard_place-requires
copy_clause-hard_place-requires c = hard_room c.requires c.loop-found.invariant _ _ c.in-Some.ensures.steps _ c.in-Hard.is _ c.literal_digits-digits.ensures

pub literal_digits-digits-requires-in-Soft : goal.literal_digits-digits-requires-in-Soft
literal_digits-digits-requires-in-Soft c = let d = soft_digits c.requires c.loop-found.invariant _ _ c.in-Some.ensures.steps _ c.in-Soft.is in (d.begin, d.inside)

pub copy_clause-soft_place-requires : goal.copy_clause-soft_place-requires
copy_clause-soft_place-requires c = soft_room c.requires c.loop-found.invariant _ _ c.in-Some.ensures.steps _ c.in-Soft.is _ c.literal_digits-digits-in-Soft.ensures

pub returns : goal.returns
returns c = all_filled c.requires c.loop-found.invariant _ c.in-None.ensures.steps
