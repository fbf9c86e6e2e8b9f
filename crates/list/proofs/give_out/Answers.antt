-- `list::give_out` meets its contract: a dead root is Unmet, and from a live one the walk goes through all ways out.
use mathlib.Core.Path.{◌≡◌, refl}
use Rattle.std.specs.Prelude.{Result}
use borrow.Author.Rules.{rules}
use Rattle.setups.specs.declared.Refusal.{Refusal}
use Rattle.list.specs.declared.Listing.{Listing}
use Rattle.list.specs.Code.Giving.{GivesWays}
use mathlib.Core.List.{List, []}
use Prim.Native.Nat.{ℕ, ◌+◌, ◌^◌}
use lib.ListN.{length}
use Rattle.setups.specs.Setups.{Setup, count}
use Rattle.walk.specs.declared.Live.{Live}
use Rattle.std.specs.Prelude.{Some}
use Rattle.walk.specs.Walking.{Enters, Walked}
use Rattle.walk.proofs.Root.{root_met, root_walked}
use Rattle.list.proofs.Giving.{root_dead, Whole, whole_many, whole_listed}
use Rattle.list.proofs.give_out.Goals as goal

-- the walk is through
whole : {g : Setup} {settings : ℕ} {live : Live} {list found places : List ℕ} {filled : ℕ} → settings ≡ count g → length found ≡ length list + 1
    → Enters g settings 0 [] (Some live) → Walked g (live.node.given + 2 ^ live.node.left) found places filled → Whole g list found places filled
whole {live = live} e room entered walked =
    record { met = root_met entered.0; room = room; walked = root_walked _ _ e live entered.1 entered.2 _ _ _ walked }

-- the places are those that were lent
held : {g : Setup} {list found after places held : List ℕ} {answer : Result Listing Refusal} → GivesWays g list found answer after places
    → held ≡ places → GivesWays g list found answer after held
held h e = rw e h

pub returns-in_default : goal.returns-in_default
returns-in_default c = root_dead _ _ c.args.taken.now.counted _ _ c.in_default.ensures

pub returns-then-list-filled : goal.returns-then-list-filled
returns-then-list-filled c =
    held (whole_many (whole c.args.taken.now.counted c.requires c.in-Some.ensures c.walk.ensures.walked) c.if-list-filled.true) (search rules)

pub returns : goal.returns
returns c =
    held (whole_listed (whole c.args.taken.now.counted c.requires c.in-Some.ensures c.walk.ensures.walked) c.if-list-filled.false
    (rw c.copy_from_slice.ensures.after refl)) (search rules)
