-- `walk` meets its contract, by the laws of Walks.antt at each of its ends. The measure is the settings left.
use Rattle.std.proofs.Common.{List, Some, ℕ, ◌+◌, ◌-◌, ◌^◌, ◌≤◌, length, true≢false, sym, ◌∙◌}
use native.Mathlib.Omega.{arith}
use Rattle.setups.specs.Setups.{Setup}
use Rattle.setups.specs.Code.Taken.{Taken}
use Rattle.walk.specs.declared.Node.{Node}
use Rattle.walk.specs.declared.Live.{Live}
use Rattle.walk.specs.Walking.{GivesUpHighest, Witnessed, Enters, Walked}
use Rattle.walk.proofs.NodeSteps.{Known, give_to, give_witnessed}
use Rattle.walk.proofs.Walks.{Half, walked_end, half_full, half_reached, half_dead, half_on}
use Rattle.walk.proofs.+walk.Goals as goal

known : {g : Setup} {live : Live} {found : List ℕ} → Taken g → Witnessed g live found → Known g live.node
known taken s = record { most = taken.settings; decided = s.reached.decided }

-- the walk is through with the branch where the setting is kept
half : {g : Setup} {live kept : Live} {up : Node} {found places after : List ℕ} {filled : ℕ} → Taken g → Witnessed g live found
    → GivesUpHighest live.node up → Enters g (live.node.left - 1) live.node.given found (Some kept)
    → Walked g (kept.node.given + 2 ^ kept.node.left) places after filled → Half g live.node up kept places after filled
half taken s gives live walked = record { known = known taken s; gives = gives; left = live.1; given = live.2; walked = walked }

-- ---- no setting is left

pub returns-then-node-eq0-clause-walked : goal.returns-then-node-eq0-clause-walked
returns-then-node-eq0-clause-walked t c =
    rw (c.push.ensures.stored, c.push.ensures.counted)
    (walked_end _ c.args.live _ _ c.if-node-eq0.true c.requires.witnessed c.requires.room)

-- ---- after a dead keep

pub walk-requires : goal.walk-requires
walk-requires t c = (
  omega (arith, c.give_up-given_up.ensures.left, c.decreases),
  (
    give_witnessed c.args.taken.now.taken.settings c.requires.witnessed c.give_up-given_up.ensures c.in_default.ensures,
    c.requires.room,
  ),
)

pub returns-in_default-clause-walked : goal.returns-in_default-clause-walked
returns-in_default-clause-walked t c =
    rw (← (give_to (known c.args.taken.now.taken c.requires.witnessed) c.give_up-given_up.ensures)) c.walk.ensures.walked

-- ---- after a live keep

pub returns-then-is_full-clause-walked : goal.returns-then-is_full-clause-walked
returns-then-is_full-clause-walked t c =
    half_full (half c.args.taken.now.taken c.requires.witnessed c.give_up-given_up.ensures (rw c.found.ensures at c.in-Some.ensures) c.walk-2.ensures.walked)
    (c.is_full.ensures.0 c.if-is_full.true)

-- ---- giving up after a live keep

pub enter-requires : goal.enter-requires
enter-requires t c =
    let open_still : ¬ (length c.walk-2.new.ways.places.now ≤ c.walk-2.new.ways.filled) =
    λ full. true≢false (sym (c.is_full.ensures.1 full) ∙ c.if-is_full.false) in
    rw c.found-2.ensures
    (half_reached (half c.args.taken.now.taken c.requires.witnessed c.give_up-given_up.ensures (rw c.found.ensures at c.in-Some.ensures) c.walk-2.ensures.walked)
    (omega (arith, open_still)))

pub returns-in-Some-enter-clause-walked : goal.returns-in-Some-enter-clause-walked
returns-in-Some-enter-clause-walked t c =
    let live = c.in-Some-enter.ensures in
    half_on (half c.args.taken.now.taken c.requires.witnessed c.give_up-given_up.ensures (rw c.found.ensures at c.in-Some.ensures) c.walk-2.ensures.walked)
    c.in-Some-enter.entered live.1 live.2 c.walk-in-Some-enter.ensures.walked

pub returns-in_default-enter-clause-walked : goal.returns-in_default-enter-clause-walked
returns-in_default-enter-clause-walked t c =
    half_dead (half c.args.taken.now.taken c.requires.witnessed c.give_up-given_up.ensures (rw c.found.ensures at c.in-Some.ensures) c.walk-2.ensures.walked)
    c.in_default-enter.ensures
