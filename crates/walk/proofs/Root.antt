-- The walk at the root: there no setting is decided, and its branch is all ways out.
use mathlib.Core.Path.{◌≡◌}
use mathlib.Core.List.{List, []}
use Prim.Native.Nat.{ℕ, ◌+◌, ◌^◌, ◌<◌}
use native.Mathlib.Nat.{not-suc-le-zero}
use native.Mathlib.Omega.{arith}
use Rattle.sets.specs.Lists.{Exactly}
use Rattle.sets.proofs.Digits.{none_in}
use Rattle.sets.proofs.Lists.{exactly_iff}
use Rattle.setups.specs.Setups.{Setup, count, Together, WayOut}
use Rattle.walk.specs.declared.Live.{Live}
use Rattle.walk.specs.Walking.{Below, WayOutBetween, Reached, Witnessed, Walked}
use Rattle.walk.proofs.Nodes.{root_decided}
use Rattle.walk.proofs.Replies.{some_way_out}

-- below 0 there is no set
below_none : (g : Setup) → Below g 0 []
below_none g = record { rising = tt; exact = λ S. ((λ h. absurd h), λ h. absurd (not-suc-le-zero h.1)) }

-- below 2 ^ count all ways out are
pub below_all : (g : Setup) (list : List ℕ) → Below g (2 ^ count g) list → Exactly (WayOut g) list
below_all g list = exactly_iff (λ S. WayOut g S × (S < 2 ^ count g)) (WayOut g) (λ S. ((λ h. h.0), λ w. (w, w.below))) list

module _ (g : Setup) (settings : ℕ) (e : settings ≡ count g) where
  pub root_reached : Reached g (record { left = settings; given = 0; kept = 0 }) []
  root_reached = record { decided = rw e (root_decided (count g)); before = below_none g }

  -- an empty branch at the root: the hard clauses have no model, since every model of theirs leaves a way out
  pub root_unmet : ¬ WayOutBetween g 0 (0 + 2 ^ settings) → ¬ Together g 0
  root_unmet dead t =
      dead (some_way_out root_reached.decided root_reached.before t.0 (record { models = t.1; each = λ W h. absurd h }))

  -- a live root: the walk goes through all ways out
  pub root_walked : (live : Live) → live.node.left ≡ settings → live.node.given ≡ 0 → (found places : List ℕ) (filled : ℕ)
      → Walked g (live.node.given + 2 ^ live.node.left) found places filled → Walked g (2 ^ count g) found places filled
  root_walked live left given found places filled w =
      let top : live.node.given + 2 ^ live.node.left ≡ 2 ^ count g = rw (given, left, e) (omega arith) in
      rw (← top) w

-- and the hard clauses have a model
pub root_met : {g : Setup} {live : Live} → Witnessed g live [] → Together g 0
root_met s =
    (s.model, record { assigns = s.meets.models.assigns; hard = s.meets.models.hard; kept = λ i l k. absurd (none_in i k) })
