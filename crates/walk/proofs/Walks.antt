-- What the walk leaves in its places at each of its ends.
use mathlib.Core.Path.{◌≡◌, refl, sym, ◌∙◌}
use mathlib.Core.List.{List, [], ◌∷◌, ◌++◌}
use Prim.Native.Nat.{ℕ, ◌+◌, ◌-◌, ◌^◌, ◌≤◌, ◌<◌}
use native.Mathlib.Omega.{arith}
use lib.ListN.{length, take, set, length-append}
use lib.Seq.{length-take-le}
use Rattle.setups.specs.Setups.{Setup}
use Rattle.walk.specs.declared.Node.{Node}
use Rattle.walk.specs.declared.Live.{Live}
use Rattle.walk.specs.Walking.{GivesUpHighest, Below, WayOutBetween, Reached, Witnessed, Walked}
use Rattle.walk.proofs.NodeSteps.{Known, give_from, give_to, give_reached, end_way_out}
use Rattle.walk.proofs.WaysBelow.{below_skip, below_more, below_on, below_next}
use Rattle.walk.proofs.Overwriting.{over_length, over_full, over_again, over_store, over_take}

-- With no setting left the given-up set is put behind those found.
pub walked_end : (g : Setup) (live : Live) (filled : ℕ) (places : List ℕ) → live.node.left ≡ 0 → Witnessed g live (take filled places) → filled < length places
    → Walked g (live.node.given + 2 ^ live.node.left) places (set places filled live.node.given) (filled + 1)
walked_end g live filled places e s l = rw e (record {
  ways = take filled places ++ (live.node.given ∷ []);
  exact = below_next g live.node.given (take filled places) s.reached.before (end_way_out s e);
  places = sym (over_store filled places live.node.given l);
  count = omega (arith, length-append (take filled places) (live.node.given ∷ []), length-take-le filled places (let m : filled ≤ length places = omega arith in m));
})

-- The places hold the ways out below `middle`, and the walk goes on to `top`.
module _ {g : Setup} {middle top : ℕ} {places after : List ℕ} {filled : ℕ} (l : middle ≤ top) (w : Walked g middle places after filled) where
  same_length : length after ≡ length places
  same_length = rw w.places (over_length w.ways places)

  -- the places are full
  pub walked_full : length after ≤ filled → Walked g top places after filled
  walked_full full =
      let m = below_more l w.exact in
      record {
        ways = w.ways ++ m.0;
        exact = m.1;
        places = w.places ∙ sym (over_full w.ways m.0 places (omega (arith, same_length, w.count)));
        count = omega (arith, same_length, w.count, length-append w.ways m.0);
      }

  -- they are not: they begin with all those ways out
  pub walked_below : filled < length after → Below g middle (take filled after)
  walked_below room =
      let e : filled ≡ length w.ways = omega (arith, same_length, w.count) in
      let m : length w.ways ≤ length places = omega (arith, same_length, w.count) in
      rw (w.places, e, over_take w.ways places m) w.exact

  -- there is none from `middle` up
  pub walked_dead : ¬ WayOutBetween g middle top → Walked g top places after filled
  walked_dead dead = record { ways = w.ways; exact = below_skip l w.exact dead; places = w.places; count = w.count }

  -- or those follow
  pub walked_on : {end : List ℕ} {reached : ℕ} → Walked g top after end reached → Walked g top places end reached
  walked_on v =
      let m = below_on l w.exact v.exact in
      record {
        ways = v.ways;
        exact = v.exact;
        places = v.places ∙ rw (w.places, m.1) (over_again w.ways m.0 places);
        count = v.count ∙ rw same_length refl;
      }

-- The two branches below a node: the walk is through with that of `kept`, and `up` is the other.
pub record Half (g : Setup) (node up : Node) (kept : Live) (places after : List ℕ) (filled : ℕ) : Type 0 where
  pub known : Known g node
  pub gives : GivesUpHighest node up
  pub left : kept.node.left ≡ node.left - 1
  pub given : kept.node.given ≡ node.given
  pub walked : Walked g (kept.node.given + 2 ^ kept.node.left) places after filled

module _ {g : Setup} {node up : Node} {kept : Live} {places after : List ℕ} {filled : ℕ} (h : Half g node up kept places after filled) where
  half : Walked g up.given places after filled
  half = rw (give_from h.known h.gives, ← h.left, ← h.given) h.walked

  more : up.given ≤ node.given + 2 ^ node.left
  more = omega (arith, give_to h.known h.gives)

  pub half_full : length after ≤ filled → Walked g (node.given + 2 ^ node.left) places after filled
  half_full = walked_full more half

  pub half_reached : filled < length after → Reached g up (take filled after)
  half_reached room = give_reached h.known h.gives (walked_below more half room)

  pub half_dead : ¬ WayOutBetween g up.given (up.given + 2 ^ up.left) → Walked g (node.given + 2 ^ node.left) places after filled
  half_dead dead = walked_dead more half (rw (give_to h.known h.gives) at dead)

  pub half_on : (live : Live) {last : List ℕ} {reached : ℕ} → live.node.left ≡ up.left → live.node.given ≡ up.given
      → Walked g (live.node.given + 2 ^ live.node.left) after last reached → Walked g (node.given + 2 ^ node.left) places last reached
  half_on live left given w = walked_on more half (rw (← (give_to h.known h.gives), ← left, ← given) w)
