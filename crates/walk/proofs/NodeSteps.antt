-- From a node to the two below it, and what a node with no setting left is. Nothing here speaks of places.
use mathlib.Core.Path.{◌≡◌, sym, ◌∙◌, subst}
use mathlib.Core.Logic.{⊎_elim}
use mathlib.Core.List.{List}
use Prim.Native.Nat.{ℕ, suc, ◌+◌, ◌-◌, ◌^◌, ◌≤◌, ◌<◌}
use native.Mathlib.Nat.{suc_inj}
use native.Mathlib.Omega.{arith}
use Rattle.sets.specs.Sets.{In, Share, Joins, only}
use Rattle.sets.proofs.Digits.{only_in, joins_only}
use Rattle.setups.specs.Limits.{settings_most}
use Rattle.setups.specs.Setups.{Setup, count, SettingTrue, WayOut}
use Rattle.walk.specs.declared.Node.{Node}
use Rattle.walk.specs.declared.Live.{Live}
use Rattle.walk.specs.Walking.{AboveDecided, KeepsHighest, GivesUpHighest, Below, WayOutBetween, Reached, Witnessed}
use Rattle.walk.proofs.Nodes.{not_given, not_kept, keep_decided, give_decided}
use Rattle.walk.proofs.Replies.{some_way_out}
use Rattle.walk.proofs.WaysBelow.{below_skip}

-- what every step knows of its setup and its node
pub record Known (g : Setup) (node : Node) : Type 0 where
  pub most : count g ≤ settings_most
  pub decided : AboveDecided (count g) node.left node.given node.kept

module _ {g : Setup} {node : Node} (s : Known g node) where
  -- the node has the setting at place i left
  module _ (i : ℕ) (e : suc i ≡ node.left) where
    open_below : AboveDecided (count g) (suc i) node.given node.kept
    open_below = subst (λ (x : ℕ). AboveDecided (count g) x node.given node.kept) (sym e) s.decided

    -- a set that lacks it, joined with it
    joined : (S Q : ℕ) → ¬ In i S → Joins S (only settings_most node.left) Q → Q ≡ S + 2 ^ i
    joined S Q h q =
        joins_only settings_most i S Q (omega (arith, s.most, open_below.all)) h (subst (λ (x : ℕ). Joins S (only settings_most x) Q) (sym e) q)

  -- ---- it is kept

  module _ {next : Node} (k : KeepsHighest node next) where
    pub keep_reached : {found : List ℕ} → Below g node.given found → Reached g next found
    keep_reached b =
        let below = open_below next.left k.left in
        let kept = joined next.left k.left node.kept next.kept (not_kept below) k.kept in
        record { decided = rw (k.given, kept) (keep_decided below); before = rw k.given b }

  -- ---- it is given up

  module _ {next : Node} (k : GivesUpHighest node next) where
    below : AboveDecided (count g) (suc next.left) node.given node.kept
    below = open_below next.left k.left

    given : next.given ≡ node.given + 2 ^ next.left
    given = joined next.left k.left node.given next.given (not_given below) k.given

    -- the branch begins in the middle of the node's
    pub give_from : next.given ≡ node.given + 2 ^ (node.left - 1)
    give_from = let e : next.left ≡ node.left - 1 = omega (arith, k.left) in rw (← e) given

    -- and ends where that ends
    pub give_to : next.given + 2 ^ next.left ≡ node.given + 2 ^ node.left
    give_to = rw (← k.left) (omega (arith, given))

    pub give_reached : {found : List ℕ} → Below g next.given found → Reached g next found
    give_reached b = record { decided = rw (given, k.kept) (give_decided below); before = b }

module _ {g : Setup} {live : Live} {found : List ℕ} (most : count g ≤ settings_most) (s : Witnessed g live found) where
  known : Known g live.node
  known = record { most = most; decided = s.reached.decided }

  -- Keeping a setting that the witness has: the same model serves.
  pub keep_witnessed : {next : Node} → KeepsHighest live.node next → Share live.witness (only settings_most live.node.left)
      → Witnessed g (record { node = next; witness = live.witness }) found
  keep_witnessed k has = record {
    reached = keep_reached known k s.reached.before;
    model = s.model;
    meets = record {
      models = record {
        assigns = s.meets.models.assigns;
        hard = s.meets.models.hard;
        kept = λ i l h. ⊎_elim (s.meets.models.kept i l) (new i l) ((k.kept i).0 h);
      };
      each = s.meets.each;
    };
    shows = s.shows;
  }
    where
      new : (i : ℕ) → i < count g → In i (only settings_most live.node.left) → SettingTrue g s.model i
      new i l h =
          let at = live.node.left in
          let e : has.0 ≡ i = suc_inj (((only_in settings_most at has.0).0 has.2).0 ∙ sym ((only_in settings_most at i).0 h).0) in
          (s.shows.exact i l).0 (subst (λ (x : ℕ). In x live.witness) e has.1)

  -- Giving up after a dead keep: the node's branch has a way out, and none with the setting kept, so the same witness serves.
  pub give_witnessed : {next : Node} → GivesUpHighest live.node next → ¬ WayOutBetween g live.node.given (live.node.given + 2 ^ (live.node.left - 1))
      → Witnessed g (record { node = next; witness = live.witness }) found
  give_witnessed k dead = record {
    reached = give_reached known k (rw (give_from known k) (below_skip (omega arith) s.reached.before dead));
    model = s.model;
    meets = rw k.kept s.meets;
    shows = s.shows;
  }

-- With no setting left the given-up set is the one way out of the branch, with no further question.
pub end_way_out : {g : Setup} {live : Live} {found : List ℕ} → Witnessed g live found → live.node.left ≡ 0 → WayOut g live.node.given
end_way_out {g} {live} s e =
    let given = live.node.given in
    let one = some_way_out s.reached.decided s.reached.before s.model s.meets in
    let high = subst (λ (x : ℕ). one.0 < given + 2 ^ x) e one.3 in
    subst (WayOut g) (let same : one.0 ≡ given = omega (arith, one.2) in same) one.1
