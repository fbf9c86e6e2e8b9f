-- `turn::gathered::Gathered::insert` meets its contract: the place that is found by halves is the set's, and the larger ones move on from there.
use mathlib.Core.Path.{◌≡◌, refl, sym, ◌∙◌}
use mathlib.Core.Logic.{◌≢◌}
use Prim.Native.Nat.{◌+◌, ◌-◌, ◌≤◌, ◌<◌}
use native.Mathlib.Omega.{arith}
use lib.Dec.{ltb}
use lib.ListN.{length, set, take}
use lib.Seq.{length-take-le}
use borrow.Rule.Slice.PartMut.{put_mid}
use Rattle.std.proofs.Common.{rules}
use Rattle.std.proofs.lemmas.List.Sorted.{IsPartitionPoint-from_clause}
use Rattle.turn.specs.Code.Growing.{placed, sets_of}
use Rattle.turn.proofs.Placing.{placed_rising, rising_parts, placed_at, turned, turned_length}
use Rattle.turn.proofs.gathered.Gathered.insert.Goals as goal
use Rattle.turn.proofs.gathered.Gathered.insert.Goals.{After-rotate_right}

-- the place is one of the filled ones, or the next
within : (c : After-rotate_right) → (c.partition_point-at.result ≤ c.args.self.now.filled) × (c.args.self.now.filled < length c.args.self.now.places.now)
within c =
    let found = c.args.self.now in
    let few = found.few in
    let bound = rw c.sets.ensures at c.partition_point-at.ensures.bound in
    let open' : found.filled ≢ length found.places.now = c.if-filled-self.false in
    (omega (arith, length-take-le found.filled found.places.now few), omega arith)

-- the places afterwards
room : (c : After-rotate_right) →
    (let found = c.args.self.now in
    let at = c.partition_point-at.result in
    length (put_mid at (found.filled + 1 - at) (set found.places.now found.filled c.args.set) c.rotate_right.new.self) ≡ length found.places.now)
room c =
    let found = c.args.self.now in
    turned_length found.places.now c.partition_point-at.result found.filled c.args.set _ c.rotate_right.new.self (within c).0 (within c).1 refl c.rotate_right.ensures.len

sets : (c : After-rotate_right) →
    (let found = c.args.self.now in
    let at = c.partition_point-at.result in
    take (found.filled + 1) (put_mid at (found.filled + 1 - at) (set found.places.now found.filled c.args.set) c.rotate_right.new.self) ≡ placed c.args.set (sets_of found))
sets c =
    let found = c.args.self.now in
    let S = c.args.set in
    let at = c.partition_point-at.result in
    let rising = found.rising in
    let parts = IsPartitionPoint-from_clause (λ R. ltb R S) (sets_of found) at (rw c.sets.ensures at c.partition_point-at.ensures.partitioned) (rising_parts S (sets_of found) rising) (λ a r q k. search rules) in
    turned found.places.now at found.filled S _ c.rotate_right.new.self (within c).0 (within c).1 refl c.rotate_right.ensures.after
    ∙ sym (placed_at S (sets_of found) at rising (rw c.sets.ensures at c.partition_point-at.ensures.bound) parts)

pub invariant_of-self-2 : goal.invariant_of-self-2
invariant_of-self-2 c =
    let after = (goal.at.invariant_of-self-2 c).After-rotate_right in
    let found = c.args.self.now in
    record { few = rw (room after) (let w = within after in omega arith); rising = rw (sets after) (placed_rising c.args.set (sets_of found) found.rising c.requires) }

pub returns : goal.returns
returns c = let after = (goal.at.returns c).After-rotate_right in record { room = room after; sets = sets after }
