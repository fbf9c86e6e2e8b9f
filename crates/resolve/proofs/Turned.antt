-- List, then Turn: what List has listed turns into the clashes, and those turn back.
use mathlib.Core.Path.{◌≡◌}
use mathlib.Core.Logic.{◌⊎◌, ⊎_elim}
use mathlib.Core.Bool.{◌||◌}
use mathlib.Core.List.{List}
use Prim.Native.Nat.{ℕ, ◌≤◌, ◌<◌, zero-le}
use native.Mathlib.Omega.{arith}
use borrow.Author.Tests.{ltb-false}
use lib.Dec.{ltb}
use lib.ListN.{length}
use Rattle.sets.specs.Lists.{Exactly}
use Rattle.numbers.proofs.Deciding.{neither}
use Rattle.setups.specs.declared.Refusal.TheVariants.{Vars, Size}
use Rattle.setups.specs.Limits.{variables_most, hard_bytes_most, soft_bytes_most, sets_most, settings_most}
use Rattle.setups.specs.Setups.{Setup, setup, count, WayOut, Clash}
use Rattle.setups.specs.Refusals.{finished, unmet}
use Rattle.setups.specs.List.{list_refusal, ListGives}
use Rattle.setups.specs.GivenOut.{ListResult, listed_sets, given_out}
use Rattle.setups.specs.Turn.{TurnGives}
use Rattle.setups.proofs.Duality.{unmet_ways_out}
use Rattle.setups.proofs.JudgeLaws.{list_taken}
use Rattle.setups.proofs.Refusals.{check_none}
use Rattle.list.specs.Meaning.{ListMeans}
use Rattle.list.proofs.Promise.{list_means}
use Rattle.turn.proofs.Promise.{turn_clashes, turn_ways_out}

-- List has answered Listed or Unmet
module _ (n : ℕ) (hard soft list scratch : List ℕ) (r : ListResult) (lists : ListGives n hard soft list scratch r) (done : (r.number ≡ finished) ⊎ (r.number ≡ unmet)) where
  abbrev g : Setup
  g = setup n hard soft

  abbrev refusal : ℕ
  refusal = list_refusal n hard soft (length list) (length scratch)

  means : ListMeans g refusal list scratch r
  means = list_means n hard soft list scratch r lists

  -- no refusal, so that its room and its settings are within their limits
  passed : refusal ≡ 0
  passed = ⊎_elim (λ f. (means.gives.lists.0 f).0.0) (λ u. (means.fails.0 u).0) done

  few : count g ≤ settings_most
  few = (list_taken n hard soft (length list) (length scratch) passed).1.settings_few

  room : length list ≤ sets_most
  room =
      let size = check_none (ltb hard_bytes_most (length hard) || (ltb soft_bytes_most (length soft) || ltb sets_most (length list))) Size _ (check_none (ltb variables_most n) Vars _ passed).1 in
      ltb-false sets_most (length list) (neither (ltb soft_bytes_most (length soft)) (ltb sets_most (length list)) (neither (ltb hard_bytes_most (length hard)) (ltb soft_bytes_most (length soft) || ltb sets_most (length list)) size.0).1).1

  short : length (listed_sets r) ≤ sets_most
  short = ⊎_elim (λ f. let h = means.gives.holds f in omega (arith, h.places, h.room, room)) (λ u. rw (means.leaves u) zero-le) done

  -- the places filled hold exactly the ways out: none under Unmet
  pub listed_ways : Exactly (WayOut g) (listed_sets r)
  listed_ways = ⊎_elim (λ f. (means.gives.holds f).sets) (λ u. rw (means.leaves u) (unmet_ways_out g (means.fails.0 u).1)) done

  -- with a room and a scratch that Turn takes
  module _ (list' scratch' : List ℕ) (fits : length list' ≤ sets_most) (work : length list' < length scratch') (clashes : List ℕ) (c : Exactly (Clash g) clashes) (s : ListResult) where
    -- they turn into the clashes
    pub listed_clashes : TurnGives (count g) (listed_sets r) list' scratch' s → s ≡ given_out clashes list' scratch'
    listed_clashes = turn_clashes list' scratch' fits work g few (listed_sets r) clashes listed_ways c s short

    -- and the clashes turn into them
    pub listed_back : length clashes ≤ sets_most → TurnGives (count g) clashes list' scratch' s → s ≡ given_out (listed_sets r) list' scratch'
    listed_back = turn_ways_out list' scratch' fits work g few (listed_sets r) clashes listed_ways c s
