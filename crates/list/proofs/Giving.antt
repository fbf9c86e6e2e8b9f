-- From the walk at the root to the answer.
use mathlib.Core.Path.{◌≡◌, refl}
use mathlib.Core.Bool.{true, false}
use mathlib.Core.List.{List, [], ◌++◌}
use Rattle.std.specs.Prelude.{Ok, Err}
use Prim.Native.Nat.{ℕ, ◌+◌, ◌^◌, ◌≤◌, ◌<◌}
use native.Mathlib.Omega.{arith}
use lib.ListN.{length, take, drop}
use borrow.Author.Tests.{lt-ltb, le-ltb}
use Rattle.setups.specs.declared.Refusal.TheVariants.{TooMany}
use Rattle.setups.specs.Setups.{Setup, count, Together}
use Rattle.setups.specs.GivenOut.{zeroed, given_out}
use Rattle.setups.proofs.Duality.{unmet_ways_out}
use Rattle.walk.specs.Walking.{WayOutBetween, over, Walked}
use Rattle.walk.proofs.Overwriting.{over_take}
use Rattle.walk.proofs.Root.{below_all, root_unmet}
use Rattle.list.specs.declared.Listing.TheVariants.{Listed, Unmet}
use Rattle.list.specs.Listing.{answered}
use Rattle.list.specs.Code.Giving.{GivesWays}

-- an empty branch at the root: Unmet, and no place is written
pub root_dead : (g : Setup) (settings : ℕ) (e : settings ≡ count g) (list found : List ℕ) → ¬ WayOutBetween g 0 (0 + 2 ^ settings) → GivesWays g list found (Ok Unmet) list found
root_dead g settings e list found dead = record {
  ways = [];
  exact = unmet_ways_out g (root_unmet g settings e dead);
  met = false;
  meets = ((λ t. absurd t), λ t. absurd (root_unmet g settings e dead t));
  places = refl;
  says = λ scratch. refl;
}

-- the sets that were found in the first places, copied to the list
says_listed : (ways found places list after : List ℕ) (filled : ℕ) → filled ≡ length ways → length ways ≤ length found → places ≡ over ways found
    → filled ≤ length list → after ≡ take filled places ++ drop filled list → (scratch : List ℕ) → answered (Ok (Listed filled)) after (zeroed scratch) ≡ given_out ways list scratch
says_listed ways found places list after filled number fits written room copied scratch =
    let k : length ways ≤ length list = omega arith in
    rw (le-ltb (length list) (length ways) k, copied, number, written, over_take ways found fits)

-- Where the hard clauses have a model and the walk is through, with one place more than the list has.
pub record Whole (g : Setup) (list found places : List ℕ) (filled : ℕ) : Type 0 where
  pub met : Together g 0
  pub room : length found ≡ length list + 1
  pub walked : Walked g (2 ^ count g) found places filled

module _ {g : Setup} {list found places : List ℕ} {filled : ℕ} (h : Whole g list found places filled) where
  -- that place is filled
  pub whole_many : length list < filled → GivesWays g list found (Err TooMany) list places
  whole_many l = record {
    ways = h.walked.ways;
    exact = below_all g h.walked.ways h.walked.exact;
    met = true;
    meets = ((λ t. h.met), λ t. tt);
    places = h.walked.places;
    says = λ scratch. rw (lt-ltb (length list) (length h.walked.ways) (omega (arith, h.room, h.walked.count)));
  }

  -- it is not, and those found are copied out
  pub whole_listed : {after : List ℕ} → filled ≤ length list → after ≡ take filled places ++ drop filled list → GivesWays g list found (Ok (Listed filled)) after places
  whole_listed {after} l copied = record {
    ways = h.walked.ways;
    exact = below_all g h.walked.ways h.walked.exact;
    met = true;
    meets = ((λ t. h.met), λ t. tt);
    places = h.walked.places;
    says = says_listed h.walked.ways found places list after filled (omega (arith, h.room, h.walked.count)) (omega (arith, h.room, h.walked.count)) h.walked.places l copied;
  }
