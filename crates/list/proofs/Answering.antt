-- The job's promise from what its parts say: a refusal before the search, or the list given out and the scratch zeroed.
use mathlib.Core.Path.{◌≡◌, subst, ◌∙◌}
use mathlib.Core.List.{List}
use Rattle.std.specs.Prelude.{Result}
use Prim.Native.Nat.{ℕ}
use borrow.Author.Tests.{ne_eqb}
use lib.ListN.{length}
use Rattle.setups.specs.declared.Refusal.{Refusal}
use Rattle.setups.specs.Refusals.{number_of}
use Rattle.setups.specs.Setups.{setup}
use Rattle.setups.specs.List.{list_refusal, ListGives}
use Rattle.setups.specs.GivenOut.{without_list, zeroed}
use Rattle.setups.proofs.Refusals.{refused_number}
use Rattle.list.specs.declared.Listing.{Listing}
use Rattle.list.specs.Listing.{answered}
use Rattle.list.specs.Code.Giving.{GivesWays}
use Rattle.list.proofs.Promise.{lists_exist}

module _ (n : ℕ) (hard soft list scratch : List ℕ) where
  -- a refusal before the search writes nothing
  pub refused : (r : Refusal) → list_refusal n hard soft (length list) (length scratch) ≡ number_of r → ListGives n hard soft list scratch (without_list (number_of r) list scratch)
  refused r e =
      let p = (lists_exist n hard soft list scratch).1 in
      subst (ListGives n hard soft list scratch) (p.says ∙ rw (e, ne_eqb (number_of r) 0 (refused_number r))) p

  -- the list is given out and the scratch is zero
  pub given_out_lem : list_refusal n hard soft (length list) (length scratch) ≡ 0 → {found places after : List ℕ} {answer : Result Listing Refusal} → GivesWays (setup n hard soft) list found answer after places
      → {zeros : List ℕ} → zeros ≡ zeroed scratch → ListGives n hard soft list scratch (answered answer after zeros)
  given_out_lem e h z = record { ways = h.ways; exact = h.exact; met = h.met; meets = h.meets; says = rw (e, z) (h.says scratch) }
