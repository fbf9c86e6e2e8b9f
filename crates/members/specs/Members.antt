-- What Turn asks of the members of the given list (document 01: "the sets that share a setting with each member").
use Rattle.std.specs.Prelude.{◌≡◌, refl, ◌≢◌, ◌↔◌, List, [], ◌∷◌, ℕ}
use Rattle.std.proofs.Common.{inl, inr}
use Rattle.sets.specs.Sets.{In, Share}
use Rattle.sets.specs.Lists.{Among}
use Rattle.members.specs.declared.Unhit.{Unhit}
use Rattle.members.specs.declared.Unhit.TheVariants.{Nothing, Hopeless, Wants}

-- S hits every member: it shares a setting with each
abbrev pub Hits : List ℕ → ℕ → Type 0
Hits members S = (M : ℕ) → Among M members → Share S M

-- 6 hits 3 by the setting at place 1, and 5 by the one at place 2
example_hits : Hits (3 ∷ 5 ∷ []) 6
example_hits M (inl e) = rw e (1, refl, refl)
example_hits M (inr (inl e)) = rw e (2, refl, refl)
example_hits M (inr (inr h)) = absurd h

-- the setting at place i is the only one of S that hits M
pub record Alone (M S i : ℕ) : Type 0 where
  pub member : In i M
  pub taken : In i S
  pub only : (j : ℕ) → In j M → In j S → j ≡ i

-- the setting at place i has a member of its own: one that S hits by this setting alone
abbrev pub Own : List ℕ → ℕ → ℕ → Type 0
Own members S i = (M : ℕ) × Among M members × Alone M S i

-- Q has the settings that S and R share
abbrev pub Common : ℕ → ℕ → ℕ → Type 0
Common S R Q = (i : ℕ) → In i Q ↔ (In i S × In i R)

-- M is a member that the taken settings don't hit; `wanted` are the settings left that would
pub record Waits (members : List ℕ) (taken left M wanted : ℕ) : Type 0 where
  pub listed : Among M members
  pub unhit : ¬ Share taken M
  pub common : Common M left wanted

-- what is left unhit: nothing; a member that no setting left hits either; or a member that wants one of these settings left
abbrev pub Finds : List ℕ → ℕ → ℕ → Unhit → Type 0
Finds members taken left Nothing = Hits members taken
Finds members taken left Hopeless = (M : ℕ) × Waits members taken left M 0
Finds members taken left (Wants wanted) = (wanted ≢ 0) × ((M : ℕ) × Waits members taken left M wanted)
