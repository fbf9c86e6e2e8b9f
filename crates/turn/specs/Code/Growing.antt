-- The sets found as they grow: the first of the lent places hold them, rising.
use Rattle.std.specs.Prelude.{◌≡◌, refl, ◌⊎◌, Result, Ok, Err, List, [], ◌∷◌, ℕ, ◌<◌, min, max, length, take}
use Rattle.sets.specs.Lists.{Among, Rising}
use Rattle.setups.specs.declared.Refusal.{Refusal}
use Rattle.setups.specs.declared.Refusal.TheVariants.{TooMany}
use Rattle.turn.specs.declared.gathered.Gathered.{Gathered}

-- the sets, and how many places there are
abbrev pub sets_of : Gathered → List ℕ
sets_of found = take found.filled found.places.now

abbrev pub room_of : Gathered → ℕ
room_of found = length found.places.now

-- a set put into a rising list: each place keeps the smaller of what stands there and what is carried on, the end takes the last
abbrev pub placed : ℕ → List ℕ → List ℕ
placed S [] = S ∷ []
placed S (R ∷ list) = min S R ∷ placed (max S R) list

-- 6 goes between 5 and 10
example_placed : placed 6 (5 ∷ 10 ∷ []) ≡ 5 ∷ 6 ∷ 10 ∷ []
example_placed = refl

-- the set is put there; or it isn't, because every place is filled
pub record Inserted (S : ℕ) (before after : Gathered) : Type 0 where
  pub room : room_of after ≡ room_of before
  pub sets : sets_of after ≡ placed S (sets_of before)

abbrev pub Inserts : ℕ → Gathered → Gathered → Result (Unit {0}) Refusal → Type 0
Inserts S before after (Ok u) = Inserted S before after
Inserts S before after (Err refusal) = (refusal ≡ TooMany) × (before.filled ≡ room_of before)

-- what a search for the sets of a family is given: sets that were found before, none of them of the family
pub record Ready (Family : ℕ → Type 0) (found : Gathered) : Type 0 where
  pub fresh : (S : ℕ) → Among S (sets_of found) → ¬ Family S

-- what it gives back: those, and the sets of the family besides
pub record Added (Family : ℕ → Type 0) (before after : Gathered) : Type 0 where
  pub room : room_of after ≡ room_of before
  pub kept : (S : ℕ) → Among S (sets_of before) → Among S (sets_of after)
  pub sound : (S : ℕ) → Among S (sets_of after) → Among S (sets_of before) ⊎ Family S
  pub whole : (S : ℕ) → Family S → Among S (sets_of after)

-- or there are more of them than places
pub record Overfull (Family : ℕ → Type 0) (before : Gathered) : Type 0 where
  pub sets : List ℕ
  pub rising : Rising sets
  pub sound : (S : ℕ) → Among S sets → Among S (sets_of before) ⊎ Family S
  pub more : room_of before < length sets

abbrev pub Grown : (ℕ → Type 0) → Gathered → Gathered → Result (Unit {0}) Refusal → Type 0
Grown Family before after (Ok u) = Added Family before after
Grown Family before after (Err refusal) = (refusal ≡ TooMany) × Overfull Family before
