-- A list given out by List or by Turn: the result, and what it says (document 01, "What comes back when it can't").
use Rattle.std.specs.Prelude.{◌≡◌, refl, ◌⊎◌, ◌↔◌, cond, List, [], ◌∷◌, ℕ, ◌≤◌, ◌<◌, ltb, length, take, drop, replicate}
use Rattle.sets.specs.Lists.{Exactly}
use Rattle.setups.specs.declared.Refusal.TheVariants.{TooMany}
use Rattle.setups.specs.Refusals.{number_of, finished}
use Rattle.setups.specs.Written.{written}

-- of List and of Turn: the answer's number, how many places Listed has filled (else 0), the list buffer and the scratch afterwards
pub record ListResult : Type 0 where
  pub number : ℕ
  pub filled : ℕ
  pub list : List ℕ
  pub scratch : List ℕ

-- the sets that it has listed
abbrev pub listed_sets : ListResult → List ℕ
listed_sets r = take r.filled r.list

-- an answer without a list leaves the list buffer; Unmet and TooMany have set the scratch to zero, all other refusals write nothing
abbrev pub without_list : ℕ → List ℕ → List ℕ → ListResult
without_list number list scratch = record { number = number; filled = 0; list = list; scratch = scratch }

abbrev pub zeroed : List ℕ → List ℕ
zeroed scratch = replicate (length scratch) 0

-- the sets are given out: TooMany exactly when there are more than the room, which is the list buffer's length
abbrev pub given_out : List ℕ → List ℕ → List ℕ → ListResult
given_out sets list scratch =
    cond (ltb (length list) (length sets)) (without_list (number_of TooMany) list (zeroed scratch))
    (record { number = finished; filled = length sets; list = written sets list; scratch = zeroed scratch })

-- two sets in room 3 leave the third place; in room 1 they are TooMany, and only the scratch is written
example_given_out :
    (given_out (5 ∷ 6 ∷ []) (9 ∷ 9 ∷ 9 ∷ []) (9 ∷ 9 ∷ 9 ∷ 9 ∷ []) ≡ record { number = 0; filled = 2; list = 5 ∷ 6 ∷ 9 ∷ []; scratch = 0 ∷ 0 ∷ 0 ∷ 0 ∷ [] })
    × (given_out (5 ∷ 6 ∷ []) (9 ∷ []) (9 ∷ 9 ∷ []) ≡ record { number = 8; filled = 0; list = 9 ∷ []; scratch = 0 ∷ 0 ∷ [] })
example_given_out = (refl, refl)

-- ---- what giving out says of the sets that have P: of List's ways out, and of Turn's smallest sets across a list

-- the room holds them; there are more than it holds
abbrev pub Fits : (ℕ → Type 0) → ℕ → Type 0
Fits P room = (sets : List ℕ) × Exactly P sets × (length sets ≤ room)

abbrev pub Exceeds : (ℕ → Type 0) → ℕ → Type 0
Exceeds P room = (sets : List ℕ) × Exactly P sets × (room < length sets)

-- Listed: the places filled hold exactly these sets, rising, and are so many; the places beyond stay, and the whole scratch is zero
pub record HoldsExactly (P : ℕ → Type 0) (list scratch : List ℕ) (r : ListResult) : Type 0 where
  pub sets : Exactly P (listed_sets r)
  pub places : r.filled ≡ length (listed_sets r)
  pub room : r.filled ≤ length list
  pub beyond : drop r.filled r.list ≡ drop r.filled list
  pub zeros : r.scratch ≡ zeroed scratch

-- The result r of a job that gives them out where it has `Passed` all that comes before.
pub record GivesExactly (Passed : Type 0) (P : ℕ → Type 0) (list scratch : List ℕ) (r : ListResult) : Type 0 where
  -- Listed or TooMany then
  pub either : Passed → (r.number ≡ finished) ⊎ (r.number ≡ number_of TooMany)
  -- Listed exactly where they fit
  pub lists : (r.number ≡ finished) ↔ (Passed × Fits P (length list))
  pub holds : r.number ≡ finished → HoldsExactly P list scratch r
  -- TooMany exactly where they don't; it leaves the list buffer
  pub exceeds : (r.number ≡ number_of TooMany) ↔ (Passed × Exceeds P (length list))
  pub leaves : r.number ≡ number_of TooMany → r ≡ without_list (number_of TooMany) list (zeroed scratch)
