-- What Turn gives back, for all arguments (document 01, "Ways out and clashes" and "What comes back when it can't").
use Rattle.std.specs.Prelude.{◌≡◌, refl, cond, ◌||◌, not, List, [], ◌∷◌, ℕ, ltb, leb, eqb, length}
use Rattle.sets.specs.Turns.{Turned}
use Rattle.sets.specs.Tests.{fine}
use Rattle.setups.specs.declared.Refusal.TheVariants.{Size, Work, Softs, List as NotAList}
use Rattle.setups.specs.Limits.{sets_most, settings_most}
use Rattle.setups.specs.Refusals.{check}
use Rattle.setups.specs.GivenOut.{ListResult, without_list, given_out}

-- 7, 2, 3, 9; 0 where none is given
abbrev pub turn_refusal : ℕ → List ℕ → ℕ → ℕ → ℕ
turn_refusal n given room scratch_room =
    check (ltb settings_most n) Softs
    (check (ltb sets_most (length given) || ltb sets_most room) Size
    (check (leb scratch_room room) Work
    (check (not (fine n given)) NotAList 0)))

-- over one setting the list 0, 1 is refused, since 0 lies within 1 (P13); over two settings the list 1, 2 may be turned
example_turn_refusal : (turn_refusal 1 (0 ∷ 1 ∷ []) 4 5 ≡ 9) × (turn_refusal 2 (1 ∷ 2 ∷ []) 4 5 ≡ 0)
example_turn_refusal = (refl, refl)

-- a refusal writes nothing; where none is given the turn is given out
abbrev pub turned_result : ℕ → List ℕ → List ℕ → List ℕ → ListResult
turned_result refusal turned list scratch = cond (eqb refusal 0) (given_out turned list scratch) (without_list refusal list scratch)

-- The result r of Turn: `turned` is the turn of the given list over n settings.
pub record TurnGives (n : ℕ) (given list scratch : List ℕ) (r : ListResult) : Type 0 where
  pub turned : List ℕ
  pub exact : Turned n given turned
  pub says : r ≡ turned_result (turn_refusal n given (length list) (length scratch)) turned list scratch
