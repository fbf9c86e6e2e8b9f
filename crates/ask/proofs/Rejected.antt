-- Programs that an ask's promise rejects (document 01, "How tight the promises are").
use mathlib.Core.Path.{refl, sym, ap, ◌∙◌}
use mathlib.Core.Logic.{◌≢◌}
use mathlib.Core.List.{List, [], ◌∷◌}
use Prim.Native.Nat.{ℕ}
use native.Mathlib.Omega.{arith}
use lib.ListN.{get_or}
use Rattle.std.specs.Prelude.{Result, Ok, Err}
use Rattle.setups.specs.declared.Refusal.{Refusal}
use Rattle.setups.specs.Search as search
use Rattle.setups.specs.Ask.{AskResult, ask_result}
use Rattle.setups.proofs.Refusals.{refused_number}
use Rattle.setups.specs.Search.{visits_of}
use Rattle.setups.proofs.Visits.{visits_only}
use Rattle.ask.specs.declared.Asked.{Asked}
use Rattle.ask.specs.declared.Asked.TheVariants.{Model, None}
use Rattle.ask.specs.Asking.{Asks}
use Rattle.ask.specs.Meaning.{Searched}
use Rattle.ask.proofs.Promise.{ask_only, ask_model, ask_none}

-- P10 of document 01: two variables, (1 2), (1 −2), (−1 2); three places are lent
abbrev rules : List ℕ
rules = 1 ∷ 2 ∷ 0 ∷ 1 ∷ 130 ∷ 0 ∷ 129 ∷ 2 ∷ 0 ∷ []

abbrev places : List ℕ
places = 7 ∷ 7 ∷ 7 ∷ []

-- under a budget of 3 it is Model 1, 1 with 3 visits, and the third place stays
right : Asks 2 rules [] 3 places (Ok (Model 3)) (1 ∷ 1 ∷ 7 ∷ [])
unfolding ask_result
right = refl

-- one that refuses everything
pub ask_not_refusing : (refusal : Refusal) (after : List ℕ) → ¬ Asks 2 rules [] 3 places (Err refusal) after
ask_not_refusing refusal after p = refused_number refusal (ap (λ (r : AskResult). r.number) (p ∙ sym right))

-- one that writes nothing
pub ask_not_silent : (answer : Result Asked Refusal) → ¬ Asks 2 rules [] 3 places answer places
ask_not_silent answer p =
    let same = (ask_only 2 rules [] 3 places (Ok (Model 3)) answer (1 ∷ 1 ∷ 7 ∷ []) places right p).1 in
    omega (arith, ap (λ (after : List ℕ). get_or after 0 0) same)

-- one that makes up a visit count: whatever the arguments, it is that of the search of document 01
pub ask_not_made_up : (n : ℕ) (bytes assumed : List ℕ) (budget : ℕ) (places : List ℕ) (r : search.SearchResult) (visits : ℕ) (after : List ℕ)
    → Searched n bytes assumed r → visits_of r ≢ visits
    → (¬ Asks n bytes assumed budget places (Ok (Model visits)) after) × (¬ Asks n bytes assumed budget places (Ok (None visits)) after)
ask_not_made_up n bytes assumed budget places r visits after s d = (
  (λ p. d (ap visits_of (visits_only s (ask_model n bytes assumed budget places visits after p).count))),
  λ p. d (ap visits_of (visits_only s (ask_none n bytes assumed budget places visits after p).count)),
)
