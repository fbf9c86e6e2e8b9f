-- What an ask's promise says of each answer, and that it allows no second result.
use mathlib.Core.Path.{◌≡◌, refl, sym, ap, ◌∙◌}
use mathlib.Core.Logic.{◌≢◌, ◌↔◌}
use mathlib.Core.List.{List}
use Prim.Native.Nat.{ℕ, ◌≤◌, ◌<◌}
use native.Mathlib.Omega.{arith}
use borrow.Author.Tests.{eqb-false, ltb-true, ltb-false}
use lib.Dec.{ltb, eqb}
use lib.ListN.{length, take, drop, replicate}
use lib.Seq.{take_at, drop_at}
use Rattle.numbers.proofs.Deciding.{cond_case}
use Rattle.std.specs.Prelude.{Result, Ok, Err}
use Rattle.setups.specs.declared.Refusal.{Refusal}
use Rattle.setups.specs.declared.Refusal.TheVariants.{Spent}
use Rattle.setups.specs.Search as search
use Rattle.setups.specs.Searching as searching
use Rattle.setups.specs.Meaning.{Means}
use Rattle.setups.specs.Written.{written}
use Rattle.setups.specs.Ask.{AskResult, ask_clauses, ask_refusal, searched_result, ask_result}
use Rattle.setups.proofs.Models.{search_means}
use Rattle.setups.proofs.Refusals.{number_only, refused_number, refused_not_none}
use Rattle.setups.specs.Search.{visits_of}
use Rattle.setups.proofs.Visits.{visits_exist, visits_only}
use Rattle.ask.specs.declared.Asked.{Asked}
use Rattle.ask.specs.declared.Asked.TheVariants.{Model, None}
use Rattle.ask.specs.Asking.{answered, Asks}
use Rattle.ask.specs.Meaning.{Searched, ModelSays, NoneSays}
use Rattle.ask.proofs.Refusing.{refusal_not_none}

-- ---- no second result

number_so : {a b : AskResult} → a ≡ b → a.number ≡ b.number
number_so e = ap (λ (r : AskResult). r.number) e

visits_so : {a b : AskResult} → a ≡ b → a.visits ≡ b.visits
visits_so e = ap (λ (r : AskResult). r.visits) e

model_so : {a b : AskResult} → a ≡ b → a.model ≡ b.model
model_so e = ap (λ (r : AskResult). r.model) e

-- one result comes from one answer and one buffer
answered_only : (answer other : Result Asked Refusal) (after later : List ℕ) → answered answer after ≡ answered other later
    → (answer ≡ other) × (after ≡ later)
answered_only (Ok (Model v)) (Ok (Model w)) after later e = (ap (λ (v : ℕ). Ok (Model v)) (visits_so e), model_so e)
answered_only (Ok (Model v)) (Ok (None w)) after later e = absurd (omega (arith, number_so e))
answered_only (Ok (Model v)) (Err b) after later e = absurd (refused_number b (sym (number_so e)))
answered_only (Ok (None v)) (Ok (Model w)) after later e = absurd (omega (arith, number_so e))
answered_only (Ok (None v)) (Ok (None w)) after later e = (ap (λ (v : ℕ). Ok (None v)) (visits_so e), model_so e)
answered_only (Ok (None v)) (Err b) after later e = absurd (refused_not_none b (sym (number_so e)))
answered_only (Err a) (Ok (Model w)) after later e = absurd (refused_number a (number_so e))
answered_only (Err a) (Ok (None w)) after later e = absurd (refused_not_none a (number_so e))
answered_only (Err a) (Err b) after later e = (ap Err (number_only a b (number_so e)), model_so e)

pub ask_only : (n : ℕ) (bytes assumed : List ℕ) (budget : ℕ) (places : List ℕ) (answer other : Result Asked Refusal) (after later : List ℕ)
    → Asks n bytes assumed budget places answer after → Asks n bytes assumed budget places other later
    → (answer ≡ other) × (after ≡ later)
ask_only n bytes assumed budget places answer other after later p q = answered_only answer other after later (p ∙ sym q)

-- ---- where a result comes from

-- what the search of document 01 gives, and what it means
record Ends (n : ℕ) (bytes assumed : List ℕ) (r : search.SearchResult) : Type 0 where
  searched : Searched n bytes assumed r
  means : Means n (ask_clauses bytes assumed) r

-- a result comes from a refusal before the search, or from the search, above the budget or within it
data Comes (n : ℕ) (bytes assumed : List ℕ) (budget : ℕ) (places : List ℕ) (x : AskResult) : Type 0 where
  refuses : ask_refusal n bytes assumed (length places) ≢ 0 → x ≡ record { number = ask_refusal n bytes assumed (length places); visits = 0; model = places }
      → Comes n bytes assumed budget places x
  spends : (r : search.SearchResult) → Ends n bytes assumed r → budget < visits_of r → x ≡ answered (Err Spent) places → Comes n bytes assumed budget places x
  models : (m : List ℕ) (visits : ℕ) → Ends n bytes assumed (search.Model m visits) → visits ≤ budget → x ≡ answered (Ok (Model visits)) (written m places)
      → Comes n bytes assumed budget places x
  fails : (visits : ℕ) → Ends n bytes assumed (search.None visits) → visits ≤ budget → x ≡ answered (Ok (None visits)) places → Comes n bytes assumed budget places x

module _ (n : ℕ) (bytes assumed : List ℕ) (budget : ℕ) (places : List ℕ) where
  comes : (x : AskResult) → x ≡ ask_result n bytes assumed budget places → Comes n bytes assumed budget places x
  unfolding ask_result searching.search
  comes x = cond_case (λ (y : AskResult). x ≡ y → Comes n bytes assumed budget places x) (eqb refusal 0) (λ t. searched (searching.search n cs) ends) (λ t. refuses (eqb-false refusal 0 t))
    where
      refusal : ℕ
      refusal = ask_refusal n bytes assumed (length places)

      cs : List (List ℕ)
      cs = ask_clauses bytes assumed

      ends : Ends n bytes assumed (searching.search n cs)
      ends = record { searched = visits_exist cs (replicate n 2); means = search_means n cs }

      searched : (r : search.SearchResult) → Ends n bytes assumed r → x ≡ searched_result budget places r → Comes n bytes assumed budget places x
      searched (search.Model m visits) end =
          cond_case (λ (y : AskResult). x ≡ y → Comes n bytes assumed budget places x) (ltb budget visits)
          (λ t. spends (search.Model m visits) end (ltb-true budget visits t)) (λ t. models m visits end (ltb-false budget visits t))
      searched (search.None visits) end =
          cond_case (λ (y : AskResult). x ≡ y → Comes n bytes assumed budget places x) (ltb budget visits)
          (λ t. spends (search.None visits) end (ltb-true budget visits t)) (λ t. fails visits end (ltb-false budget visits t))

  -- ---- what each answer says

  pub ask_model : (visits : ℕ) (after : List ℕ) → Asks n bytes assumed budget places (Ok (Model visits)) after
      → ModelSays n bytes assumed budget places visits after
  ask_model visits after p = go (comes (answered (Ok (Model visits)) after) p)
    where
      go : Comes n bytes assumed budget places (answered (Ok (Model visits)) after) → ModelSays n bytes assumed budget places visits after
      go (refuses some q) = absurd (some (sym (number_so q)))
      go (spends r end l q) = absurd (omega (arith, number_so q))
      go (fails v end l q) = absurd (omega (arith, number_so q))
      go (models m v end l q) =
          let size = end.means.assigns.size in
          let front : take n after ≡ m = ap (take n) (model_so q) ∙ take_at m (drop (length m) places) n size in
          record {
            first = rw front end.means;
            beyond = ap (drop n) (model_so q) ∙ drop_at m (drop (length m) places) n size ∙ rw size;
            count = rw (front, visits_so q) end.searched;
            within = omega (arith, l, visits_so q);
          }

  pub ask_none : (visits : ℕ) (after : List ℕ) → Asks n bytes assumed budget places (Ok (None visits)) after
      → NoneSays n bytes assumed budget places visits after
  ask_none visits after p = go (comes (answered (Ok (None visits)) after) p)
    where
      go : Comes n bytes assumed budget places (answered (Ok (None visits)) after) → NoneSays n bytes assumed budget places visits after
      go (refuses some q) = absurd (refusal_not_none n bytes assumed (length places) (sym (number_so q)))
      go (spends r end l q) = absurd (omega (arith, number_so q))
      go (models m v end l q) = absurd (omega (arith, number_so q))
      go (fails v end l q) =
          record { none = end.means; kept = model_so q; count = rw (visits_so q) end.searched; within = omega (arith, l, visits_so q) }

  -- a refusal writes nothing
  pub ask_refused : (given : Refusal) (after : List ℕ) → Asks n bytes assumed budget places (Err given) after → after ≡ places
  ask_refused given after p = go (comes (answered (Err given) after) p)
    where
      go : Comes n bytes assumed budget places (answered (Err given) after) → after ≡ places
      go (refuses some q) = model_so q
      go (spends r end l q) = model_so q
      go (models m v end l q) = absurd (refused_number given (number_so q))
      go (fails v end l q) = model_so q

  -- where no other refusal is given, Spent is given exactly when the visits of the whole search are above the budget
  pub ask_spent : ask_refusal n bytes assumed (length places) ≡ 0 → (r : search.SearchResult) → Searched n bytes assumed r
      → Asks n bytes assumed budget places (Err Spent) places ↔ (budget < visits_of r)
  ask_spent none r s = ((λ p. to (comes (answered (Err Spent) places) p)), λ l. from l (comes (ask_result n bytes assumed budget places) refl))
    where
      same : (other : search.SearchResult) → Ends n bytes assumed other → visits_of other ≡ visits_of r
      same other end = ap visits_of (visits_only end.searched s)

      to : Comes n bytes assumed budget places (answered (Err Spent) places) → budget < visits_of r
      to (refuses some q) = absurd (some none)
      to (spends other end l q) = rw (same other end) at l
      to (models m v end l q) = absurd (omega (arith, number_so q))
      to (fails v end l q) = absurd (omega (arith, number_so q))

      from : budget < visits_of r → Comes n bytes assumed budget places (ask_result n bytes assumed budget places) → Asks n bytes assumed budget places (Err Spent) places
      from l (refuses some q) = absurd (some none)
      from l (spends other end k q) = sym q
      from l (models m v end k q) = absurd (let b : ⊥ = omega (arith, l, k, same (search.Model m v) end) in b)
      from l (fails v end k q) = absurd (let b : ⊥ = omega (arith, l, k, same (search.None v) end) in b)
