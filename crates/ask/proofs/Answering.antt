-- From what a search tells to what an ask gives back.
use mathlib.Core.Path.{◌≡◌, ap, ◌∙◌}
use mathlib.Core.Logic.{by_cases}
use mathlib.Core.List.{List, [], ◌++◌}
use Prim.Native.Nat.{ℕ, ◌-◌, ◌≤◌}
use native.Mathlib.Nat.{zero-add}
use native.Mathlib.Decide.{dec_lt}
use native.Mathlib.Omega.{arith}
use borrow.Author.Tests.{lt-ltb, le-ltb, ne_eqb}
use lib.ListN.{length, take, drop, replicate}
use lib.Seq.{take_at}
use Rattle.std.specs.Prelude.{Result, Ok, Err}
use Rattle.setups.specs.declared.Refusal.{Refusal}
use Rattle.setups.specs.Limits.{variables_most}
use Rattle.setups.specs.Clauses.{LiteralOf}
use Rattle.literals.specs.Slots.{opening}
use Rattle.setups.specs.Search.{SearchResult, Model, None}
use Rattle.setups.specs.Searching.{visit, search}
use Rattle.setups.specs.Meaning.{Means}
use Rattle.setups.specs.Refusals.{number_of}
use Rattle.setups.specs.Ask.{AskResult, ask_clauses, ask_refusal, searched_result, ask_result}
use Rattle.setups.proofs.LiteralLaws.{clause_bytes, assumed_bytes}
use Rattle.setups.proofs.Models.{search_means}
use Rattle.setups.proofs.Refusals.{refused_number}
use Rattle.scans.specs.Scans.{ReadableAll}
use Rattle.search.specs.declared.Visited.{Visited}
use Rattle.search.specs.declared.Visited.TheVariants as visited
use Rattle.search.specs.Told.{told}
use Rattle.ask.specs.declared.Asked.TheVariants as asked
use Rattle.ask.specs.Asking.{answered}
use Rattle.ask.proofs.Padding.{padded, visit_pad}
use Rattle.ask.proofs.Refusing.{Taken}

-- ---- what the search asks for

wider : {n b : ℕ} → n ≤ variables_most → LiteralOf n b → LiteralOf variables_most b
wider h l = record { some = l.some; most = omega (arith, l.most) }

-- the clauses, no second buffer, and the assumed literals
pub readable : {n : ℕ} {bytes assumed : List ℕ} {room : ℕ} → Taken n bytes assumed room → ReadableAll bytes [] assumed
readable {n} {bytes} {assumed} t = record {
  one = λ i h k. wider t.variables (clause_bytes n bytes t.clauses_fine i h k);
  two = λ i h. absurd (omega arith);
  literals = λ i h. wider t.variables (assumed_bytes n assumed t.literals_fine i h);
  numbers = omega (arith, t.clauses, t.literals);
}

-- ---- what the search tells

-- what an ask gives back when its search has ended so
abbrev pub made : ℕ → List ℕ → Result Visited Refusal → AskResult
made n places (Ok (visited.Model values used)) = answered (Ok (asked.Model used)) (take n values ++ drop n places)
made n places (Ok (visited.None used)) = answered (Ok (asked.None used)) places
made n places (Err refusal) = answered (Err refusal) places

told_made : (n budget k : ℕ) (cs : List (List ℕ)) (places : List ℕ) (r : SearchResult) → Means n cs r
    → made n places (told budget 0 (padded k r)) ≡ searched_result budget places r
unfolding told
told_made n budget k cs places (Model m visits) means =
    by_cases (dec_lt budget visits) (λ l. rw (zero-add visits, lt-ltb budget visits l))
    (λ g.
    let l : visits ≤ budget = omega arith in
    rw (zero-add visits, le-ltb budget visits l, take_at m (replicate k 0) n means.assigns.size, means.assigns.size))
told_made n budget k cs places (None visits) means =
    by_cases (dec_lt budget visits) (λ l. rw (zero-add visits, lt-ltb budget visits l))
    (λ g.
    let l : visits ≤ budget = omega arith in
    rw (zero-add visits, le-ltb budget visits l))

-- ---- what an ask gives back

pub refused_result : (n : ℕ) (bytes assumed : List ℕ) (budget : ℕ) (places : List ℕ) (refusal : Refusal)
    → number_of refusal ≡ ask_refusal n bytes assumed (length places)
    → answered (Err refusal) places ≡ ask_result n bytes assumed budget places
unfolding ask_result
refused_result n bytes assumed budget places refusal e = rw (← e, ne_eqb (number_of refusal) 0 (refused_number refusal))

pub made_result : (n : ℕ) (bytes assumed : List ℕ) (budget : ℕ) (places : List ℕ) (a : Result Visited Refusal)
    → 0 ≡ ask_refusal n bytes assumed (length places) → a ≡ told budget 0 (visit (ask_clauses bytes assumed) (opening n))
    → made n places a ≡ ask_result n bytes assumed budget places
unfolding ask_result search
made_result n bytes assumed budget places a e is =
    let cs = ask_clauses bytes assumed in
    ap (made n places) (is ∙ ap (told budget 0) (visit_pad (variables_most - n) cs (replicate n 2)))
    ∙ told_made n budget (variables_most - n) cs places (search n cs) (search_means n cs) ∙ rw (← e)
