-- A scan over the clauses of two byte buffers and over assumed literals: what it decides, and which clause decided.
use Rattle.std.specs.Prelude.{◌≡◌, refl, ◌≢◌, Bool, true, false, cond, List, [], ◌∷◌, ◌++◌, ℕ, ◌+◌, ◌^◌, ◌<◌, length, get_or}
use Rattle.setups.specs.declared.Seen.{Seen}
use Rattle.setups.specs.declared.Seen.TheVariants.{AllFalse, OneFree, Enough}
use Rattle.setups.specs.Limits.{variables_most}
use Rattle.setups.specs.Clauses.{clauses, LiteralOf}
use Rattle.setups.specs.Searching.{see_clause, scan}
use Rattle.setups.specs.Ask.{units}
use Rattle.scans.specs.declared.Scanned.{Scanned}

-- the clause is wholly false or forces a literal
abbrev pub decides : Seen → Bool
decides AllFalse = true
decides (OneFree b) = true
decides Enough = false

-- how many clauses stand before the first that decides; all of them where none does
unfoldable pub clauses_passed : List ℕ → List (List ℕ) → ℕ
unfolding see_clause
clauses_passed values [] = 0
clauses_passed values (clause ∷ rest) =
    let more = 1 + clauses_passed values rest in
    cond (decides (see_clause values AllFalse clause)) 0 more

-- what a scan decides, and how many clauses it has passed
unfoldable pub scanned : List ℕ → List (List ℕ) → Scanned
unfolding scan clauses_passed
scanned values cs = record { seen = scan values cs; passed = clauses_passed values cs }

-- both variables free: (1 2) is passed, (−2 −2) forces −2
example_scanned : scanned (2 ∷ 2 ∷ []) ((1 ∷ 2 ∷ []) ∷ (130 ∷ 130 ∷ []) ∷ []) ≡ record { seen = OneFree 130; passed = 1 }
unfolding scanned
example_scanned = refl

-- the scan of a later part, after so many clauses that didn't decide
abbrev pub further : ℕ → Scanned → Scanned
further k later = record { seen = later.seen; passed = k + later.passed }

-- the clauses of two buffers, and then each assumed literal
abbrev pub clauses_of : List ℕ → List ℕ → List ℕ → List (List ℕ)
clauses_of first second assumed = clauses first ++ (clauses second ++ units assumed)

-- (1) and (−2), with 3 assumed
example_clauses : clauses_of (1 ∷ 0 ∷ []) (130 ∷ 0 ∷ []) (3 ∷ []) ≡ (1 ∷ []) ∷ (130 ∷ []) ∷ (3 ∷ []) ∷ []
example_clauses = refl

-- each byte of a clause buffer ends a clause or is a literal, whose variable has its place among the values
abbrev pub Readable : List ℕ → Type 0
Readable bytes = (i : ℕ) → i < length bytes → get_or bytes i 0 ≢ 0 → LiteralOf variables_most (get_or bytes i 0)

-- each assumed byte is such a literal
abbrev pub ReadableUnits : List ℕ → Type 0
ReadableUnits assumed = (i : ℕ) → i < length assumed → LiteralOf variables_most (get_or assumed i 0)

-- what a search may rely on; a clause's number has to fit the machine's
pub record ReadableAll (first second assumed : List ℕ) : Type 0 where
  pub one : Readable first
  pub two : Readable second
  pub literals : ReadableUnits assumed
  pub numbers : length first + (length second + length assumed) < 2 ^ 64
