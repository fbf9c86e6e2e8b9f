-- The search of an ask as it computes: a scan goes from the first clause, and again from the first after each forced literal.
-- proofs/Visits.antt shows that it is the search of Search.antt.
use Rattle.std.specs.Prelude.{◌≡◌, refl, Bool, true, false, cond, List, [], ◌∷◌, ℕ, zero, suc, ◌+◌, eqb, ltb, length, get_or, set, replicate}
use Rattle.setups.specs.declared.Seen.{Seen}
use Rattle.setups.specs.declared.Seen.TheVariants.{AllFalse, OneFree, Enough}
use Rattle.setups.specs.Clauses.{place, wish}
use Rattle.setups.specs.Settling.{put}
use Rattle.setups.specs.Search.{SearchResult, Model, None, after}

-- a clause so far, with one free literal more; a repeated literal adds nothing
abbrev pub more : Seen → ℕ → Seen
more AllFalse b = OneFree b
more (OneFree l) b = cond (eqb l b) (OneFree l) Enough
more Enough b = Enough

-- a clause so far, with one literal more, whose variable has the value x
abbrev pub see_value : Seen → ℕ → ℕ → Seen
see_value seen b x = cond (ltb 1 x) (more seen b) (cond (eqb x (wish b)) Enough seen)

abbrev pub see : List ℕ → Seen → ℕ → Seen
see values seen b = see_value seen b (get_or values (place b) 0)

unfoldable pub see_clause : List ℕ → Seen → List ℕ → Seen
see_clause values seen [] = seen
see_clause values seen (b ∷ clause) = see_clause values (see values seen b) clause

-- a clause that is wholly false or forces a literal decides; else the clauses after it
abbrev pub or_else : Seen → Seen → Seen
or_else AllFalse rest = AllFalse
or_else (OneFree b) rest = OneFree b
or_else Enough rest = rest

unfoldable pub scan : List ℕ → List (List ℕ) → Seen
unfolding see_clause
scan values [] = Enough
scan values (clause ∷ rest) = or_else (see_clause values AllFalse clause) (scan values rest)

-- both variables free: (1 2) has two free literals, (−2 −2) has one
example_scan : scan (2 ∷ 2 ∷ []) ((1 ∷ 2 ∷ []) ∷ (130 ∷ 130 ∷ []) ∷ []) ≡ OneFree 130
unfolding scan
example_scan = refl

-- how many values are free
unfoldable pub free_count : List ℕ → ℕ
free_count [] = 0
free_count (x ∷ values) = cond (ltb 1 x) 1 0 + free_count values

-- the place of the lowest free variable; the length where none is free
unfoldable pub lowest_free : List ℕ → ℕ
lowest_free [] = 0
lowest_free (x ∷ values) = cond (ltb 1 x) 0 (suc (lowest_free values))

-- whether settling fails, and the values when it ends
pub record Settled : Type 0 where
  pub fails : Bool
  pub values : List ℕ

-- at most `most` scans
unfoldable pub settle_for : ℕ → List (List ℕ) → List ℕ → Settled
unfolding scan
settle_for zero cs values = record { fails = false; values = values }
settle_for (suc most) cs values = elim (scan values cs) [
  | AllFalse ↦ record { fails = true; values = values }
  | OneFree b ↦ settle_for most cs (put values b)
  | Enough ↦ record { fails = false; values = values }
]

-- each scan but the last sets a free value, so that one more than those are enough
unfoldable pub settle : List (List ℕ) → List ℕ → Settled
unfolding free_count settle_for
settle cs values = settle_for (suc (free_count values)) cs values

-- value 0 first, then 1 if that side fails
abbrev pub split : SearchResult → SearchResult → SearchResult
split (Model m visits) high = Model m (1 + visits)
split (None visits) high = after (1 + visits) high

-- at most `most` visits one inside the other
unfoldable pub visit_for : ℕ → List (List ℕ) → List ℕ → SearchResult
unfolding settle lowest_free
visit_for zero cs values = None 1
visit_for (suc most) cs values =
    let settled = settle cs values in
    let i = lowest_free settled.values in
    let low = visit_for most cs (set settled.values i 0) in
    let high = visit_for most cs (set settled.values i 1) in
    elim settled.fails [
      | true ↦ None 1
      | false ↦ elim (ltb i (length settled.values)) [ true ↦ split low high | false ↦ Model settled.values 1 ]
    ]

-- each visit inside another has a free value fewer
unfoldable pub visit : List (List ℕ) → List ℕ → SearchResult
unfolding free_count visit_for
visit cs values = visit_for (suc (free_count values)) cs values

-- the whole search over n variables, all free at first
unfoldable pub search : ℕ → List (List ℕ) → SearchResult
unfolding visit
search n cs = visit cs (replicate n 2)

-- two variables, no clause: the third visit has the first model, 0 0
example_search : search 2 [] ≡ Model (0 ∷ 0 ∷ []) 3
unfolding search
example_search = refl
