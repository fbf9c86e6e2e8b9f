-- Clauses: the first of a buffer, and that what passes depends only on the literals that occur.
use mathlib.Core.Path.{◌≡◌, refl, ap, ap₂}
use mathlib.Core.Logic.{inl, inr, ◌≢◌}
use mathlib.Core.Bool.{Bool, ◌&&◌, ◌||◌}
use mathlib.Core.List.{List, [], ◌∷◌}
use Prim.Native.Nat.{ℕ, zero, suc}
use lib.Dec.{T, eqb-suc-zero}
use lib.ListN.{get_or}
use Rattle.sets.specs.Lists.{Among}
use Rattle.setups.specs.Clauses.{push, clauses, passes, all_pass}
use Rattle.setups.specs.Refusals.{ended}
use Rattle.setups.specs.Setups.{apiece}

-- a byte that ends no clause stands in front of the first
pub clauses_push : (b : ℕ) (bytes : List ℕ) → b ≢ 0 → clauses (b ∷ bytes) ≡ push b (clauses bytes)
clauses_push zero bytes n = absurd (n refl)
clauses_push (suc b) bytes n = refl

-- a literal ends no clause
pub literal_goes_on : (b : ℕ) → ¬ T (ended (suc b ∷ []))
literal_goes_on b t = rw (eqb-suc-zero b) at t

-- bytes that end in 0 after at least one byte have a first clause
pub first_clause_lem : (bytes : List ℕ) (b : ℕ) → T (ended (b ∷ bytes)) → (c : List ℕ) × (cs : List (List ℕ)) × (clauses (b ∷ bytes) ≡ c ∷ cs)
first_clause_lem [] zero t = ([], [], refl)
first_clause_lem [] (suc b) t = absurd (literal_goes_on b t)
first_clause_lem (d ∷ bytes) zero t = ([], clauses (d ∷ bytes), refl)
first_clause_lem (d ∷ bytes) (suc b) t =
    let r = first_clause_lem bytes d t in
    (suc b ∷ r.0, r.1, ap (push (suc b)) r.2)

-- ---- two tests that agree on the literals that occur

pub passes_agree : (test other : ℕ → Bool) (clause : List ℕ) → ((b : ℕ) → Among b clause → test b ≡ other b) → passes test clause ≡ passes other clause
passes_agree test other [] h = refl
passes_agree test other (b ∷ clause) h = ap₂ ◌||◌ (h b (inl refl)) (passes_agree test other clause (λ l i. h l (inr i)))

pub all_agree : (test other : ℕ → Bool) (cs : List (List ℕ)) → ((c : List ℕ) → Among c cs → (b : ℕ) → Among b c → test b ≡ other b)
    → all_pass test cs ≡ all_pass other cs
all_agree test other [] h = refl
all_agree test other (c ∷ cs) h = ap₂ ◌&&◌ (passes_agree test other c (h c (inl refl))) (all_agree test other cs (λ d i. h d (inr i)))

-- the clauses of a setting are some of the buffer's
pub setting_clauses : (cs : List (List ℕ)) (i : ℕ) (c : List ℕ) → Among c (get_or (apiece cs) i []) → Among c cs
setting_clauses [] i c h = h
setting_clauses (d ∷ cs) zero c (inl e) = inl e
setting_clauses (d ∷ cs) zero c (inr h) = absurd h
setting_clauses (d ∷ cs) (suc i) c h = inr (setting_clauses cs i c h)
