-- The literals of readable buffers: where the code finds their values, and that a forced literal is one of them.
use mathlib.Core.Path.{◌≡◌, ◌∙◌, subst}
use mathlib.Core.Logic.{inl, inr, ⊎_elim}
use mathlib.Core.List.{List, [], ◌∷◌, ◌++◌}
use Prim.Native.Nat.{ℕ, suc, suc-le-suc}
use native.Mathlib.Nat.{le_refl, zero-lt-suc}
use lib.ListN.{length}
use Rattle.sets.specs.Lists.{Among}
use Rattle.setups.specs.declared.Seen.TheVariants.{OneFree}
use Rattle.setups.specs.Limits.{variables_most}
use Rattle.setups.specs.Clauses.{clauses, LiteralOf, place}
use Rattle.setups.specs.Searching.{scan}
use Rattle.setups.specs.Ask.{units}
use Rattle.setups.proofs.Scanning.{scan_right}
use Rattle.setups.proofs.LiteralLaws.{clauses_literals}
use Rattle.literals.specs.Slots.{slot}
use Rattle.literals.proofs.SlotLaws.{slot_place}
use Rattle.scans.specs.Scans.{clauses_of, ReadableUnits, ReadableAll}

-- where the code looks for a literal's value it stands
pub slot_is_place : (b at : ℕ) → LiteralOf variables_most b → at ≡ slot b → at ≡ place b
slot_is_place b at h e = e ∙ slot_place variables_most b (le_refl variables_most) h

-- each literal of each clause has its value among those of a search
abbrev Literals : List (List ℕ) → Type 0
Literals cs = (clause : List ℕ) → Among clause cs → (b : ℕ) → Among b clause → LiteralOf variables_most b

literals_append : (cs ds : List (List ℕ)) → Literals cs → Literals ds → Literals (cs ++ ds)
literals_append [] ds f g clause among = g clause among
literals_append (c ∷ cs) ds f g clause (inl e) = f clause (inl e)
literals_append (c ∷ cs) ds f g clause (inr h) = literals_append cs ds (λ k a. f k (inr a)) g clause h

literals_units : (assumed : List ℕ) → ReadableUnits assumed → Literals (units assumed)
literals_units [] f clause among b l = absurd among
literals_units (x ∷ assumed) f clause (inl e) b l =
    ⊎_elim (λ k. rw k (f 0 (zero-lt-suc (length assumed)))) (λ z. absurd z) (subst (Among b) e l)
literals_units (x ∷ assumed) f clause (inr a) b l = literals_units assumed (λ i h. f (suc i) (suc-le-suc h)) clause a b l

-- the literal that a scan gives is one of them
pub forced_literal : (first second assumed values : List ℕ) (b : ℕ) → ReadableAll first second assumed
    → scan values (clauses_of first second assumed) ≡ OneFree b → LiteralOf variables_most b
forced_literal first second assumed values b h e =
    let r = scan_right values (clauses_of first second assumed) (OneFree b) e in
    literals_append (clauses first) (clauses second ++ units assumed) (clauses_literals variables_most first h.one)
    (literals_append (clauses second) (units assumed) (clauses_literals variables_most second h.two) (literals_units assumed h.literals))
    r.0 r.1 b r.2.stands
