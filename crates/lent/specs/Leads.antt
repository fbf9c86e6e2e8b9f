-- What the check of a list asks of a set and those that follow it (document 01, refusal 9: "not strictly rising, a setting above the
-- count, or one set within another").
use Rattle.std.specs.Prelude.{refl, List, [], ◌∷◌, ℕ, ◌<◌}
use Rattle.std.proofs.Common.{inl, inr, arith, lit<}
use Rattle.sets.specs.Sets.{Within}
use Rattle.sets.specs.Lists.{Among}

-- S is below each of the others and lies within none of them
abbrev pub Leads : ℕ → List ℕ → Type 0
Leads S others = (R : ℕ) → Among R others → (S < R) × ¬ Within S R

-- 3 leads 5: it is below 5, which lacks its second setting
example_leads : Leads 3 (5 ∷ [])
example_leads R (inl e) = rw e (lit< tt, λ w. omega (arith, w 1 refl))
example_leads R (inr h) = absurd h
