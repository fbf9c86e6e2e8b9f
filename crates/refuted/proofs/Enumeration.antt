-- Where the wrong searches go astray.
use mathlib.Core.Path.{◌≡◌, refl, subst}
use mathlib.Core.Logic.{◌⊎◌, inl, inr, ⊎_elim, ◌≢◌}
use mathlib.Core.List.{List, [], ◌∷◌}
use Prim.Native.Nat.{ℕ, zero, suc, ◌-◌, ◌^◌, ◌<◌}
use native.Mathlib.Decide.{ℕ_discrete}
use native.Mathlib.Omega.{arith}
use lib.Dec.{T}
use lib.ListN.{length}
use Rattle.sets.specs.Sets.{Share}
use Rattle.sets.specs.Lists.{Among, Exactly}
use Rattle.numbers.proofs.Deciding.{stable}
use Rattle.sets.proofs.Digits.{in_below, none_share, none_within}
use Rattle.sets.proofs.Tests.{listed_iff, lists_exactly}
use Rattle.setups.specs.Setups.{Setup, setup, Together}
use Rattle.setups.specs.Tests.{without}
use Rattle.setups.proofs.Tests.{together_iff, without_iff}
use Rattle.table.specs.Rows.{neg, Row}
use Rattle.table.proofs.Table.{row, table}
use Rattle.refuted.specs.Enumeration.{OracleAnswers, Run, finds, returns, outputs, Enumerates, Candidate, FoundOnly, gives, stops, WayDown}

-- ---- Algorithm 1 of document 000 loses P2, whatever its oracle answers: the first model has the one selector at 0, its block leaves no
-- other, and A is empty

abbrev P2 : Setup
P2 = setup 1 (neg 1 ∷ 0 ∷ []) (1 ∷ 0 ∷ [])

-- the one setting has no model
alone : ¬ Together P2 1
alone t = (together_iff P2 1).1 t

-- so every answer has its selector at 0
unset : {A T : ℕ} {blocks : List ℕ} → OracleAnswers P2 A blocks T → T ≡ 0
unset {A} {T} {blocks} a =
    let low : T < 2 = a.below in
    stable (ℕ_discrete T 0) (λ n. alone (subst (Together P2) (let e : T ≡ 1 = omega arith in e) a.meets))

-- and none is left once that is blocked
second : {A B : ℕ} {blocks out : List ℕ} → A ≡ 0 → blocks ≡ 1 ∷ [] → Run P2 A B blocks out → out ≡ []
second e f (finds a run) = absurd (none_share 1 (subst (λ (T : ℕ). Share T 1) (unset a) (a.blocked 1 (rw f (inl refl)))))
second e f (returns fails empty) = refl
second e f (outputs fails some run) = absurd (some e)

first : {A B : ℕ} {blocks out : List ℕ} → A ≡ 0 → blocks ≡ [] → Run P2 A B blocks out → out ≡ []
first e f (finds a run) = second (unset a) (rw (unset a, f)) run
first e f (returns fails empty) = refl
first e f (outputs fails some run) = absurd (some e)

pub enumeration_loses : {out : List ℕ} → Enumerates P2 out → out ≡ []
enumeration_loses run = first refl refl run

-- such a run there is
example_enumerates : Enumerates P2 []
example_enumerates =
    finds {T = 0} (record { below = omega arith; assumed = none_within 0; meets = table.p2.met; blocked = λ W h. absurd h })
    (returns (λ T a. none_share 1 (subst (λ (T : ℕ). Share T 1) (unset a) (a.blocked 1 (inl refl)))) refl)

-- ---- blocking only the found set gives out every candidate

given_out_lem : {g : Setup} {blocks out : List ℕ} → FoundOnly g blocks out → (S : ℕ) → Candidate g S → Among S blocks ⊎ Among S out
given_out_lem (gives {S = R} {blocks} {out} found new run) S c = moved (given_out_lem run S c)
  where
    moved : Among S (R ∷ blocks) ⊎ Among S out → Among S blocks ⊎ Among S (R ∷ out)
    moved (inl (inl e)) = inr (inl e)
    moved (inl (inr h)) = inl h
    moved (inr h) = inr (inr h)
given_out_lem (stops all) S c = inl (all S c)

-- the candidates of P6: one setting or the other, or both
abbrev P6 : Setup
P6 = setup 1 [] (1 ∷ 0 ∷ neg 1 ∷ 0 ∷ [])

candidates : Exactly (Candidate P6) (1 ∷ 2 ∷ 3 ∷ [])
candidates =
    lists_exactly 4 (Candidate P6) (without P6) (1 ∷ 2 ∷ 3 ∷ []) (λ S h. h.below)
    (λ S l. ((λ t. record { below = l; meets = (without_iff P6 S).0 t }), λ c. (without_iff P6 S).1 c.meets)) tt

-- so that it gives out 3, which is no way out
pub found_only_larger : {out : List ℕ} → FoundOnly P6 [] out → Among 3 out
found_only_larger run = ⊎_elim (λ h. absurd h) (λ h. h) (given_out_lem run 3 ((candidates.exact 3).0 (inr (inr (inl refl)))))

-- such a run there is
example_found_only : FoundOnly P6 [] (3 ∷ 2 ∷ 1 ∷ [])
example_found_only =
    gives ((candidates.exact 3).0 (inr (inr (inl refl)))) (listed_iff 3 []).1
    (gives ((candidates.exact 2).0 (inr (inl refl))) (listed_iff 2 (3 ∷ [])).1
    (gives ((candidates.exact 1).0 (inl refl)) (listed_iff 1 (2 ∷ 3 ∷ [])).1 (stops (λ S. (candidates.exact S).1))))

-- ---- the way down has more sets than there are ways out

-- soft (1), (2): both can be had
abbrev both : Setup
both = setup 2 [] (1 ∷ 0 ∷ 2 ∷ 0 ∷ [])

pub both_row : Row both (0 ∷ []) []
both_row = row tt tt

-- one setting after the other, from both to none
pub way_down_longer : (down : List ℕ) → WayDown both (3 ∷ down) → 2 < length (3 ∷ down)
way_down_longer [] way = absurd ((listed_iff 3 (0 ∷ [])).1 ((both_row.ways_out.exact 3).1 way))
way_down_longer (S ∷ []) (candidate, (i, held, less), way) =
    absurd (one i (in_below 2 (omega arith) held) less (⊎_elim (λ e. e) (λ h. absurd h) ((both_row.ways_out.exact S).1 way)))
  where
    one : (i : ℕ) → i < 2 → S ≡ 3 - 2 ^ i → S ≢ 0
    one zero l e z = omega arith
    one (suc zero) l e z = omega arith
    one (suc (suc i)) l e z = omega arith
way_down_longer (S ∷ R ∷ down) way = omega arith

-- such a way there is
example_way_down : WayDown both (3 ∷ 1 ∷ 0 ∷ [])
example_way_down =
    (candidate 3 (omega arith) tt, (1, refl, refl), (candidate 1 (omega arith) tt, (0, refl, refl), (both_row.ways_out.exact 0).0 (inl refl)))
  where
    candidate : (S : ℕ) → S < 4 → T (without both S) → Candidate both S
    candidate S l t = record { below = l; meets = (without_iff both S).0 t }
