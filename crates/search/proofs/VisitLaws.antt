-- A round of settling, a visit and the sides of a split, as the code goes through them.
use mathlib.Core.Path.{◌≡◌, refl, sym, ap, ap₂, ◌∙◌, subst}
use mathlib.Core.Bool.{Bool, true, false, cond}
use mathlib.Core.List.{List}
use Prim.Native.Nat.{ℕ, ◌+◌, ◌≤◌, ◌<◌}
use native.Mathlib.Omega.{arith}
use lib.ListN.{get_or, set}
use Rattle.std.specs.Prelude.{Some, None, Ok, Err}
use Rattle.numbers.proofs.Deciding.{bool_case}
use Rattle.setups.specs.declared.Refusal.TheVariants.{Spent}
use Rattle.setups.specs.declared.Seen.TheVariants.{OneFree}
use Rattle.setups.specs.Clauses.{wish}
use Rattle.setups.specs.Settling.{put}
use Rattle.setups.specs.Search.{Lowest}
use Rattle.setups.specs.Searching.{Settled, scan, free_count, lowest_free, settle, visit}
use Rattle.setups.proofs.Scanning.{free_set, lowest_only, lowest_none}
use Rattle.setups.proofs.Visits.{scan_fewer, settle_on, settle_fewer, visit_none, visit_model, visit_split, visits_exist, visits_one}
use Rattle.literals.specs.Slots.{slot, AllSet}
use Rattle.scans.specs.declared.Scanned.{Scanned}
use Rattle.scans.specs.declared.clauses.Clauses.{Clauses}
use Rattle.scans.specs.Scans.{scanned}
use Rattle.scans.specs.Parts.{all_of}
use Rattle.scans.proofs.Literals.{slot_is_place, forced_literal}
use Rattle.search.specs.declared.Visited.TheVariants as visited
use Rattle.search.specs.Told.{settled_of, told, either, sides}
use Rattle.search.proofs.Telling.{told_spent, told_none, told_model, told_after, split_either}

-- a free value that is set, to 0 or to 1, leaves one fewer
pub sides_fewer : (values : List ℕ) (at : ℕ) → 2 ≤ get_or values at 0
    → (free_count (set values at 0) < free_count values) × (free_count (set values at 1) < free_count values)
sides_fewer values at h = (omega (arith, free_set values at 0 h (omega arith)), omega (arith, free_set values at 1 h (omega arith)))

-- ---- settling

pub scan_seen : (values : List ℕ) (cs : List (List ℕ)) (s : Scanned) → s ≡ scanned values cs → s.seen ≡ scan values cs
unfolding scanned
scan_seen values cs s e = ap (λ (t : Scanned). t.seen) e

-- a turn of settling: a free value fewer, and the same end
pub record ForcedOnce (cs : List (List ℕ)) (values next : List ℕ) : Type 0 where
  pub fewer : free_count next < free_count values
  pub same : settle cs next ≡ settle cs values

-- the value that the code sets is the forced one
pub forced_once : (parts : Clauses) (values : List ℕ) (b at x : ℕ) → scan values (all_of parts) ≡ OneFree b → at ≡ slot b → x ≡ wish b
    → ForcedOnce (all_of parts) values (set values at x)
forced_once parts values b at x e p q =
    let cs = all_of parts in
    let there = slot_is_place b at (forced_literal parts.first.now parts.second.now parts.assumed.now values b parts.readable e) p in
    let is_put : set values at x ≡ put values b = ap₂ (set values) there q in
    rw is_put (record { fewer = omega (arith, scan_fewer cs values b e); same = sym (settle_on cs values b e) })

-- how settling ended, by what the code hands on
settled_fails : (s : Settled) → None ≡ settled_of s → s.fails ≡ true
settled_fails s e =
    bool_case (λ (q : Bool). None ≡ cond q None (Some s.values) → q ≡ true) s.fails (λ f h. refl) (λ f h. absurd (cc)) e

settled_ends : (s : Settled) (end : List ℕ) → Some end ≡ settled_of s → s ≡ record { fails = false; values = end }
settled_ends s end e =
    bool_case (λ (q : Bool). Some end ≡ cond q None (Some s.values) → record { fails = q; values = s.values } ≡ record { fails = false; values = end })
    s.fails (λ f h. absurd (cc)) (λ f h. let same : s.values ≡ end = cc in rw same) e

-- ---- a visit

module _ (budget used : ℕ) (cs : List (List ℕ)) (values : List ℕ) where
  -- above the budget, whatever it would find
  pub visit_told_spent : budget ≤ used → Err Spent ≡ told budget used (visit cs values)
  visit_told_spent h = told_spent budget used (visit cs values) (omega (arith, visits_one (visits_exist cs values)))

  -- within it, where settling fails
  pub visit_told_none : used < budget → None ≡ settled_of (settle cs values) → Ok (visited.None (used + 1)) ≡ told budget used (visit cs values)
  visit_told_none room e =
      told_none budget used 1 (omega arith) ∙ ap (told budget used) (sym (visit_none cs values (settled_fails (settle cs values) e)))

  -- or ends with these values
  module _ (room : used < budget) (end : List ℕ) (is : Some end ≡ settled_of (settle cs values)) where
    ends : settle cs values ≡ record { fails = false; values = end }
    ends = settled_ends (settle cs values) end is

    pub visit_told_model : AllSet end → Ok (visited.Model end (used + 1)) ≡ told budget used (visit cs values)
    visit_told_model full =
        told_model budget used 1 end (omega arith)
        ∙ ap (told budget used) (sym (visit_model cs values end ends (omega (arith, lowest_none end full))))

    pub visit_told_split : (at : ℕ) → Lowest end at → told budget (used + 1) (sides cs end at) ≡ told budget used (visit cs values)
    visit_told_split at lowest =
        let low = visit cs (set end (lowest_free end) 0) in
        let high = visit cs (set end (lowest_free end) 1) in
        let p : at ≡ lowest_free end = sym (lowest_only lowest) in
        rw p
        (told_after budget used 1 (either low high)
        ∙ ap (told budget used) (sym (visit_split cs values end ends (rw p at lowest.inside) ∙ split_either low high)))

    -- no more values are free than before
    pub visit_fewer : free_count end ≤ free_count values
    visit_fewer = subst (λ (s : Settled). free_count s.values ≤ free_count values) ends (settle_fewer cs values)
