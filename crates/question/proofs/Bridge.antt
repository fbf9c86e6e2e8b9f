-- From bytes to what Says says: for the bytes of a setup that is taken, the tests of the search are the truth of clauses and settings.
use mathlib.Core.Path.{◌≡◌, sym, ap, ◌∙◌, subst}
use mathlib.Core.Logic.{◌↔◌}
use mathlib.Core.Bool.{false}
use mathlib.Core.List.{List, []}
use Prim.Native.Nat.{ℕ, ◌<◌, min}
use native.Mathlib.Omega.{arith}
use lib.Dec.{T, eqb, ltb, ltb→lt, lt→ltb}
use lib.ListN.{get_or}
use Rattle.sets.specs.Lists.{Among}
use Rattle.numbers.proofs.Deciding.{and_left, and_right, and_both}
use Rattle.setups.specs.Limits.{settings_most}
use Rattle.setups.specs.Clauses.{clauses, place, wish, literal_true, all_pass, all_true}
use Rattle.setups.specs.Refusals.{no_clause_byte, offends}
use Rattle.setups.specs.Setups.{Setup, settings, count, SettingTrue}
use Rattle.setups.specs.Code.Taken.{Taken}
use Rattle.setups.proofs.Truth.{all_agree, setting_clauses}
use Rattle.setups.proofs.LiteralLaws.{clause_bytes, place_below, clauses_literals}
use Rattle.literals.specs.Slots.{slot}
use Rattle.literals.proofs.SlotLaws.{slot_place}
use Rattle.forcing.specs.Holding.{is_true, holds}

-- m has the values w of the variables
module _ (g : Setup) (taken : Taken g) (m w : List ℕ) (same : (i : ℕ) → i < g.variables → get_or m i 0 ≡ get_or w i 0) where
  -- each literal of a buffer is true in the code's values where it is true
  buffer_same : (bytes : List ℕ) → offends (no_clause_byte g.variables) bytes ≡ false
      → (c : List ℕ) → Among c (clauses bytes) → (b : ℕ) → Among b c → is_true w b ≡ literal_true m b
  buffer_same bytes fine c h b k =
      let literal = clauses_literals g.variables bytes (clause_bytes g.variables bytes fine) c h b k in
      let at : slot b ≡ place b = slot_place g.variables b taken.variables literal in
      ap (λ (x : ℕ). eqb x (wish b)) (ap (λ (p : ℕ). get_or w p 0) at ∙ sym (same (place b) (place_below g.variables b literal)))

  -- the hard clauses
  pub rules_true : all_pass (is_true w) (clauses g.hard) ≡ all_true m (clauses g.hard)
  rules_true = all_agree (is_true w) (literal_true m) (clauses g.hard) (buffer_same g.hard taken.hard)

  -- a setting
  pub holds_true : (i : ℕ) → T (holds (is_true w) g.soft i) ↔ ((i < count g) × SettingTrue g m i)
  holds_true i =
      let most = min (count g) settings_most in
      let named = ltb i most in
      let passing = all_pass (is_true w) (get_or (settings g.soft) i []) in (
        (λ t.
            let l = ltb→lt i most (and_left named passing t) in
            (omega arith, subst T agree (and_right named passing t))),
        λ h. and_both named passing (lt→ltb i most (omega (arith, h.0, taken.settings))) (subst T (sym agree) h.1),
      )
    where
      agree : all_pass (is_true w) (get_or (settings g.soft) i []) ≡ all_true m (get_or (settings g.soft) i [])
      agree =
          all_agree (is_true w) (literal_true m) (get_or (settings g.soft) i [])
          (λ c h. buffer_same g.soft taken.soft c (setting_clauses (clauses g.soft) i c h))
