-- What the refutations of both jobs share: a program is looked at where its result is known.
use mathlib.Core.Path.{◌≡◌, sym, ap, ◌∙◌, subst}
use mathlib.Core.Logic.{◌≢◌}
use mathlib.Core.List.{List, [], ◌∷◌}
use Prim.Native.Nat.{ℕ}
use lib.ListN.{get_or}
use Rattle.setups.specs.Refusals.{finished}
use Rattle.setups.specs.GivenOut.{ListResult, listed_sets}
use Rattle.setups.proofs.Refusals.{refused_number}
use Rattle.refuted.specs.Programs.{Program, RefusesAll, WritesNothing, Claim, Always}

-- three places and a scratch of four, before the call
abbrev pub room : List ℕ
room = 7 ∷ 8 ∷ 9 ∷ []

abbrev pub work : List ℕ
work = 6 ∷ 6 ∷ 6 ∷ 6 ∷ []

-- equal lists begin alike
pub first_alike : {S R : ℕ} {a b : List ℕ} → S ∷ a ≡ R ∷ b → S ≡ R
first_alike e = ap (λ (l : List ℕ). get_or l 0 0) e

-- the program gives back r there
pub record Gives {Input : Type 0} (P : Program Input) (input : Input) (list scratch : List ℕ) (r : ListResult) : Type 0 where
  pub so : P input list scratch ≡ r

module _ {Input : Type 0} {P : Program Input} {input : Input} {list scratch : List ℕ} {r : ListResult} (there : Gives P input list scratch r) where
  -- what is always claimed holds there
  pub at : {claim : Claim Input} → Always claim P → r.number ≡ finished → claim input list scratch r.filled (listed_sets r)
  at {claim} always =
      subst (λ (s : ListResult). s.number ≡ finished → claim input list scratch s.filled (listed_sets s)) there.so (always.holds input list scratch)

  -- a program that finishes there doesn't refuse everything
  pub not_refusing : r.number ≡ finished → ¬ RefusesAll Input P
  not_refusing done wrong =
      let refused = wrong input list scratch in
      refused_number refused.0 (sym refused.1 ∙ ap (λ (s : ListResult). s.number) there.so ∙ done)

  -- and one that writes there writes something
  pub not_silent : r.list ≢ list → ¬ WritesNothing Input P
  not_silent writes wrong = writes (sym (ap (λ (s : ListResult). s.list) there.so) ∙ wrong input list scratch)
