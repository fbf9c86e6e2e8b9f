-- Members, hit and unhit: which setting hits one alone, and what is left of a list of members from some place on.
use mathlib.Core.Path.{◌≡◌, refl, sym, ◌∙◌}
use mathlib.Core.Logic.Iff
use mathlib.Core.Logic.{◌⊎◌, inl, inr, ⊎_elim, ◌≢◌, ◌↔◌}
use mathlib.Core.List.{List, ◌∷◌}
use Prim.Native.Nat.{ℕ, ◌+◌, ◌<◌}
use Rattle.std.specs.Prelude.{Option, None, Some}
use lib.Bits.{bit_and, bit_or}
use lib.ListN.{length, get_or, drop}
use Rattle.numbers.proofs.Places.{front}
use Rattle.sets.specs.Sets.{In, Share, AtMostOne}
use Rattle.sets.proofs.Digits.{none_in, and_in, or_joins}
use Rattle.sets.proofs.Lists.{place_listed}
use Rattle.members.specs.Members.{Hits, Alone, Own, Waits}

-- ---- the setting that hits a member alone

module _ (M S : ℕ) where
  -- where they have one setting in common it is that one, and where they have none there is none
  pub alone_one : AtMostOne (bit_and M S) → (i : ℕ) → In i (bit_and M S) ↔ Alone M S i
  alone_one one i = (to, λ a. (and_in M S i).1 (a.member, a.taken))
    where
      to : In i (bit_and M S) → Alone M S i
      to h = record {
        member = ((and_in M S i).0 h).0;
        taken = ((and_in M S i).0 h).1;
        only = λ j m t. one j i ((and_in M S j).1 (m, t)) h;
      }

  -- where they have several there is none
  pub alone_several : ¬ AtMostOne (bit_and M S) → (i : ℕ) → In i 0 ↔ Alone M S i
  alone_several several i = ((λ h. absurd (none_in i h)), λ a. absurd (several (single a)))
    where
      single : Alone M S i → AtMostOne (bit_and M S)
      single a j k h g =
          let at = (and_in M S j).0 h in
          let and = (and_in M S k).0 g in
          a.only j at.0 at.1 ∙ sym (a.only k and.0 and.1)

-- ---- members of their own, as a loop goes through the list

own_front : (M : ℕ) (rest : List ℕ) (S i : ℕ) → Own (M ∷ rest) S i ↔ (Alone M S i ⊎ Own rest S i)
own_front M rest S i = (to, ⊎_elim (λ a. (M, inl refl, a)) (λ o. (o.0, inr o.1, o.2)))
  where
    to : Own (M ∷ rest) S i → Alone M S i ⊎ Own rest S i
    to o = ⊎_elim (λ e. inl (rw e at o.2)) (λ h. inr (o.0, h, o.2)) o.1

-- the settings found so far, and those that the members from place i on give, are the whole
abbrev pub OwnSoFar : List ℕ → ℕ → ℕ → ℕ → Type 0
OwnSoFar members S found i = (j : ℕ) → (In j found ⊎ Own (drop i members) S j) ↔ Own members S j

pub own_next : (members : List ℕ) (S found i here : ℕ) → i < length members → ((j : ℕ) → In j here ↔ Alone (get_or members i 0) S j)
    → OwnSoFar members S found i → OwnSoFar members S (bit_or found here) (i + 1)
own_next members S found i here l says so j = Iff.trans (to, from) (so j)
  where
    at : Own (drop i members) S j ↔ (Alone (get_or members i 0) S j ⊎ Own (drop (i + 1) members) S j)
    at = rw (front members i l) (own_front (get_or members i 0) (drop (i + 1) members) S j)

    to : In j (bit_or found here) ⊎ Own (drop (i + 1) members) S j → In j found ⊎ Own (drop i members) S j
    to = ⊎_elim (λ h. ⊎_elim inl (λ k. inr (at.1 (inl ((says j).0 k)))) ((or_joins found here j).0 h)) (λ o. inr (at.1 (inr o)))

    from : In j found ⊎ Own (drop i members) S j → In j (bit_or found here) ⊎ Own (drop (i + 1) members) S j
    from =
        ⊎_elim (λ h. inl ((or_joins found here j).1 (inl h)))
        (λ o. ⊎_elim (λ a. inl ((or_joins found here j).1 (inr ((says j).1 a)))) inr (at.0 o))

-- ---- what is left unhit, as a loop goes through the list

module _ (members : List ℕ) (taken left : ℕ) where
  -- of the members before place i all are hit, where no settings are wanted yet; or one of them wants these
  abbrev pub UnhitSoFar : Option ℕ → ℕ → Type 0
  UnhitSoFar None i = Hits (drop i members) taken → Hits members taken
  UnhitSoFar (Some fewest) i = (fewest ≢ 0) × ((M : ℕ) × Waits members taken left M fewest)

  -- the member at place i is hit
  pub hit_next : (fewest : Option ℕ) (i : ℕ) → i < length members → Share taken (get_or members i 0) → UnhitSoFar fewest i → UnhitSoFar fewest (i + 1)
  hit_next None i l s so = λ h. so (rw (front members i l) (λ M. ⊎_elim (λ e. rw e s) (h M)))
  hit_next (Some fewest) i l s so = so

  -- it is not
  pub waits_here : (i : ℕ) → i < length members → ¬ Share taken (get_or members i 0) → Waits members taken left (get_or members i 0) (bit_and (get_or members i 0) left)
  waits_here i l q = record { listed = place_listed members i l; unhit = q; common = and_in (get_or members i 0) left }

  -- it is not, and of what is wanted so far and what it wants the one or the other is kept
  pub waits_next : (fewest : Option ℕ) (i here kept : ℕ) → i < length members → ¬ Share taken (get_or members i 0)
      → here ≡ bit_and (get_or members i 0) left → here ≢ 0 → (kept ≡ here) ⊎ (fewest ≡ Some kept)
      → UnhitSoFar fewest i → UnhitSoFar (Some kept) (i + 1)
  waits_next fewest i here kept l q e some (inl k) so = rw k (some, (get_or members i 0, rw e (waits_here i l q)))
  waits_next fewest i here kept l q e some (inr k) so = rw k at so
