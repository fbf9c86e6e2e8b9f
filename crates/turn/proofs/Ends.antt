-- From the whole branch to the turn: where the search begins, and what it gives out at its end.
use mathlib.Core.Path.{◌≡◌, subst, ◌∙◌}
use mathlib.Core.Logic.{◌≢◌, ◌⊎◌, inr, ⊎_elim, ◌↔◌}
use mathlib.Core.List.{List, []}
use Prim.Native.Nat.{ℕ, ◌-◌, ◌^◌, ◌≤◌, ◌<◌}
use native.Mathlib.Omega.{arith}
use lib.ListN.{length}
use lib.Seq.{length-take-le}
use lib.Pow.{pow_pos}
use borrow.Author.Tests.{lt-ltb, le-ltb, ne_eqb}
use Rattle.std.specs.Prelude.{Ok, Err}
use Rattle.sets.specs.Sets.{Within}
use Rattle.sets.specs.Lists.{Among}
use Rattle.sets.specs.Turns.{SmallestCross}
use Rattle.sets.proofs.Digits.{within_le, none_in, none_within, in_below, full_in}
use Rattle.sets.proofs.Lists.{rising_shorter}
use Rattle.sets.proofs.Turning.{turn_exists}
use Rattle.setups.specs.GivenOut.{without_list}
use Rattle.setups.specs.Written.{written}
use Rattle.setups.specs.Turn.{turn_refusal, TurnGives}
use Rattle.setups.specs.declared.Refusal.TheVariants.{TooMany}
use Rattle.turn.specs.declared.gathered.Gathered.{Gathered}
use Rattle.turn.specs.Code.Branches.{Holds}
use Rattle.turn.specs.Code.Growing.{sets_of, room_of, Added, Overfull}
use Rattle.turn.specs.Code.Giving.{GivesTurn}
use Rattle.turn.proofs.Promise.{turns_exist}

-- ---- the beginning

-- with nothing taken and n settings left the branch holds the smallest sets across the members
whole_branch : (n : ℕ) (members : List ℕ) (S : ℕ) → Holds members 0 (2 ^ n - 1) S ↔ SmallestCross n (λ M. Among M members) S
whole_branch n members S = (to, from)
  where
    to : Holds members 0 (2 ^ n - 1) S → SmallestCross n (λ M. Among M members) S
    to b =
        let w : Within S (2 ^ n - 1) = λ i h. ⊎_elim (λ z. absurd (none_in i z)) (λ k. k) (b.rest i h) in
        let below : S < 2 ^ n = omega (arith, within_le S (2 ^ n - 1) w, pow_pos n) in
        (record { below = below; each = b.smallest.0 }, λ R v ne c. b.smallest.1 R v ne c.each)

    from : SmallestCross n (λ M. Among M members) S → Holds members 0 (2 ^ n - 1) S
    from c = record {
      smallest = (c.0.each, λ R v ne h. c.1 R v ne (record { below = let l = c.0.below in omega (arith, within_le R S v); each = h }));
      has = none_within S;
      rest = λ i h. inr ((full_in n i).1 (in_below n c.0.below h));
    }

-- ---- the end

-- what is found besides the sets of before, none, is a smallest set across the given ones
cross : (n : ℕ) (given before : List ℕ) → before ≡ [] → (S : ℕ) → Among S before ⊎ Holds given 0 (2 ^ n - 1) S → SmallestCross n (λ M. Among M given) S
cross n given before none S h = (whole_branch n given S).0 (⊎_elim (λ k. absurd (rw none at k)) (λ b. b) h)

module _ (n : ℕ) {given list : List ℕ} {before : Gathered} (none : sets_of before ≡ []) (room : room_of before ≡ length list) where
  -- all of it is found, and copied to the list
  pub gives_list : {after : Gathered} {list_after : List ℕ} → Added (Holds given 0 (2 ^ n - 1)) before after
      → list_after ≡ written (sets_of after) list → GivesTurn n given list (Ok (length (sets_of after))) list_after
  gives_list {after} added e = record {
    turned = sets_of after;
    exact = record { rising = after.rising; exact = λ S. ((λ h. cross n given (sets_of before) none S (added.sound S h)), λ c. added.whole S ((whole_branch n given S).1 c)) };
    says = λ scratch. rw (e, le-ltb (length list) (length (sets_of after)) fits);
  }
    where
      fits : length (sets_of after) ≤ length list
      fits =
          let f = after.few in
          let r = added.room in
          omega (arith, length-take-le after.filled after.places.now f)

  -- there is more of it than places
  pub gives_too_many : Overfull (Holds given 0 (2 ^ n - 1)) before → GivesTurn n given list (Err TooMany) list
  gives_too_many over =
      let t = turn_exists n given in
      let longer : length over.sets ≤ length t.0 = rising_shorter over.sets t.0 over.rising t.1.rising (λ S h. (t.1.exact S).1 (cross n given (sets_of before) none S (over.sound S h))) in
      let more = over.more in
      record { turned = t.0; exact = t.1; says = λ scratch. rw (lt-ltb (length list) (length t.0) (omega arith)) }

-- ---- the checks before it

module _ (n : ℕ) (given list scratch : List ℕ) where
  -- one of them refuses: nothing is written
  pub turn_refused : (number : ℕ) → turn_refusal n given (length list) (length scratch) ≡ number → number ≢ 0
      → TurnGives n given list scratch (without_list number list scratch)
  turn_refused number e some =
      let p = (turns_exist n given list scratch).1 in
      subst (TurnGives n given list scratch) (p.says ∙ rw (e, ne_eqb number 0 some)) p
