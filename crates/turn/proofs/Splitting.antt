-- How a branch parts in two: one of the settings that it turns on is taken, or it is left; and how the sets found grow by the two parts.
use mathlib.Core.Path.{◌≡◌, sym, subst}
use mathlib.Core.Logic.{◌⊎◌, inl, inr, ⊎_elim, ◌≢◌, by_cases}
use mathlib.Core.List.{List}
use Prim.Native.Nat.{ℕ, ◌<◌}
use native.Mathlib.Omega.{arith}
use Rattle.sets.specs.Sets.{In, Share, Joins, Leaves}
use Rattle.sets.proofs.Digits.{in_dec, none_in, within_le}
use Rattle.std.specs.Prelude.{Result}
use Rattle.setups.specs.declared.Refusal.{Refusal}
use Rattle.turn.specs.declared.gathered.Gathered.{Gathered}
use Rattle.turn.specs.Code.Branches.{Holds, TurnsOn}
use Rattle.turn.specs.Code.Growing.{Ready, Added, Overfull, Grown}
use Rattle.turn.proofs.Growth.{ready_first, over_first, added_first, ready_second, grown_both}

-- the branch turns on `wanted`, and `one` is the set of one of these settings: with it the taken ones are `more`, without it the ones
-- left are `less`
pub record Parts (members : List ℕ) (taken left wanted one more less : ℕ) : Type 0 where
  pub turns : TurnsOn members taken left wanted
  pub chosen : Share wanted one
  pub lone : (i j : ℕ) → In i one → In j one → i ≡ j
  pub joins : Joins taken one more
  pub leaves : Leaves left one less

module _ {members : List ℕ} {taken left wanted one more less : ℕ} (parts : Parts members taken left wanted one more less) where
  -- the place of that setting
  place : ℕ
  place = parts.chosen.0

  among : In place wanted
  unfolding place
  among = parts.chosen.1

  in_one : In place one
  unfolding place
  in_one = parts.chosen.2

  -- fewer settings are left
  pub fewer_left : less < left
  fewer_left =
      let out : ¬ In place less = λ h. ((parts.leaves place).0 h).1 in_one in
      let ne : less ≢ left = λ e. out (subst (λ (x : ℕ). In place x) (sym e) (parts.turns.among place among)) in
      omega (arith, within_le less left (λ j h. ((parts.leaves j).0 h).0))

  -- ---- the two parts

  -- the first: each set of the branch with that setting taken has it, and is one of the whole
  take_has : (S : ℕ) → Holds members more less S → In place S
  take_has S b = b.has place ((parts.joins place).1 (inr in_one))

  take_in : (S : ℕ) → Holds members more less S → Holds members taken left S
  take_in S b = record { smallest = b.smallest; has = λ j h. b.has j ((parts.joins j).1 (inl h)); rest = from }
    where
      from : (j : ℕ) → In j S → In j taken ⊎ In j left
      from j h =
          ⊎_elim (λ m. ⊎_elim inl (λ o. inr (rw (parts.lone j place o in_one) (parts.turns.among place among))) ((parts.joins j).0 m))
          (λ l. inr ((parts.leaves j).0 l).0) (b.rest j h)

  -- the second: each set of the branch with that setting left lacks it, and is one of the whole
  leave_lacks : (S : ℕ) → Holds members taken less S → ¬ In place S
  leave_lacks S b h = ⊎_elim (parts.turns.apart place among) (λ l. ((parts.leaves place).0 l).1 in_one) (b.rest place h)

  leave_in : (S : ℕ) → Holds members taken less S → Holds members taken left S
  leave_in S b = record { smallest = b.smallest; has = b.has; rest = λ j h. ⊎_elim inl (λ l. inr ((parts.leaves j).0 l).0) (b.rest j h) }

  -- they have nothing in common, and there is nothing else
  take_leave : (S : ℕ) → Holds members more less S → ¬ Holds members taken less S
  take_leave S b d = leave_lacks S d (take_has S b)

  take_or_leave : (S : ℕ) → Holds members taken left S → Holds members more less S ⊎ Holds members taken less S
  take_or_leave S b = by_cases (in_dec place S) (λ h. inl (takes h)) (λ q. inr (lacks q))
    where
      takes : In place S → Holds members more less S
      takes h = record { smallest = b.smallest; has = has; rest = rest }
        where
          has : (j : ℕ) → In j more → In j S
          has j m = ⊎_elim (b.has j) (λ o. rw (parts.lone j place o in_one) h) ((parts.joins j).0 m)

          rest : (j : ℕ) → In j S → In j more ⊎ In j less
          rest j k =
              by_cases (in_dec j one) (λ o. inl ((parts.joins j).1 (inr o)))
              (λ q. ⊎_elim (λ t. inl ((parts.joins j).1 (inl t))) (λ l. inr ((parts.leaves j).1 (l, q))) (b.rest j k))

      lacks : ¬ In place S → Holds members taken less S
      lacks q = record { smallest = b.smallest; has = b.has; rest = rest }
        where
          rest : (j : ℕ) → In j S → In j taken ⊎ In j less
          rest j k = ⊎_elim inl (λ l. inr ((parts.leaves j).1 (l, λ o. q (rw (parts.lone j place o in_one) at k)))) (b.rest j k)

  -- ---- what the second turns on

  module _ (still : ℕ) (drops : Leaves wanted one still) where
    others : (S : ℕ) → Holds members taken less S → Share S still
    others S b = go (parts.turns.each S (leave_in S b))
      where
        go : Share S wanted → Share S still
        go s = (s.0, s.1, (drops s.0).1 (s.2, λ o. leave_lacks S b (rw (parts.lone s.0 place o in_one) at s.1)))

    -- on what is still wanted
    pub leave_turns : still ≢ 0 → TurnsOn members taken less still
    leave_turns some = record {
      some = some;
      among = λ j h. let d = (drops j).0 h in (parts.leaves j).1 (parts.turns.among j d.0, d.1);
      apart = λ j h. parts.turns.apart j ((drops j).0 h).0;
      each = others;
    }

    -- it is empty where nothing is
    leave_empty : still ≡ 0 → (S : ℕ) → ¬ Holds members taken less S
    leave_empty e S b = go (others S b)
      where
        go : ¬ Share S still
        go s = none_in s.0 (rw e at s.2)

  -- ---- the sets found

  module _ {before : Gathered} (ready : Ready (Holds members taken left) before) where
    -- those found before are ready for the first part
    pub take_ready : Ready (Holds members more less) before
    take_ready = ready_first ready take_in

    -- the first part alone is too much
    pub take_over : Overfull (Holds members more less) before → Overfull (Holds members taken left) before
    take_over = over_first ready take_in

    module _ {middle : Gathered} (first : Added (Holds members more less) before middle) where
      -- the second part is empty
      pub take_last : (still : ℕ) → Leaves wanted one still → still ≡ 0 → Added (Holds members taken left) before middle
      take_last still drops e =
          added_first ready take_in first (λ S b. ⊎_elim (λ p. p) (λ d. absurd (leave_empty still drops e S d)) (take_or_leave S b))

      -- it is ready for the second part, and then has both
      pub leave_ready : Ready (Holds members taken less) middle
      leave_ready = ready_second ready take_in first leave_in take_leave

      pub take_and_leave : (after : Gathered) (result : Result (Unit {0}) Refusal) → Grown (Holds members taken less) middle after result
          → Grown (Holds members taken left) before after result
      take_and_leave after result second = grown_both ready take_in first leave_in after result second take_or_leave
