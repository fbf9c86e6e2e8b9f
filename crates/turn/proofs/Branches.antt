-- The branches of Turn's search: which are empty, which hold the taken settings alone, and what the others turn on.
use mathlib.Core.Path.{◌≡◌, refl, sym, subst}
use mathlib.Core.Logic.{inl, ⊎_elim, ◌≢◌, ◌↔◌}
use mathlib.Core.List.{List}
use Prim.Native.Nat.{ℕ, ◌-◌, ◌^◌}
use native.Mathlib.Decide.{ℕ_discrete}
use Rattle.sets.specs.Sets.{In, Within, Share}
use Rattle.numbers.proofs.Deciding.{stable}
use Rattle.sets.proofs.Digits.{none_in, within_self, missing, share_dec, out_in, out_within}
use Rattle.members.specs.Members.{Hits, Alone, Own, Waits}
use Rattle.turn.specs.Code.Branches.{Holds, TurnsOn}

module _ {members : List ℕ} {taken left : ℕ} where
  -- ---- empty branches

  -- a taken setting has no member of its own: each set of the branch could do without it
  not_own : (i : ℕ) → In i taken → ¬ Own members taken i → (S : ℕ) → ¬ Holds members taken left S
  not_own i t q S b = b.smallest.1 (S - 2 ^ i) (out_within i S h) (λ e. ((out_in i S i h).0 (rw e h)).1 refl) each
    where
      h : In i S
      h = b.has i t

      -- a member that is hit without it stays hit; one that is not would be its own
      each : Hits members (S - 2 ^ i)
      each M l = stable (share_dec (S - 2 ^ i) M) (λ p. q (M, l, own p))
        where
          only : ¬ Share (S - 2 ^ i) M → (j : ℕ) → In j M → In j S → j ≡ i
          only p j m s = stable (ℕ_discrete j i) (λ ne. p (j, (out_in i S j h).1 (s, ne), m))

          own : ¬ Share (S - 2 ^ i) M → Alone M taken i
          own p =
              let hit = b.smallest.0 M l in
              record {
                member = rw (only p hit.0 hit.2 hit.1) at hit.2;
                taken = t;
                only = λ j m s. only p j m (b.has j s);
              }

  -- so the branch is empty where the settings with a member of their own are not the taken ones
  pub own_empty : (own : ℕ) → ((i : ℕ) → In i own ↔ Own members taken i) → own ≢ taken → (S : ℕ) → ¬ Holds members taken left S
  own_empty own says ne =
      let lack = missing own taken (λ i h. ((says i).0 h).2.taken) ne in
      not_own lack.0 lack.1 (λ o. lack.2 ((says lack.0).1 o))

  -- a member can't be hit any more
  pub lost_empty : (M : ℕ) × Waits members taken left M 0 → (S : ℕ) → ¬ Holds members taken left S
  lost_empty lost S b =
      let M = lost.0 in
      let waits = lost.1 in
      let hit = b.smallest.0 M waits.listed in
      ⊎_elim (λ t. waits.unhit (hit.0, t, hit.2)) (λ l. none_in hit.0 ((waits.common hit.0).1 (hit.2, l))) (b.rest hit.0 hit.1)

  -- ---- a branch of one set

  -- every member is hit, and every taken setting has a member of its own: the taken settings are the one set of the branch
  pub hit_one : (own : ℕ) → ((i : ℕ) → In i own ↔ Own members taken i) → own ≡ taken → Hits members taken → (S : ℕ) → Holds members taken left S ↔ (S ≡ taken)
  hit_one own says e hits S = (to, λ k. subst (Holds members taken left) (sym k) itself)
    where
      to : Holds members taken left S → S ≡ taken
      to b = stable (ℕ_discrete S taken) (λ ne. b.smallest.1 taken b.has (λ k. ne (sym k)) hits)

      less : (R : ℕ) → Within R taken → R ≢ taken → ¬ Hits members R
      less R w ne h =
          let lack = missing R taken w ne in
          let o = (says lack.0).0 (rw e lack.1) in
          let s = h o.0 o.1 in
          lack.2 (rw (o.2.only s.0 s.2 (w s.0 s.1)) at s.1)

      itself : Holds members taken left taken
      itself = record { smallest = (hits, less); has = within_self taken; rest = λ i h. inl h }

  -- ---- a branch that turns on some settings

  -- those that a member wants
  pub wants_turns : {wanted : ℕ} → wanted ≢ 0 → (M : ℕ) × Waits members taken left M wanted → TurnsOn members taken left wanted
  wants_turns some w =
      let M = w.0 in
      let waits = w.1 in
      record {
        some = some;
        among = λ i h. ((waits.common i).0 h).1;
        apart = λ i h t. waits.unhit (i, t, ((waits.common i).0 h).0);
        each = λ S b.
            let hit = b.smallest.0 M waits.listed in
            ⊎_elim (λ t. absurd (waits.unhit (hit.0, t, hit.2))) (λ l. (hit.0, hit.1, (waits.common hit.0).1 (hit.2, l)))
            (b.rest hit.0 hit.1);
      }
