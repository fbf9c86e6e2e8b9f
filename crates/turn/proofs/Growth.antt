-- The sets found as they grow, for any family of sets: by nothing, by one set, by the sets of a part, and by those of two parts.
use mathlib.Core.Path.{◌≡◌, refl, ◌∙◌}
use mathlib.Core.Logic.{◌⊎◌, inl, inr, ⊎_elim, ◌↔◌}
use Prim.Native.Nat.{ℕ}
use native.Mathlib.Omega.{arith}
use lib.Seq.{length-take-le}
use Rattle.std.specs.Prelude.{Result, Ok, Err}
use Rattle.setups.specs.declared.Refusal.{Refusal}
use Rattle.turn.specs.declared.gathered.Gathered.{Gathered}
use Rattle.turn.specs.Code.Growing.{placed, sets_of, Inserts, Ready, Added, Overfull, Grown}
use Rattle.turn.proofs.Placing.{placed_length, placed_listed, placed_rising}

module _ {Family : ℕ → Type 0} {before : Gathered} (ready : Ready Family before) where
  -- an empty family adds nothing
  pub added_none : ((S : ℕ) → ¬ Family S) → Added Family before before
  added_none none = record {
    room = refl;
    kept = λ S h. h;
    sound = λ S h. inl h;
    whole = λ S f. absurd (none S f);
  }

  -- a family of one set is put in its place, if one is left
  pub grown_one : {T : ℕ} (after : Gathered) (result : Result (Unit {0}) Refusal) → ((S : ℕ) → Family S ↔ (S ≡ T)) → Inserts T before after result
      → Grown Family before after result
  grown_one {T} after (Ok u) one put = record {
    room = put.room;
    kept = λ S h. rw put.sets ((placed_listed T (sets_of before) S).1 (inr h));
    sound = λ S h. ⊎_elim (λ k. inr ((one S).1 k)) inl ((placed_listed T (sets_of before) S).0 (rw put.sets at h));
    whole = λ S f. rw put.sets ((placed_listed T (sets_of before) S).1 (inl ((one S).0 f)));
  }
  grown_one {T} after (Err refusal) one put = (
    put.0,
    record {
      sets = placed T (sets_of before);
      rising = placed_rising T (sets_of before) before.rising (λ h. ready.fresh T h ((one T).1 refl));
      sound = λ S h. ⊎_elim (λ k. inr ((one S).1 k)) inl ((placed_listed T (sets_of before) S).0 h);
      more = let f = before.few in omega (arith, placed_length T (sets_of before), length-take-le before.filled before.places.now f, put.1);
    },
  )

  module _ {First : ℕ → Type 0} (inside : (S : ℕ) → First S → Family S) where
    -- what is ready for a family is ready for a part of it
    pub ready_first : Ready First before
    ready_first = record { fresh = λ S h f. ready.fresh S h (inside S f) }

    -- if that part is too much, so is the family
    pub over_first : Overfull First before → Overfull Family before
    over_first over = record { sets = over.sets; rising = over.rising; sound = λ S h. ⊎_elim inl (λ f. inr (inside S f)) (over.sound S h); more = over.more }

    module _ {middle : Gathered} (first : Added First before middle) where
      -- with that part the family is added, if it has nothing else
      pub added_first : ((S : ℕ) → Family S → First S) → Added Family before middle
      added_first all = record {
        room = first.room;
        kept = first.kept;
        sound = λ S h. ⊎_elim inl (λ f. inr (inside S f)) (first.sound S h);
        whole = λ S f. first.whole S (all S f);
      }

      module _ {Second : ℕ → Type 0} (inside_too : (S : ℕ) → Second S → Family S) where
        -- it is then ready for another part that has nothing in common with the first
        pub ready_second : ((S : ℕ) → First S → ¬ Second S) → Ready Second middle
        ready_second apart = record { fresh = λ S h s. ⊎_elim (λ k. ready.fresh S k (inside_too S s)) (λ f. apart S f s) (first.sound S h) }

        -- with both the family is added, if it has nothing else
        pub grown_both : (after : Gathered) (result : Result (Unit {0}) Refusal) → Grown Second middle after result → ((S : ℕ) → Family S → First S ⊎ Second S)
            → Grown Family before after result
        grown_both after (Ok u) second all = record {
          room = second.room ∙ first.room;
          kept = λ S h. second.kept S (first.kept S h);
          sound = λ S h. ⊎_elim (λ k. ⊎_elim inl (λ f. inr (inside S f)) (first.sound S k)) (λ s. inr (inside_too S s)) (second.sound S h);
          whole = λ S f. ⊎_elim (λ p. second.kept S (first.whole S p)) (second.whole S) (all S f);
        }
        grown_both after (Err refusal) second all = (
          second.0,
          record {
            sets = second.1.sets;
            rising = second.1.rising;
            sound = λ S h. ⊎_elim (λ k. ⊎_elim inl (λ f. inr (inside S f)) (first.sound S k)) (λ s. inr (inside_too S s)) (second.1.sound S h);
            more = let r = first.room in let m = second.1.more in omega arith;
          },
        )
