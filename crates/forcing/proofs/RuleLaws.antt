-- Rules that lose no answer: one after another, at the end of a clause, and where a literal is denied.
use mathlib.Core.Path.{◌≡◌, refl, sym, ap, ◌∙◌, subst}
use mathlib.Core.Bool.{Bool, true, false, ◌||◌, true≢false, or-false, or_self}
use mathlib.Core.List.{List}
use Prim.Native.Nat.{ℕ, ◌-◌, ◌<◌}
use native.Mathlib.Nat.{le_refl, le_of_suc-le-suc}
use native.Mathlib.Omega.{arith}
use borrow.Author.Tests.{eqb-true, eqb-false, ltb-true, ltb-false}
use lib.Dec.{T, eqb, ltb, eqb→eq}
use lib.ListN.{get_or, set}
use Rattle.std.specs.Prelude.{Option, Some, None}
use Rattle.numbers.proofs.Deciding.{cond_case, bool_case}
use Rattle.setups.specs.Clauses.{wish}
use Rattle.setups.specs.Searching.{free_count, more, see_value}
use Rattle.setups.specs.declared.Seen.{Seen}
use Rattle.setups.specs.declared.Seen.TheVariants.{AllFalse, OneFree, Enough}
use Rattle.setups.proofs.Settling.{wish_small}
use Rattle.literals.specs.Slots.{slot, AllSet}
use Rattle.forcing.specs.Holding.{is_true}
use Rattle.forcing.specs.Values.{AgreesWith}
use Rattle.forcing.specs.Rules.{Keeps, KeepsAnswers, Sees, StillFree, EndsTrue}
use Rattle.forcing.specs.declared.forcing.Progress.{Progress}
use Rattle.forcing.proofs.ValueLaws.{free_set_le, free_set_lt, agrees_set}

-- ---- rules

-- no rule at all
pub keeps_still : {Answer : List ℕ → Type 0} {now : Progress} → Keeps Answer now now
keeps_still {now = now} = record {
  less = le_refl (free_count now.values);
  moves = λ f t. absurd (true≢false (sym t ∙ f));
  stays = λ m d a agrees. agrees;
}

-- a rule keeps the answers of a narrower kind too
pub answers_fewer : {A B : List ℕ → Type 0} (a : Progress) (r : Option Progress) → KeepsAnswers B a r → ((m : List ℕ) → A m → B m) → KeepsAnswers A a r
answers_fewer a (Some b) step still = record {
  less = step.less;
  moves = step.moves;
  stays = λ m d x agrees. step.stays m d (still m x) agrees;
}
answers_fewer a None none still = λ m d x agrees. none m d (still m x) agrees

-- one rule after another, where each answer of the first is one of the second
pub answers_then : {A B : List ℕ → Type 0} {a b : Progress} (r : Option Progress) → Keeps A a b → KeepsAnswers B b r
    → ((m : List ℕ) → AllSet m → A m → AgreesWith a.values m → B m) → KeepsAnswers A a r
answers_then {a = a} {b = b} (Some c) first second still = record {
  less = omega (arith, first.less, second.less);
  moves = moves;
  stays = λ m d x agrees. second.stays m d (still m d x agrees) (first.stays m d x agrees);
}
  where
    moves : a.moved ≡ false → c.moved ≡ true → free_count c.values < free_count a.values
    moves f t =
        bool_case (λ q. b.moved ≡ q → free_count c.values < free_count a.values) b.moved
        (λ e p. omega (arith, first.moves f p, second.less)) (λ e p. omega (arith, first.less, second.moves p t)) refl
answers_then None first none still = λ m d x agrees. none m d (still m d x agrees) (first.stays m d x agrees)

-- ---- a clause, a literal at a time

sees_free : (m : List ℕ) (seen : Seen) (b : ℕ) (t : Bool) → Sees m seen t → Sees m (more seen b) (t || is_true m b)
sees_free m AllFalse b t s = rw s
sees_free m (OneFree l) b t s =
    cond_case (λ (k : Seen). Sees m k (t || is_true m b)) (eqb l b) (λ e. rw (s, ← eqb-true l b e) (or_self (is_true m l))) (λ e. tt)
sees_free m Enough b t s = tt

-- what a clause so far says of an assignment that agrees with the values, it says with one literal more
pub sees_more : (values m : List ℕ) → AgreesWith values m → (seen : Seen) (b : ℕ) (t : Bool) → Sees m seen t
    → Sees m (see_value seen b (get_or values (slot b) 0)) (t || is_true m b)
sees_more values m agrees seen b t s =
    cond_case says (ltb 1 x) (λ e. sees_free m seen b t s) (λ set. cond_case says (eqb x (wish b)) (λ e. tt)
    (λ other. subst (Sees m seen) (sym (ap (λ (q : Bool). t || q) (ap (λ (y : ℕ). eqb y (wish b)) (same set) ∙ other) ∙ or-false t)) s))
  where
    x : ℕ
    x = get_or values (slot b) 0

    says : Seen → Type 0
    says k = Sees m k (t || is_true m b)

    same : ltb 1 x ≡ false → get_or m (slot b) 0 ≡ x
    same e = agrees (slot b) (let l = ltb-false 1 x e in omega arith)

fresh_free : (values : List ℕ) (seen : Seen) (b : ℕ) → 1 < get_or values (slot b) 0 → StillFree values seen → StillFree values (more seen b)
fresh_free values AllFalse b l f = l
fresh_free values (OneFree k) b l f = cond_case (StillFree values) (eqb k b) (λ e. f) (λ e. tt)
fresh_free values Enough b l f = tt

-- its one free literal is free
pub fresh_more : (values : List ℕ) (seen : Seen) (b : ℕ) → StillFree values seen → StillFree values (see_value seen b (get_or values (slot b) 0))
fresh_more values seen b f =
    cond_case (StillFree values) (ltb 1 (get_or values (slot b) 0)) (λ e. fresh_free values seen b (ltb-true 1 (get_or values (slot b) 0) e) f)
    (λ e. cond_case (StillFree values) (eqb (get_or values (slot b) 0) (wish b)) (λ q. tt) (λ q. f))

-- ---- the end of a clause that is due

module _ (now : Progress) (seen : Seen) where
  -- one free literal
  pub ends_one : (b : ℕ) → seen ≡ OneFree b → StillFree now.values seen
      → KeepsAnswers (λ m. EndsTrue m seen) now (Some (record { moved = true; values = set now.values (slot b) (wish b) }))
  ends_one b e f = record {
    less = free_set_le now.values (slot b) (wish b) (le_of_suc-le-suc (wish_small b));
    moves = λ _ _. free_set_lt now.values (slot b) (wish b) (subst (StillFree now.values) e f) (le_of_suc-le-suc (wish_small b));
    stays = λ m _ a agrees.
        let end = subst (EndsTrue m) e a in
        agrees_set now.values m (slot b) (wish b) agrees (eqb→eq (get_or m (slot b) 0) (wish b) (subst T end.1 end.2));
  }

-- ---- a literal that has to be false

module _ (now : Progress) (b : ℕ) where
  -- it is false or free
  pub denied : KeepsAnswers (λ m. is_true m b ≡ false) now
      (Some (record { moved = now.moved; values = set now.values (slot b) (1 - wish b) }))
  denied = record {
    less = free_set_le now.values (slot b) (1 - wish b) (omega arith);
    moves = λ f t. absurd (true≢false (sym t ∙ f));
    stays = λ m d a agrees.
        let other : get_or m (slot b) 0 ≡ 1 - wish b = omega (arith, d (slot b), eqb-false (get_or m (slot b) 0) (wish b) a, wish_small b) in
        agrees_set now.values m (slot b) (1 - wish b) agrees other;
  }
