-- Tests and decisions: what a passed test says, how to take a Bool apart, and what is decided over finitely many numbers.
use mathlib.Core.Path.{◌≡◌, refl, sym, ◌∙◌, subst}
use mathlib.Core.Logic.Dec
use mathlib.Core.Logic.{◌⊎◌, inl, inr, ◌↔◌, by_cases}
use mathlib.Core.Bool.{Bool, true, false, not, cond, true≢false, false≢true, ◌&&◌, ◌||◌}
use Prim.Native.Nat.{ℕ, zero, suc, ◌<◌}
use native.Mathlib.Nat.{not-suc-le-zero, le_refl}
use native.Mathlib.Decide.{dec_lt, map_dec}
use native.Mathlib.Omega.{arith}
use lib.Dec.{T, T_not, not_T}

-- ---- tests

-- of two tests that both pass the first passes
pub and_left : (a b : Bool) → T (a && b) → T a
and_left true b t = tt
and_left false b t = t

-- and so does the second
pub and_right : (a b : Bool) → T (a && b) → T b
and_right true b t = t
and_right false b t = absurd t

-- two tests pass together where each does
pub and_both : (a b : Bool) → T a → T b → T (a && b)
and_both true b s t = t
and_both false b s t = s

-- "a and b" says both
pub and_iff : (a b : Bool) → T (a && b) ↔ (T a × T b)
and_iff a b = ((λ t. (and_left a b t, and_right a b t)), λ h. and_both a b h.0 h.1)

-- "not b" says that b fails
pub not_iff : (b : Bool) → T (not b) ↔ (¬ T b)
not_iff b = (T_not b, not_T b)

-- one of two tests passes where the first does
pub or_left : (a b : Bool) → T a → T (a || b)
or_left true b t = tt
or_left false b t = absurd t

-- and where the second does
pub or_right : (a b : Bool) → T b → T (a || b)
or_right true b t = tt
or_right false b t = t

-- and nowhere else
pub or_cases : (a b : Bool) → T (a || b) → T a ⊎ T b
or_cases true b t = inl tt
or_cases false b t = inr t

-- where neither passes both fail
pub neither : (a b : Bool) → (a || b) ≡ false → (a ≡ false) × (b ≡ false)
neither true b e = absurd (true≢false e)
neither false b e = (refl, e)

-- "not a, or b" passes and a does: b does
pub implies_use : (a b : Bool) → T (not a || b) → T a → T b
implies_use true b t s = t
implies_use false b t s = absurd s

-- "not a, or b" passes where b passes whenever a does
pub implies_make : (a b : Bool) → (T a → T b) → T (not a || b)
implies_make true b f = f tt
implies_make false b f = tt

-- a test passes or it does not
pub T-dec : (b : Bool) → Dec (T b)
T-dec true = yes tt
T-dec false = no (λ t. t)

-- a test passes exactly where it equals true
pub T_true : (b : Bool) → T b ↔ (b ≡ true)
T_true true = ((λ t. refl), λ e. tt)
T_true false = ((λ t. absurd t), λ e. false≢true e)

-- and fails exactly where it equals false
pub T_false : (b : Bool) → (¬ T b) ↔ (b ≡ false)
T_false true = ((λ f. absurd (f tt)), λ e t. true≢false e)
T_false false = ((λ f. refl), λ e t. t)

-- two tests that pass alike are equal
pub T-equal : (a b : Bool) → T a ↔ T b → a ≡ b
T-equal true true e = refl
T-equal true false e = absurd (e.0 tt)
T-equal false true e = absurd (e.1 tt)
T-equal false false e = refl

-- where a test answers false, its fact fails
pub refuted : {A : Type 0} {answer : Bool} → ((answer ≡ true) ↔ A) → answer ≡ false → ¬ A
refuted says fails a = true≢false (sym (says.1 a) ∙ fails)

-- ---- a Bool that does not compute, taken apart: each case knows what the Bool is

pub bool_case : (P : Bool → Type 0) (b : Bool) → (b ≡ true → P true) → (b ≡ false → P false) → P b
bool_case P true f g = f refl
bool_case P false f g = g refl

-- the same for a choice that waits for it
pub cond_case : {A : Type 0} (P : A → Type 0) (b : Bool) {x y : A} → (b ≡ true → P x) → (b ≡ false → P y) → P (cond b x y)
cond_case P true f g = f refl
cond_case P false f g = g refl

-- ---- decisions

-- of two decided facts both together are decided
pub dec_and : {A B : Type 0} → Dec A → Dec B → Dec (A × B)
dec_and = Dec.and

-- the contrary of a decided fact is decided
pub dec_not : {A : Type 0} → Dec A → Dec (¬ A)
dec_not = Dec.not

-- a fact that holds where a decided one does is decided
pub dec_iff : {A B : Type 0} → (A → B) → (B → A) → Dec A → Dec B
dec_iff = map_dec

-- a decided fact that cannot fail holds
pub stable : {A : Type 0} → Dec A → ¬ ¬ A → A
stable d = (Dec.not-not d).0

-- some number below n has P, or none has
pub any : (n : ℕ) (P : ℕ → Type 0) → ((i : ℕ) → Dec (P i)) → Dec ((i : ℕ) × (i < n) × P i)
any zero P d = no (λ h. not-suc-le-zero h.1)
any (suc n) P d = step (any n P d) (d n)
  where
    step : Dec ((i : ℕ) × (i < n) × P i) → Dec (P n) → Dec ((i : ℕ) × (i < suc n) × P i)
    step (yes h) e = yes (h.0, omega (arith, h.1), h.2)
    step (no k) (yes p) = yes (n, le_refl (suc n), p)
    step (no k) (no q) =
        no (λ h. by_cases (dec_lt h.0 n) (λ l. k (h.0, l, h.2)) (λ g. q (subst P (let e : h.0 ≡ n = omega (arith, h.1) in e) h.2)))

-- ---- induction from the smaller numbers to the larger

pub strong : (P : ℕ → Type 0) → ((n : ℕ) → ((k : ℕ) → k < n → P k) → P n) → (n : ℕ) → P n
strong P step n = go (suc n) n (le_refl (suc n))
  where
    go : (f k : ℕ) → k < f → P k
    go zero k h = absurd (not-suc-le-zero h)
    go (suc f) k h = step k (λ j l. go f j (omega arith))
