-- What tests joined by `||` and `cond` tell of their parts, what holds of a `cond`, and of every number below the next.
use mathlib.Core.Path.{◌≡◌, refl, sym, subst}
use Prim.Native.Nat.{ℕ, suc, ◌+◌, ◌<◌}
use native.Mathlib.Nat.{eq-or-lt_of_le}
use native.Mathlib.Omega.{arith}
use mathlib.Core.Logic.{⊎_elim}
use mathlib.Core.Bool.{Bool, true, false, cond, ◌||◌}

pub or_true : (a b : Bool) → b ≡ true → a || b ≡ true
or_true true b h = refl
or_true false b h = h

pub or_false : (a b : Bool) → a || b ≡ false → (a ≡ false) × (b ≡ false)
or_false true b h = (h, cc)
or_false false b h = (refl, h)

-- what holds of each branch where it is taken
pub cond_cases : {A : Type 0} (P : A → Type 0) (t : Bool) {a b : A} → (t ≡ true → P a) → (t ≡ false → P b) → P (cond t a b)
cond_cases P true f g = f refl
cond_cases P false f g = g refl

-- a check that finds nothing has passed, and so have those that follow
pub cond_zero : (t : Bool) (k n : ℕ) → cond t (suc k) n ≡ 0 → (t ≡ false) × (n ≡ 0)
cond_zero true k n h = absurd (omega arith)
cond_zero false k n h = (refl, h)

pub cond_sound : (t : Bool) (k n : ℕ) → cond t n (suc k) ≡ 0 → (t ≡ true) × (n ≡ 0)
cond_sound true k n h = (refl, h)
cond_sound false k n h = absurd (omega arith)

-- what holds of every number below n, and of n
pub below_more : (P : ℕ → Type 0) (n : ℕ) → ((i : ℕ) → i < n → P i) → P n → (i : ℕ) → i < n + 1 → P i
below_more P n h p i l =
    ⊎_elim
    (λ (e : i ≡ n). subst P (sym e) p)
    (λ (k : i < n). h i k)
    (eq-or-lt_of_le {n = i} {m = n} (omega arith))
