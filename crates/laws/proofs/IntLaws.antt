-- Signed numbers times natural ones, and the size of a difference and of a product.
use mathlib.Core.Path.{◌≡◌, refl}
use Prim.Native.Nat.{ℕ, zero, suc, ◌+◌, ◌-◌, ◌*◌, ◌≤◌}
use native.Mathlib.Nat.{mul_assoc, mul-one, zero-mul}
use native.Mathlib.Omega.{arith}
use mathlib.Core.Bool.{Bool, true, false, cond}
use lib.Dec.{ltb}
use lib.IntN.{ℤ, pos, negsuc, neg_ℤ, nat_abs, ◌-ℤ◌, ◌*ℤ◌}
use lib.Signed.{mag}
use borrow.Author.Tests.{ltb-true, ltb-false}
use Rattle.model.specs.Distance.{gap}

pub neg_times : (m n : ℕ) → neg_ℤ (pos m) *ℤ pos n ≡ neg_ℤ (pos (m * n))
neg_times zero n = rw zero-mul
neg_times (suc m) n = refl

pub times_times : (z : ℤ) (m n : ℕ) → z *ℤ pos m *ℤ pos n ≡ z *ℤ pos (m * n)
times_times (pos k) m n = rw mul_assoc
times_times (negsuc k) m n = rw (neg_times, mul_assoc)

pub abs_neg : (z : ℤ) → nat_abs (neg_ℤ z) ≡ nat_abs z
abs_neg (pos zero) = refl
abs_neg (pos (suc n)) = refl
abs_neg (negsuc n) = refl

pub abs_minus : (m n : ℕ) → nat_abs (pos m -ℤ pos n) ≡ gap m n
abs_minus m zero = omega arith
abs_minus m (suc n) = go (ltb m (suc n)) refl
  where
    go : (t : Bool) → ltb m (suc n) ≡ t → nat_abs (cond t (negsuc (suc n - suc m)) (pos (m - suc n))) ≡ gap m (suc n)
    go true e = omega (arith, ltb-true m (suc n) e)
    go false e = omega (arith, ltb-false m (suc n) e)

pub abs_plus : (m n : ℕ) → nat_abs (neg_ℤ (pos m) -ℤ pos n) ≡ m + n
abs_plus zero n = omega (arith, abs_minus 0 n)
abs_plus (suc m) zero = omega (arith, abs_minus 0 (suc m))
abs_plus (suc m) (suc n) = omega arith

pub times_one : (z : ℤ) → z *ℤ pos 1 ≡ z
times_one (pos k) = rw mul-one
times_one (negsuc k) = rw mul-one

pub mag_abs : (z : ℤ) → mag z ≤ nat_abs z
mag_abs (pos n) = omega arith
mag_abs (negsuc n) = omega arith

pub abs_times : (z w : ℤ) → nat_abs (z *ℤ w) ≡ nat_abs z * nat_abs w
abs_times (pos m) (pos n) = refl
abs_times (pos m) (negsuc n) = abs_neg (pos (m * suc n))
abs_times (negsuc m) (pos n) = abs_neg (pos (suc m * n))
abs_times (negsuc m) (negsuc n) = refl
