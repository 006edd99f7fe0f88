-- A value by the sign that its bits show, and -1 less a value.
use mathlib.Core.Path.{◌≡◌, refl, ap, ◌∙◌}
use mathlib.Core.Bool.{true, false}
use Prim.Native.Nat.{ℕ, zero, suc, ◌+◌, ◌-◌, ◌≤◌, ◌<◌, ◌^◌}
use native.Mathlib.Nat.{zero-add}
use native.Mathlib.Omega.{arith}
use lib.IntN.{ℤ, pos, negsuc, ◌-ℤ◌}
use lib.Signed.{lt_z, mag}
use mir.Syntax.{Width}
use mir.Val.{hbits, SFits, to_z, of_z}
use mir.Facts.{to_z-of_z, to_z_pos}
use borrow.Author.Tests.{le-ltb}
use Rattle.model.specs.Bytes.{signed}

negative : (z : ℤ) → lt_z z (pos 0) ≡ true → z ≡ negsuc (mag z)
negative (pos n) t = cc (le-ltb n 0 (omega arith))
negative (negsuc n) t = refl

natural : (z : ℤ) → lt_z z (pos 0) ≡ false → z ≡ pos (mag z)
natural (pos n) t = refl
natural (negsuc n) t = cc

minus_one_minus : (n : ℕ) → negsuc 0 -ℤ negsuc n ≡ pos n
minus_one_minus n = rw (le-ltb (suc n) 1 (omega arith)) (ap pos (omega arith))

module _ {w : Width} {z : ℤ} (f : SFits w z) where
  pub below_zero : lt_z (to_z w (of_z w z)) (pos 0) ≡ true → z ≡ negsuc (mag z)
  below_zero t = negative z (rw (to_z-of_z f) at t)

  pub from_zero : lt_z (to_z w (of_z w z)) (pos 0) ≡ false → z ≡ pos (mag z)
  from_zero t = natural z (rw (to_z-of_z f) at t)

  -- -1 less it
  pub below_minus : lt_z (to_z w (of_z w z)) (pos 0) ≡ true → negsuc 0 -ℤ to_z w (of_z w z) ≡ pos (mag z)
  below_minus t = ap (λ (v : ℤ). negsuc 0 -ℤ v) (to_z-of_z f ∙ below_zero t) ∙ minus_one_minus (mag z)

minus_one : (n : ℕ) → negsuc 0 -ℤ pos n ≡ negsuc n
minus_one zero = refl
minus_one (suc n) = ap (λ (k : ℕ). negsuc (suc k)) (zero-add n)

-- -1 - k at a width w: it fits, and it is what two's complement makes of a number n in the upper half
module _ (w : Width) (k : ℕ) (f : k < 2 ^ hbits w) where
  pub below_fits : SFits w (negsuc 0 -ℤ to_z w k)
  below_fits = rw (to_z_pos w f, minus_one) (record { sfits = f })

  pub below_is : (h n : ℕ) → h ≤ n → h + h - suc n ≡ k → to_z w (of_z w (negsuc 0 -ℤ to_z w k)) ≡ signed h n
  below_is h n l e = rw (to_z_pos w f, minus_one, le-ltb n h l, e) (to_z-of_z {w = w} {z = negsuc k} (record { sfits = f }))
