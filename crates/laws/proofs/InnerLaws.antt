-- How large the inner product g of two offsets is, and |D D' - 65,536 g|: offsets are at most 2¹⁵ and distances at most 2²⁴.
use Prim.Native.Nat.{ℕ, ◌*◌, ◌^◌, ◌≤◌, ◌<◌}
use native.Mathlib.Nat.{mul-le-mul, le_of_lt}
use native.Mathlib.Omega.{arith}
use lib.IntN.{ℤ, pos, neg_ℤ, nat_abs, ◌+ℤ◌, ◌-ℤ◌, ◌*ℤ◌}
use Rattle.model.specs.Point.{Location, Point, State}
use Rattle.model.specs.Distance.{distance, offset_x, offset_y, inner}
use Rattle.model.specs.Weight.{excess_of}
use Rattle.laws.proofs.IntLaws.{abs_minus, abs_neg, abs_times}
use Rattle.laws.proofs.DiffLaws.{abs_sum}

pub product_size : (z w : ℤ) → nat_abs z ≤ 2 ^ 15 → nat_abs w ≤ 2 ^ 15 → nat_abs (z *ℤ w) ≤ 2 ^ 30
product_size z w h k = omega (arith, abs_times z w, mul-le-mul h k)

-- two offsets, (t, u) and (v, w)
module _ (t u v w : ℤ) (ht : nat_abs t ≤ 2 ^ 15) (hu : nat_abs u ≤ 2 ^ 15) (hv : nat_abs v ≤ 2 ^ 15) (hw : nat_abs w ≤ 2 ^ 15) where
  abbrev g : ℤ
  g = (t *ℤ v) +ℤ (u *ℤ w)

  pub inner_size : nat_abs g ≤ 2 ^ 31
  inner_size = omega (arith, abs_sum (t *ℤ v) (u *ℤ w), product_size t v ht hv, product_size u w hu hw)

  pub scaled_size : nat_abs (pos 65536 *ℤ g) ≤ 2 ^ 47
  scaled_size = omega (arith, abs_times (pos 65536) g, inner_size)

  -- whole and at most 2⁵³, so that a float holds it exactly
  pub excess_size : (d e : ℕ) → d ≤ 2 ^ 24 → e ≤ 2 ^ 24 → nat_abs (pos (d * e) -ℤ (pos 65536 *ℤ g)) ≤ 2 ^ 53
  excess_size d e h k = omega (arith, abs_sum (pos (d * e)) (neg_ℤ (pos 65536 *ℤ g)), abs_neg (pos 65536 *ℤ g), scaled_size, mul-le-mul h k)

abbrev InDomain : ℕ → ℕ → Type 0
InDomain x y = (x < 4096) × (y < 4096)

difference_size : (m n : ℕ) → m < 4096 → n < 4096 → nat_abs (pos m -ℤ pos n) < 2 ^ 15
difference_size m n h k = omega (arith, abs_minus m n)

module _ (s : State) (p : Location) (P : InDomain p.x p.y) where
  pub offset_x_most : (a : Point) → InDomain a.x a.y → nat_abs (offset_x s p a) < 2 ^ 15
  unfolding offset_x
  offset_x_most a A = difference_size a.x p.x A.0 P.0

  pub offset_y_most : (a : Point) → InDomain a.x a.y → nat_abs (offset_y s p a) < 2 ^ 15
  unfolding offset_y
  offset_y_most a A = difference_size a.y p.y A.1 P.1

  pub excess_most : (a b : Point) → InDomain a.x a.y → InDomain b.x b.y → distance s p a ≤ 2 ^ 24 → distance s p b ≤ 2 ^ 24 → excess_of s p a b ≤ 2 ^ 53
  unfolding excess_of inner
  excess_most a b A B c d =
      excess_size (offset_x s p a) (offset_y s p a) (offset_x s p b) (offset_y s p b) (le_of_lt (offset_x_most a A)) (le_of_lt (offset_y_most a A)) (le_of_lt (offset_x_most b B)) (le_of_lt (offset_y_most b B))
      (distance s p a) (distance s p b) c d
