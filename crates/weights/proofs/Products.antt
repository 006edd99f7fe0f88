-- Products of two neighbours' offsets and distances: how large they are, how they are worked out with a sign, and |1 - cos| in either order.
use mathlib.Core.Path.{◌≡◌, ap₂, ◌∙◌}
use Prim.Native.Nat.{ℕ, ◌*◌, ◌≤◌, ◌<◌, ◌^◌}
use native.Mathlib.Nat.{mul-le-mul, mul_comm, le_of_lt}
use native.Mathlib.Omega.{arith}
use lib.IntN.{ℤ, pos, nat_abs, ◌+ℤ◌, ◌-ℤ◌, ◌*ℤ◌, *ℤ_comm}
use lib.Ieee.{binary64, div}
use mir.Syntax.{w16, w64}
use mir.Val.{SFits, to_z, of_z}
use mir.Facts.{to_z-of_z, to_z_pos}
use Rattle.model.specs.Computed.{float}
use Rattle.laws.proofs.IntLaws.{mag_abs}
use Rattle.laws.proofs.InnerLaws.{product_size, inner_size, scaled_size, excess_size}
use Rattle.neighbours.specs.declared.Neighbour.{Neighbour}
use Rattle.weights.specs.Seen.{inner_between, excess_between, cosine_gap, Small}

-- a number whose size is below 2⁶² has 64 bits with a sign
pub fits_size : (z : ℤ) → nat_abs z ≤ 2 ^ 62 → SFits w64 z
fits_size z h = record { sfits = omega (arith, mag_abs z) }

-- an offset has 64 bits as well
pub wider : (z : ℤ) → SFits w16 z → SFits w64 z
wider z f = record { sfits = omega (arith, f.sfits) }

-- an offset as a call is handed it
pub handed : (z : ℤ) → nat_abs z < 2 ^ 15 → to_z w16 (of_z w16 z) ≡ z
handed z h = to_z-of_z {w = w16} (record { sfits = omega (arith, mag_abs z) })

pub product_handed : {r : ℤ} (z w : ℤ) → nat_abs z < 2 ^ 15 → nat_abs w < 2 ^ 15 → r ≡ to_z w16 (of_z w16 z) *ℤ to_z w16 (of_z w16 w) → r ≡ z *ℤ w
product_handed z w h k e = e ∙ ap₂ ◌*ℤ◌ (handed z h) (handed w k)

-- a number as 64 bits with a sign hold it
pub kept : (z : ℤ) → nat_abs z ≤ 2 ^ 62 → to_z w64 (of_z w64 z) ≡ z
kept z h = to_z-of_z (fits_size z h)

module _ (a b : Neighbour) (A : Small a) (B : Small b) where
  -- the sizes of the products
  x_size : nat_abs (a.dx *ℤ b.dx) ≤ 2 ^ 30
  x_size = product_size a.dx b.dx (le_of_lt A.dx) (le_of_lt B.dx)

  y_size : nat_abs (a.dy *ℤ b.dy) ≤ 2 ^ 30
  y_size = product_size a.dy b.dy (le_of_lt A.dy) (le_of_lt B.dy)

  pub inner_most : nat_abs (inner_between a b) ≤ 2 ^ 31
  inner_most = inner_size a.dx a.dy b.dx b.dy (le_of_lt A.dx) (le_of_lt A.dy) (le_of_lt B.dx) (le_of_lt B.dy)

  pub scaled_most : nat_abs (pos 65536 *ℤ inner_between a b) ≤ 2 ^ 47
  scaled_most = scaled_size a.dx a.dy b.dx b.dy (le_of_lt A.dx) (le_of_lt A.dy) (le_of_lt B.dx) (le_of_lt B.dy)

  pub excess_most : nat_abs (pos (a.distance * b.distance) -ℤ (pos 65536 *ℤ inner_between a b)) ≤ 2 ^ 53
  excess_most = excess_size a.dx a.dy b.dx b.dy (le_of_lt A.dx) (le_of_lt A.dy) (le_of_lt B.dx) (le_of_lt B.dy) a.distance b.distance A.distance B.distance

  -- the sum and the difference as 64 bits work them out
  pub sum_is : (u v : ℤ) → u ≡ a.dx *ℤ b.dx → v ≡ a.dy *ℤ b.dy → to_z w64 (of_z w64 u) +ℤ to_z w64 (of_z w64 v) ≡ inner_between a b
  sum_is u v e f = rw (e, f) (ap₂ ◌+ℤ◌ (kept (a.dx *ℤ b.dx) (omega (arith, x_size))) (kept (a.dy *ℤ b.dy) (omega (arith, y_size))))

  pub scaled_is : (g : ℤ) → g ≡ inner_between a b → pos 65536 *ℤ to_z w64 (of_z w64 g) ≡ pos 65536 *ℤ inner_between a b
  scaled_is g e = rw (e, kept (inner_between a b) (omega (arith, inner_most)))

  pub difference_is : (m : ℕ) (g : ℤ) → m ≡ a.distance * b.distance → g ≡ inner_between a b
      → to_z w64 m -ℤ to_z w64 (of_z w64 (pos 65536 *ℤ to_z w64 (of_z w64 g))) ≡ pos (a.distance * b.distance) -ℤ (pos 65536 *ℤ inner_between a b)
  difference_is m g e f =
      let l : a.distance * b.distance < 9223372036854775808 = omega (arith, mul-le-mul A.distance B.distance) in
      rw (e, scaled_is g f, to_z_pos w64 l, kept (pos 65536 *ℤ inner_between a b) (omega (arith, scaled_most)))

  pub excess_is : (m : ℕ) (g : ℤ) → m ≡ a.distance * b.distance → g ≡ inner_between a b
      → nat_abs (to_z w64 (of_z w64 (to_z w64 m -ℤ to_z w64 (of_z w64 (pos 65536 *ℤ to_z w64 (of_z w64 g)))))) ≡ excess_between a b
  unfolding excess_between
  excess_is m g e f =
      rw (difference_is m g e f, kept (pos (a.distance * b.distance) -ℤ (pos 65536 *ℤ inner_between a b)) (omega (arith, excess_most)))

inner_comm : (a b : Neighbour) → inner_between a b ≡ inner_between b a
inner_comm a b = ap₂ ◌+ℤ◌ (*ℤ_comm a.dx b.dx) (*ℤ_comm a.dy b.dy)

module _ (a b : Neighbour) where
  excess_comm : excess_between a b ≡ excess_between b a
  unfolding excess_between
  excess_comm = ap₂ (λ m z. nat_abs (pos m -ℤ (pos 65536 *ℤ z))) (mul_comm a.distance b.distance) (inner_comm a b)

  pub cosine_gap_comm : cosine_gap a b ≡ cosine_gap b a
  unfolding cosine_gap
  cosine_gap_comm = ap₂ (λ m n. div binary64 (float m) (float n)) excess_comm (mul_comm a.distance b.distance)
