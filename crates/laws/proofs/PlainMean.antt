-- Where every chosen point is at the edge, the mean is the plain mean of their values.
use mathlib.Core.Path.{◌≡◌, refl}
use Prim.Native.Nat.{ℕ, zero, suc}
use native.Mathlib.Nat.{mul-one, one-mul}
use native.Mathlib.Numerals.{add-one}
use mathlib.Core.Bool.{true}
use lib.IntN.{ℤ, pos, ◌+ℤ◌, *ℤ_comm}
use Rattle.model.specs.Fraction.{Fraction, whole, sum, times_z, sum_z}
use Rattle.model.specs.Weight.{Neighbourhood, all_edge, weight}
use Rattle.model.specs.Mean.{weighted_mean}
use Rattle.laws.proofs.IntLaws.{times_one}

-- the sum of the first n values
unfoldable pub value_sum : Neighbourhood → ℕ → ℤ
value_sum h zero = pos 0
value_sum h (suc n) = value_sum h n +ℤ h.value n

module _ (w : ℕ → Fraction) (each : (i : ℕ) → w i ≡ whole 1) where
  sum_ones : (n : ℕ) → sum w n ≡ record { top = n; bot = 1 }
  unfolding sum
  sum_ones zero = refl
  sum_ones (suc n) = rw (sum_ones n, each n, mul-one n, add-one)

  sum_values : (h : Neighbourhood) (n : ℕ) → sum_z (λ i. times_z (w i) (h.value i)) n ≡ record { top = value_sum h n; bot = 1 }
  unfolding sum_z times_z whole value_sum
  sum_values h zero = refl
  sum_values h (suc n) = rw (sum_values h n, each n, *ℤ_comm (pos 1) (h.value n)) (simp times_one)

pub plain_mean : (h : Neighbourhood) → all_edge h.influence h.count ≡ true → weighted_mean h ≡ record { top = value_sum h h.count; bot = h.count }
unfolding weighted_mean
plain_mean h e = rw (sum_values (weight h) ones h h.count, sum_ones (weight h) ones h.count, times_one, one-mul)
  where
    ones : (i : ℕ) → weight h i ≡ whole 1
    ones i = rw e
