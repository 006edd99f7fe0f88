-- The quotient of two whole numbers is their fraction.
use mathlib.Core.Path.{◌≡◌}
use Prim.Native.Nat.{ℕ}
use native.Mathlib.Nat.{mul-one, one-mul}
use Rattle.model.specs.Fraction.{whole, over}

pub over_whole : (a b : ℕ) → over (whole a) (whole b) ≡ record { top = a; bot = b }
unfolding over whole
over_whole a b = λ i. record { top = mul-one a i; bot = one-mul b i }
