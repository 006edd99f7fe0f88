-- `radius_of` meets its contract. The quotient is below 2^50, since its divisor is at least 710.
use Prim.Native.Nat.{ℕ, ◌*◌, ◌/◌, ◌^◌, ◌<◌}
use native.Mathlib.Nat.{div-lt_iff_lt-mul}
use native.Mathlib.Omega.{arith}
use Rattle.model.specs.Radius.{radius_of}
use Rattle.root.proofs.radius.radius_of.Goals as goal

small : (a b : ℕ) → 0 < b → a < 2 ^ 50 * b → a / b < 2 ^ 50
small a b pos h = (div-lt_iff_lt-mul pos).1 h

pub root_of-requires : goal.root_of-requires
root_of-requires c = small _ _ (omega arith) (omega arith)

pub returns : goal.returns
unfolding radius_of
returns c = c.root_of.ensures
