-- The invariant: the first i elements are what the factors, the terms and the total make.
use mathlib.Core.Path.{◌≡◌}
use Prim.Native.Nat.{ℕ, ◌<◌}
use lib.ListN.{get_or, length}
use lib.Ieee.{nan}
use Rattle.model.specs.Computed.{product_f}
use Rattle.weights.proofs.directional.weights_apart.Given as goal

abbrev pub invariant-loop-i : goal.invariant-loop-i
invariant-loop-i l = (length l.w ≡ 10) × ((k : ℕ) → k < l.i → get_or l.w k nan ≡ product_f (get_or l.s k nan) (get_or l.t k nan) l.total)
