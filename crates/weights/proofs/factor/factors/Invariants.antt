-- The invariant: the first i elements are their factors.
use mathlib.Core.Path.{◌≡◌}
use Prim.Native.Nat.{ℕ, ◌<◌}
use lib.ListN.{get_or, length}
use lib.Ieee.{nan}
use Rattle.model.specs.Influence.{influence_at}
use Rattle.model.specs.Computed.{factor_f}
use Rattle.weights.specs.Seen.{item_at}
use Rattle.weights.proofs.factor.factors.Given as goal

abbrev pub invariant-loop-i : goal.invariant-loop-i
invariant-loop-i l =
    (length l.s ≡ 10) × ((k : ℕ) → k < l.i → get_or l.s k nan ≡ factor_f (influence_at l.c.few l.c.radius (item_at l.c k).distance))
