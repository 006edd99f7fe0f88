-- The invariant: the first i elements are their numbers.
use mathlib.Core.Path.{◌≡◌}
use Prim.Native.Nat.{ℕ, ◌<◌}
use lib.ListN.{get_or, length}
use lib.Ieee.{nan}
use Rattle.model.specs.Computed.{lessened_f}
use Rattle.weights.specs.Seen.{item_at}
use Rattle.lookup.proofs.value.lessened.Given as goal

abbrev pub invariant-loop-i : goal.invariant-loop-i
invariant-loop-i l = (length l.xs ≡ 10) × ((k : ℕ) → k < l.i → get_or l.xs k nan ≡ lessened_f l.fn.least (item_at l.c k).z)
