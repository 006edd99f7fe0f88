-- The invariant: the least of the first one and those gone through.
use mathlib.Core.Path.{◌≡◌}
use Prim.Native.Nat.{◌+◌}
use mathlib.Core.List.{map}
use lib.ListN.{take}
use Rattle.model.specs.Extent.{values_by, lesser}
use Rattle.weights.specs.Seen.{point_of}
use Rattle.lookup.proofs.value.least_value.Given as goal

abbrev pub invariant-loop-a : goal.invariant-loop-a
invariant-loop-a l = l.least ≡ values_by lesser (map point_of (take (l.a-index + 1) l.fn.c.items))
