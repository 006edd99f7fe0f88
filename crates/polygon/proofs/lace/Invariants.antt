-- `lace` meets its contract. The invariant: the sum is that of the first i.
use Prim.Native.Nat.{◌≤◌, ◌*◌, max}
use mathlib.Core.Path.{◌≡◌}
use Rattle.polygon.specs.Stacked.{laced}
use Rattle.polygon.proofs.lace.Given as goal

abbrev pub invariant-loop-i : goal.invariant-loop-i
invariant-loop-i l = (l.i ≤ max l.depth 1) × (l.sum ≤ l.i * 4294836225) × (l.sum ≡ laced l.a l.b l.i)
