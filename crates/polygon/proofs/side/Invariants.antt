-- `side` meets its contract. The invariant: the corners so far are the side of the first i points.
use Prim.Native.Nat.{◌≤◌}
use mathlib.Core.Path.{◌≡◌}
use mathlib.Core.List.{[]}
use lib.ListN.{length}
use Rattle.model.specs.Polygon.{extend}
use Rattle.point_arrays.specs.PointArrays.{locations_in}
use Rattle.polygon.specs.Stacked.{stacked, turn_of}
use Rattle.polygon.proofs.side.Given as goal

abbrev pub invariant-loop-i : goal.invariant-loop-i
invariant-loop-i l =
    (l.depth ≤ l.i) × (length l.sx ≡ 256) × (length l.sy ≡ 256) × (stacked l.sx l.sy l.depth ≡ extend (turn_of l.up) [] (locations_in l.xs l.ys l.i))
