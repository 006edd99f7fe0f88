-- `staying` meets its contract. The invariant: of the corners below `last` the same stay.
use Prim.Native.Nat.{◌≤◌, min}
use mathlib.Core.Path.{◌≡◌}
use Rattle.model.specs.Polygon.{trim}
use Rattle.model.specs.Point.{location}
use Rattle.polygon.specs.Stacked.{stacked, turn_of}
use Rattle.polygon.proofs.staying.Given as goal

abbrev pub invariant-loop-last : goal.invariant-loop-last
invariant-loop-last l = (min l.depth 1 ≤ l.last) × (trim (turn_of l.up) (stacked l.xs l.ys l.depth) (location l.px l.py) ≡ trim (turn_of l.up) (stacked l.xs l.ys l.last) (location l.px l.py))
