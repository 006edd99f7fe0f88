-- `cells_length` meets its contract. The invariant: the sum and the bytes of the cells from i on are those of all.
use mathlib.Core.Path.{◌≡◌}
use Prim.Native.Nat.{◌+◌, ◌*◌, ◌≤◌}
use lib.ListN.{drop}
use Rattle.esri_cells.specs.Sizes.{cells_length}
use Rattle.esri_cells.proofs.cells_length.Given as goal

abbrev pub invariant-loop-v : goal.invariant-loop-v
invariant-loop-v l = (l.sum + cells_length (drop l.v-index l.values) ≡ cells_length l.values) × (l.sum ≤ 14 * l.v-index)
