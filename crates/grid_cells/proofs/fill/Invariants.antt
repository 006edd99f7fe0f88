-- `fill` meets its contract. The invariant: the cells up to `at` are those of the first r rows.
use mathlib.Core.Path.{◌≡◌}
use Prim.Native.Nat.{ℕ, ◌*◌, ◌<◌}
use lib.ListN.{length, take}
use Rattle.model.specs.Grid.{rows_of}
use Rattle.survey.specs.StateOf.{state_of}
use Rattle.grid_rules.specs.GridOf.{grid_of}
use Rattle.grid_cells.specs.CellsRight.{RowRight}
use Rattle.grid_cells.proofs.fill.Given as goal

abbrev pub invariant-loop-r : goal.invariant-loop-r
invariant-loop-r l =
    (l.at ≡ l.g.columns * l.r) × (length l.out ≡ l.g.columns * l.g.rows) × (take l.at l.out ≡ rows_of (state_of l.s) (grid_of l.g) l.r)
    × ((i : ℕ) → i < l.r → RowRight (state_of l.s) (grid_of l.g) i)
