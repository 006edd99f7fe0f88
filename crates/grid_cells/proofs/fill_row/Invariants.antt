-- `fill_row` meets its contract: every lookup is accepted, and finds the next cell's value.
-- The invariant: the cells up to c hold the values of the first c columns.
use mathlib.Core.Path.{◌≡◌}
use Prim.Native.Nat.{ℕ, ◌<◌}
use lib.ListN.{length, take}
use Rattle.model.specs.Lists.{tabulate}
use Rattle.survey.specs.StateOf.{state_of}
use Rattle.grid_rules.specs.GridOf.{grid_of}
use Rattle.grid_cells.proofs.Rows.{cell_at, CellRight}
use Rattle.grid_cells.proofs.fill_row.Given as goal

abbrev pub invariant-loop-c : goal.invariant-loop-c
invariant-loop-c l =
    (length l.out ≡ l.g.columns) × (take l.c l.out ≡ tabulate (cell_at (state_of l.s) (grid_of l.g) l.r) l.c)
    × ((i : ℕ) → i < l.c → CellRight (state_of l.s) (grid_of l.g) l.r i)
