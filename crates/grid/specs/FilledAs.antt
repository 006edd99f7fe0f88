-- What filling cells and writing a grid file answer: how many cells, the file's length, or the paper's refusal; and what then holds of the cells' rounding.
use Rattle.std.specs.Prelude.{ℕ, length, Result, Ok, Err}
use Rattle.model.specs.Point.{State}
use Rattle.model.specs.Grid.{cell_count, grid_refusal, Grid as Model-as-Grid}
use Rattle.model.specs.GridFile.{grid_file, grid_file_refusal}
use Rattle.refusal.specs.Numbered.{told}
use Rattle.grid_cells.specs.CellsRight.{CellsRight}

-- a grid's cells into n lent ones
unfoldable pub filled_as : State → Model-as-Grid → ℕ → Result ℕ ℕ
unfolding grid_refusal
filled_as s g n = told (grid_refusal g s n) (cell_count g)

unfoldable pub FilledRight : State → Model-as-Grid → Result ℕ ℕ → Type 0
FilledRight s g (Ok n) = CellsRight s g
FilledRight s g (Err n) = Unit {0}

-- a grid file into n lent bytes
unfoldable pub grid_written_as : State → Model-as-Grid → ℕ → Result ℕ ℕ
unfolding grid_file grid_file_refusal
grid_written_as s g n = told (grid_file_refusal g s n) (length (grid_file s g))
