-- What holds of the rounding of a grid's cells, and of cells that were written.
use Rattle.std.specs.Prelude.{ℕ, ◌<◌, Result, Ok, Err}
use Rattle.model.specs.Point.{State}
use Rattle.model.specs.Mean.{Right}
use Rattle.model.specs.Answer.{answer}
use Rattle.model.specs.Grid.{Grid, cell_location}

-- the rounding of a cell's answer, which the paper leaves free, is that of the definition; this holds of it, in a row and in all of them
abbrev pub RowRight : State → Grid → ℕ → Type 0
RowRight s g r = (c : ℕ) → c < g.columns → Right s (cell_location g c r) (answer s (cell_location g c r))

abbrev pub CellsRight : State → Grid → Type 0
CellsRight s g = (r : ℕ) → r < g.rows → RowRight s g r

-- of what a call answered that writes them: where it did
unfoldable pub WrittenRight : State → Grid → Result ℕ ℕ → Type 0
WrittenRight s g (Ok n) = CellsRight s g
WrittenRight s g (Err n) = Unit {0}
