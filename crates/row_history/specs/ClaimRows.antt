-- Document 02's §6, of the rows that calls wrote after an accepted begin and before the next accepted one.
use Rattle.std.specs.Prelude.{ℕ, ◌<◌, List, map, length}
use Rattle.model.specs.Point.{Contents}
use Rattle.model.specs.Extent.{settled}
use Rattle.model.specs.Calls.{present}
use Rattle.model.specs.Grid.{Grid}
use Rattle.model.specs.Filling.{GivenRow}
use Rattle.model.specs.RowCalls.{RowCall, survey_call, FirstRows}
use Rattle.grid_cells.specs.CellsRight.{RowRight}

-- what is present after a list of calls, begins and rows: begins and rows only ask
abbrev pub present_after : List RowCall → Contents
present_after cs = present (map survey_call cs)

-- where q is present at an accepted begin of g, cs are the calls behind it, up to the next accepted begin at most, and rows are those that they wrote
pub record ClaimRows (q : Contents) (g : Grid) (cs : List RowCall) (rows : List GivenRow) : Type 0 where
  -- they are the first rows of the grid made in one go
  pub first_rows : FirstRows q g cs rows
  -- each cell is within 129/65,536 of the exact mean over what was present at the begin, and between the least and the greatest chosen value
  pub right : (r : ℕ) → r < length rows → RowRight (settled q) g r
