-- Document 02's §2, of the Esri ASCII grid in what is present.
use Rattle.std.specs.Prelude.{ℕ, ◌≡◌, ◌↔◌, true, List, [], map, take, drop, Result, Ok, Err}
use Rattle.model.specs.Point.{Contents}
use Rattle.model.specs.Extent.{settled}
use Rattle.model.specs.Grid.{Grid, proper, cells}
use Rattle.model.specs.Esri.{rows_down, exact_row, cells_read}
use Rattle.grid_cells.specs.CellsRight.{CellsRight}

-- the text of g into the lent bytes d, which are d' after it, where q is present
pub record ClaimText (g : Grid) (q : Contents) (d : List ℕ) (a : Result ℕ ℕ) (d' : List ℕ) : Type 0 where
  -- of a grid that keeps the rules and has like steps: 6 exactly where no point is present
  pub six : proper g ≡ true → g.step_x ≡ g.step_y → (a ≡ Err 6) ↔ (q.points ≡ [])
  pub refused : (n : ℕ) → a ≡ Err n → d' ≡ d
  -- the cells that are read back from the text are the grid's over what is present, exactly, the last row first; what lies behind the text stays
  pub read : (n : ℕ) → a ≡ Ok n → cells_read (take n d') ≡ map exact_row (rows_down g.columns (cells (settled q) g) g.rows)
  pub behind : (n : ℕ) → a ≡ Ok n → drop n d' ≡ drop n d
  -- each cell is within 129/65,536 of the exact mean over what is present, and between the least and the greatest chosen value
  pub right : (n : ℕ) → a ≡ Ok n → CellsRight (settled q) g
