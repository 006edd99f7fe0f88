-- Grids: their rules, their refusals and their cells: document 01, "Grid and grid file".
use Rattle.std.specs.Prelude.{ℕ, zero, suc, ◌+◌, ◌-◌, ◌*◌, Bool, cond, ◌&&◌, List, [], ◌++◌, leb, eqb, ℤ, length}
use Rattle.model.specs.Lists.{tabulate, laid}
use Rattle.model.specs.Point.{Location, State, location}
use Rattle.model.specs.Answer.{answer}
use Rattle.model.specs.Refusals.{non_empty, enough}

pub record Grid : Type 0 where
  pub x0 : ℕ
  pub y0 : ℕ
  pub step_x : ℕ
  pub step_y : ℕ
  pub columns : ℕ
  pub rows : ℕ

-- the rules of one axis: a step of at least 1, 1 to 64 columns or rows, the last one in the domain
abbrev pub axis : ℕ → ℕ → ℕ → Bool
axis start step count = leb 1 step && leb 1 count && leb count 64 && leb (start + (count - 1) * step) 4095

abbrev pub proper : Grid → Bool
proper g = axis g.x0 g.step_x g.columns && axis g.y0 g.step_y g.rows

abbrev pub cell_count : Grid → ℕ
cell_count g = g.columns * g.rows

-- 7, then 6, then whatever follows
abbrev pub grid_check : Grid → State → ℕ → ℕ
grid_check g s n = cond (proper g) (non_empty s n) 7

-- a grid's cells into n lent cells
unfoldable pub grid_refusal : Grid → State → ℕ → ℕ
grid_refusal g s n = grid_check g s (enough n (cell_count g))

-- where column c and row r, counted from 0, are
abbrev pub cell_location : Grid → ℕ → ℕ → Location
cell_location g c r = location (g.x0 + c * g.step_x) (g.y0 + r * g.step_y)

-- row r: x ascending
unfoldable pub row : State → Grid → ℕ → List ℤ
unfolding answer tabulate
row s g r = tabulate (λ c. answer s (cell_location g c r)) g.columns

-- the first n rows: y ascending
unfoldable pub rows_of : State → Grid → ℕ → List ℤ
unfolding row
rows_of s g zero = []
rows_of s g (suc n) = rows_of s g n ++ row s g n

unfoldable pub cells : State → Grid → List ℤ
unfolding rows_of
cells s g = rows_of s g g.rows

-- what lent cells hold after it: the grid's at their front, or, refused, what they held
unfoldable pub cells_into : State → Grid → List ℤ → List ℤ
unfolding grid_refusal cells
cells_into s g d = cond (eqb (grid_refusal g s (length d)) 0) (laid (cells s g) d) d
