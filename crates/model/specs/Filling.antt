-- A grid that is filled one row a call, while the survey is edited: document 02, §6.
use Rattle.std.specs.Prelude.{ℕ, suc, cond, List, [], ltb, ℤ, length}
use Rattle.model.specs.Lists.{laid}
use Rattle.model.specs.Point.{State}
use Rattle.model.specs.Refusals.{enough, afterwards}
use Rattle.model.specs.Grid.{Grid, grid_check, row}

-- the grid being filled: none, or what a plain lookup reads, as it stood at the begin, the grid, and the index of its next row
pub data Filling : Type 0 where
  NoGrid : Filling
  Begun : State → Grid → ℕ → Filling

-- a begin: 7, then 6
abbrev pub begin_refusal : Grid → State → ℕ
begin_refusal g s = grid_check g s 0

-- what a begin leaves: accepted, the new grid, of which the first row comes next; refused, the grid being filled as it was
unfoldable pub after_begin : Grid → State → Filling → Filling
after_begin g s f = afterwards (begin_refusal g s) (Begun s g 0) f

-- the next row into n lent cells: 17 with no grid begun or after the last row, then 8
unfoldable pub row_refusal : Filling → ℕ → ℕ
row_refusal NoGrid n = 17
row_refusal (Begun s g r) n = cond (ltb r g.rows) (enough n g.columns) 17

-- a row that was given: its index, counted from 0, and its cells
pub record GivenRow : Type 0 where
  pub index : ℕ
  pub cells : List ℤ

-- row r of the grid g over s
unfoldable pub row_at : State → Grid → ℕ → GivenRow
unfolding row
row_at s g r = record { index = r; cells = row s g r }

-- the row that comes next; with no grid begun there is none, and this one is never given
unfoldable pub next_row : Filling → GivenRow
unfolding row_at
next_row NoGrid = record { index = 0; cells = [] }
next_row (Begun s g r) = row_at s g r

-- the grid being filled once that row is
unfoldable pub row_further : Filling → Filling
row_further NoGrid = NoGrid
row_further (Begun s g r) = Begun s g (suc r)

-- what the next row, lent n cells, leaves of the grid being filled: refused, it is still the next one
unfoldable pub after_row : Filling → ℕ → Filling
unfolding row_refusal row_further
after_row f n = afterwards (row_refusal f n) (row_further f) f

-- what the lent cells hold after it: the row at their front, or, refused, what they held
unfoldable pub row_into : Filling → List ℤ → List ℤ
unfolding row_refusal next_row
row_into f d = afterwards (row_refusal f (length d)) (laid (next_row f).cells d) d
