-- What is told of a grid file: the number, 0 or the first refusal that applies, and what was lent. Where d is lent, d' is what it holds after the call.
use Rattle.std.specs.Prelude.{◌≡◌, ℕ, List, ℤ, length}
use Rattle.model.specs.Refusals.{afterwards}
use Rattle.model.specs.Grid.{Grid, cell_count}
use Rattle.model.specs.GridReading.{grid_of_file, grid_file_check, cells_read_refusal, cells_read_into}

-- the six numbers of the file f, into six lent numbers g
pub record GridTold (f : List ℕ) (g : Grid) (no : ℕ) (g' : Grid) : Type 0 where
  pub number : no ≡ grid_file_check f 0
  pub grid : g' ≡ afterwards no (grid_of_file f) g

-- its cells into the lent cells d, and how many there are into the lent number k
pub record CellsTold (f : List ℕ) (d : List ℤ) (k no : ℕ) (d' : List ℤ) (k' : ℕ) : Type 0 where
  pub number : no ≡ cells_read_refusal f (length d)
  pub cells : d' ≡ cells_read_into f d
  pub count : k' ≡ afterwards no (cell_count (grid_of_file f)) k
