-- The grid file: document 01, "Grid and grid file".
use Rattle.std.specs.Prelude.{ℕ, ◌+◌, ◌*◌, cond, eqb, ℤ, length}
use mathlib.Core.List.{List, [], ◌∷◌, ◌++◌, flat_map}
use Rattle.model.specs.Lists.{laid}
use Rattle.model.specs.Point.{State}
use Rattle.model.specs.Bytes.{word_at, bytes2, bytes4, complement}
use Rattle.model.specs.Refusals.{enough}
use Rattle.model.specs.Grid.{Grid, cells, cell_count, grid_check}

-- document 01's mark: RLG1
abbrev pub grid_magic : List ℕ
grid_magic = 0x52 ∷ 0x4C ∷ 0x47 ∷ 0x31 ∷ []

abbrev pub six_numbers : Grid → List ℕ
six_numbers g = bytes2 g.x0 ++ bytes2 g.y0 ++ bytes2 g.step_x ++ bytes2 g.step_y ++ bytes2 g.columns ++ bytes2 g.rows

-- the six numbers that bytes begin with
abbrev pub grid_in : List ℕ → Grid
grid_in f = record { x0 = word_at f 0; y0 = word_at f 2; step_x = word_at f 4; step_y = word_at f 6; columns = word_at f 8; rows = word_at f 10 }

-- a cell: two bytes, in two's complement
abbrev pub cell_bytes : ℤ → List ℕ
cell_bytes a = bytes2 (complement 32768 a)

unfoldable pub cells_bytes : List ℤ → List ℕ
unfolding flat_map
cells_bytes l = flat_map cell_bytes l

-- what follows n bytes of cells: the six numbers, bytes from these back to the first cell, the magic
abbrev pub grid_trailer : Grid → ℕ → List ℕ
grid_trailer g n = six_numbers g ++ bytes4 n ++ grid_magic

-- the file of a grid and its cells
unfoldable pub file_of_cells : Grid → List ℤ → List ℕ
unfolding cells_bytes
file_of_cells g l = cells_bytes l ++ grid_trailer g (length (cells_bytes l))

unfoldable pub grid_file : State → Grid → List ℕ
unfolding cells file_of_cells
grid_file s g = file_of_cells g (cells s g)

abbrev pub grid_file_length : Grid → ℕ
grid_file_length g = 2 * cell_count g + 20

-- writing it into n lent bytes
unfoldable pub grid_file_refusal : Grid → State → ℕ → ℕ
grid_file_refusal g s n = grid_check g s (enough n (grid_file_length g))

-- what lent bytes hold after it: the file at their front, or, refused, what they held
unfoldable pub grid_file_into : State → Grid → List ℕ → List ℕ
unfolding grid_file_refusal grid_file
grid_file_into s g d = cond (eqb (grid_file_refusal g s (length d)) 0) (laid (grid_file s g) d) d
