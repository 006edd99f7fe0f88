-- The grid file read: its six numbers, its cells, and why it is refused. Document 01, "Grid and grid file", has its form.
use Rattle.std.specs.Prelude.{◌≡◌, ℕ, zero, suc, ◌+◌, ◌-◌, ◌*◌, ◌<◌, Bool, false, cond, not, ◌||◌, List, [], ◌∷◌, eqb, ℤ, length, take, drop}
use Rattle.model.specs.Lists.{laid}
use Rattle.model.specs.Bytes.{word, long_at, signed, same}
use Rattle.model.specs.Refusals.{enough, afterwards}
use Rattle.model.specs.Grid.{Grid, proper, cell_count}
use Rattle.model.specs.GridFile.{grid_magic, grid_in, grid_file_length}

-- the trailer is the last 20 bytes
abbrev pub grid_trailer_start : List ℕ → ℕ
grid_trailer_start f = length f - 20

-- what the trailer states: the grid, bytes back to the first cell, the magic
abbrev pub grid_of_file : List ℕ → Grid
grid_of_file f = grid_in (drop (grid_trailer_start f) f)

abbrev pub cells_back : List ℕ → ℕ
cells_back f = long_at f (grid_trailer_start f + 12)

abbrev pub grid_magic_in : List ℕ → List ℕ
grid_magic_in f = drop (grid_trailer_start f + 16) f

-- cells of two bytes, in two's complement; a byte left at the end is none
unfoldable pub cells_of : List ℕ → List ℤ
cells_of [] = []
cells_of (a ∷ []) = []
cells_of (a ∷ b ∷ l) = signed 32768 (word a b) ∷ cells_of l

-- the cells: all that stands before the trailer
unfoldable pub cells_of_file : List ℕ → List ℤ
unfolding cells_of
cells_of_file f = cells_of (take (grid_trailer_start f) f)

-- f holds of some number below n
unfoldable pub some_below : (ℕ → Bool) → ℕ → Bool
some_below f zero = false
some_below f (suc n) = some_below f n || f n

-- a grid of c columns, and of some number of rows from 1 to 64, has a file of n bytes
unfoldable pub columns_length : ℕ → ℕ → Bool
unfolding some_below
columns_length n c = some_below (λ r. eqb (2 * (c * suc r) + 20) n) 64

-- some grid of 1 to 64 columns has: a length that grid files have
unfoldable pub some_length : ℕ → Bool
unfolding some_below columns_length
some_length n = some_below (λ c. columns_length n (suc c)) 64

-- the first of 9, 10, 7 and 12 that applies, and otherwise whatever follows
unfoldable pub grid_file_check : List ℕ → ℕ → ℕ
unfolding some_length
grid_file_check f n =
    cond (not (some_length (length f))) 9
    (cond (not (same (grid_magic_in f) grid_magic)) 10
    (cond (not (proper (grid_of_file f))) 7
    (cond (not (eqb (cells_back f) (2 * cell_count (grid_of_file f))) || not (eqb (length f) (grid_file_length (grid_of_file f)))) 12 n)))

-- reading the cells into n lent ones: 8 where they are too few
unfoldable pub cells_read_refusal : List ℕ → ℕ → ℕ
unfolding grid_file_check
cells_read_refusal f n = grid_file_check f (enough n (cell_count (grid_of_file f)))

-- what lent cells hold after it: the file's at their front, or, refused, what they held
unfoldable pub cells_read_into : List ℕ → List ℤ → List ℤ
unfolding cells_read_refusal cells_of_file
cells_read_into f d = afterwards (cells_read_refusal f (length d)) (laid (cells_of_file f) d) d

-- f is accepted, and read as the grid g and the cells l
pub record States (f : List ℕ) (g : Grid) (l : List ℤ) : Type 0 where
  pub accepted : grid_file_check f 0 ≡ 0
  pub grid : grid_of_file f ≡ g
  pub cells : cells_of_file f ≡ l

-- six numbers of two bytes each
pub record TwoBytes (g : Grid) : Type 0 where
  pub x0 : g.x0 < 65536
  pub y0 : g.y0 < 65536
  pub step_x : g.step_x < 65536
  pub step_y : g.step_y < 65536
  pub columns : g.columns < 65536
  pub rows : g.rows < 65536
