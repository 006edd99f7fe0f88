-- What filling cells and writing a grid file answer and leave, refused and accepted.
use mathlib.Core.Path.{◌≡◌, refl}
use Prim.Native.Nat.{ℕ}
use mathlib.Core.List.{List, ◌++◌}
use lib.IntN.{ℤ}
use lib.ListN.{length, drop}
use borrow.Author.Tests.{eq-eqb, ne_eqb}
use Rattle.model.specs.Lists.{laid}
use Rattle.model.specs.Point.{State}
use Rattle.model.specs.Grid.{Grid, cell_count, grid_refusal, cells, cells_into}
use Rattle.model.specs.GridFile.{grid_file, grid_file_length, grid_file_refusal, grid_file_into}
use Rattle.laws.proofs.GridLaws.{length_cells, length_grid_file}
use Rattle.std.specs.Prelude.{Result, Ok, Err}
use Rattle.refusal.proofs.Told.{told_value}
use Rattle.grid_cells.specs.CellsRight.{CellsRight, WrittenRight}
use Rattle.grid.specs.FilledAs.{filled_as, FilledRight, grid_written_as}

module _ (s : State) (g : Grid) where
  module _ (d : List ℤ) where
    pub cells_refused : (n : ℕ) → n ≡ grid_refusal g s (length d) → (n ≡ 0 → ⊥) → (Err n ≡ filled_as s g (length d)) × ((d ≡ cells_into s g d) × FilledRight s g (Err n))
    unfolding filled_as cells_into FilledRight
    cells_refused n e h = rw (← e, ne_eqb n 0 h) (refl, (refl, tt))

    pub cells_filled : grid_refusal g s (length d) ≡ 0 → CellsRight s g
        → (Ok (cell_count g) ≡ filled_as s g (length d)) × ((cells s g ++ drop (cell_count g) d ≡ cells_into s g d) × FilledRight s g (Ok (cell_count g)))
    unfolding filled_as cells_into FilledRight
    cells_filled h right = rw (eq-eqb (grid_refusal g s (length d)) 0 h, length_cells s g) (refl, (refl, right))

    -- where they were filled, the cells stand at the front of what was lent
    pub filled_laid : (n : ℕ) → filled_as s g (length d) ≡ Ok n → cells_into s g d ≡ laid (cells s g) d
    unfolding filled_as cells_into
    filled_laid n h = rw (eq-eqb (grid_refusal g s (length d)) 0 (told_value (grid_refusal g s (length d)) (cell_count g) (filled_as s g (length d)) refl n h).0)

  module _ (d : List ℕ) where
    pub file_refused : (n : ℕ) → n ≡ grid_file_refusal g s (length d) → (n ≡ 0 → ⊥) → (Err n ≡ grid_written_as s g (length d)) × ((d ≡ grid_file_into s g d) × WrittenRight s g (Err n))
    unfolding grid_written_as grid_file_into WrittenRight
    file_refused n e h = rw (← e, ne_eqb n 0 h) (refl, (refl, tt))

    pub file_written : grid_file_refusal g s (length d) ≡ 0 → CellsRight s g
        → (Ok (grid_file_length g) ≡ grid_written_as s g (length d)) × ((grid_file s g ++ drop (grid_file_length g) d ≡ grid_file_into s g d) × WrittenRight s g (Ok (grid_file_length g)))
    unfolding grid_written_as grid_file_into WrittenRight
    file_written h right = rw (eq-eqb (grid_file_refusal g s (length d)) 0 h, length_grid_file s g) (refl, (refl, right))
