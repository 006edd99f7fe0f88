-- What opening a grid file gives, and what reading its cells answers: how many, or the refusal.
use Rattle.std.specs.Prelude.{◌≡◌, ℕ, List, Result, IfOk}
use Rattle.model.specs.Grid.{cell_count}
use Rattle.model.specs.GridReading.{grid_of_file, grid_file_check, cells_read_refusal}
use Rattle.refusal.specs.declared.Refusal.{Refusal}
use Rattle.refusal.specs.Numbered.{code, told}
use Rattle.grid_rules.specs.declared.Grid.{Grid}
use Rattle.grid_rules.specs.GridOf.{grid_of}

-- the file f opened: the refusal, or its grid
pub record OpensAs (f : List ℕ) (r : Result Grid Refusal) : Type 0 where
  pub refusal : code r ≡ grid_file_check f 0
  pub grid : IfOk r (λ g. grid_of g ≡ grid_of_file f)

-- its cells into n lent ones
unfoldable pub cells_read_as : List ℕ → ℕ → Result ℕ ℕ
unfolding cells_read_refusal
cells_read_as f n = told (cells_read_refusal f n) (cell_count (grid_of_file f))
