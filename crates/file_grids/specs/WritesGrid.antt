-- What writing a grid over a survey file's points gives, as a grid file and as an Esri ASCII grid.
use Rattle.std.specs.Prelude.{◌≡◌, ℕ, List, length}
use Rattle.model.specs.Lists.{laid}
use Rattle.model.specs.Refusals.{or_else, afterwards}
use Rattle.model.specs.SurveyFile.{file_refusal}
use Rattle.model.specs.Grid.{Grid}
use Rattle.model.specs.GridFile.{grid_file, grid_file_refusal}
use Rattle.model.specs.Esri.{esri_text, esri_refusal}
use Rattle.model.specs.Program.{state_in}
use Rattle.grid_cells.specs.CellsRight.{CellsRight}

-- bytes `text` that hold the cells of g, into the lent bytes d, and their length into the lent number k: refused as the file f is, then as the grid is.
-- The cells' rounding, which the paper leaves free, is that of the definition; `right` holds of it
pub record WritesCells (f : List ℕ) (g : Grid) (refusal : ℕ) (text d : List ℕ) (k no : ℕ) (d' : List ℕ) (k' : ℕ) : Type 0 where
  pub number : no ≡ or_else (file_refusal f) refusal
  pub bytes : d' ≡ afterwards no (laid text d) d
  pub length : k' ≡ afterwards no (length text) k
  pub right : no ≡ 0 → CellsRight (state_in f) g

abbrev pub WritesGrid : List ℕ → Grid → List ℕ → ℕ → ℕ → List ℕ → ℕ → Type 0
WritesGrid f g d k n d' k' = WritesCells f g (grid_file_refusal g (state_in f) (length d)) (grid_file (state_in f) g) d k n d' k'

abbrev pub WritesEsri : List ℕ → Grid → List ℕ → ℕ → ℕ → List ℕ → ℕ → Type 0
WritesEsri f g d k n d' k' = WritesCells f g (esri_refusal g (state_in f) (length d)) (esri_text (state_in f) g) d k n d' k'
