-- The two grid programs, from the bytes of their input to the bytes of their output: document 01, "Grid and grid file", and document 02, §2.
use Rattle.std.specs.Prelude.{ℕ, cond, List, [], ◌∷◌, ◌++◌, ltb, eqb}
use Rattle.model.specs.Point.{State}
use Rattle.model.specs.Extent.{extent_of, survey_of}
use Rattle.model.specs.Refusals.{or_else}
use Rattle.model.specs.SurveyFile.{file_refusal, file_points, record_start}
use Rattle.model.specs.Grid.{grid_check}
use Rattle.model.specs.GridFile.{grid_in, grid_file}
use Rattle.model.specs.Decimal.{digits_of, places, decimal}
use Rattle.model.specs.Esri.{esri_text, esri_check}

abbrev pub state_in : List ℕ → State
state_in f = survey_of (file_points f)

-- of both: 9 to 15; then 7, of fewer than 12 bytes before the first record, since the first 12 are the six numbers
unfoldable pub input_refusal : List ℕ → ℕ
unfolding file_refusal
input_refusal f = or_else (file_refusal f) (cond (ltb (record_start f) 12) 7 0)

-- then 7 of the grid, and 6
unfoldable pub grid_program_refusal : List ℕ → ℕ
unfolding input_refusal file_points extent_of
grid_program_refusal f = or_else (input_refusal f) (grid_check (grid_in f) (state_in f) 0)

-- then 7 of the grid, 16 and 6
unfoldable pub esri_program_refusal : List ℕ → ℕ
unfolding input_refusal file_points extent_of
esri_program_refusal f = or_else (input_refusal f) (esri_check (grid_in f) (state_in f) 0)

-- the text `refused N` and a line feed
unfoldable pub refused_text : ℕ → List ℕ
unfolding digits_of places
refused_text n = (114 ∷ 101 ∷ 102 ∷ 117 ∷ 115 ∷ 101 ∷ 100 ∷ 32 ∷ []) ++ decimal n ++ (10 ∷ [])

-- what a program puts out that the number n refuses, and otherwise
abbrev pub put_out : ℕ → List ℕ → List ℕ
put_out n l = cond (eqb n 0) l (refused_text n)

unfoldable pub grid_program : List ℕ → List ℕ
unfolding grid_program_refusal file_points extent_of grid_file refused_text
grid_program f = put_out (grid_program_refusal f) (grid_file (state_in f) (grid_in f))

unfoldable pub esri_program : List ℕ → List ℕ
unfolding esri_program_refusal file_points extent_of esri_text refused_text
esri_program f = put_out (esri_program_refusal f) (esri_text (state_in f) (grid_in f))
