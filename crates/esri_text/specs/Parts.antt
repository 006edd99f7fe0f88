-- The parts of an Esri ASCII grid as they are written: what a list holds once a part of it is, the cells that are asked for, and the rows' lines.
use Rattle.std.specs.Prelude.{◌≡◌, ℕ, ◌≤◌, ◌<◌, List, ◌++◌, map, ℤ, length, take, drop}
use Rattle.model.specs.Lists.{laid}
use Rattle.model.specs.Grid.{Grid, cell_count}
use Rattle.model.specs.Esri.{row_line, rows_down, ended}

-- what a lent list l holds once b was written to it from `at` on
abbrev pub laid_at : {A : Type 0} → ℕ → List A → List A → List A
laid_at at b l = take at l ++ laid b (drop at l)

-- the cells of a grid that has columns: as many as there are, and at most 4,096
abbrev pub OfCells : Grid → List ℤ → Type 0
OfCells g l = (0 < g.columns) × (length l ≡ cell_count g) × (length l ≤ 4096)

abbrev pub rows_text : Grid → List ℤ → List ℕ
rows_text g l = ended (map row_line (rows_down g.columns l g.rows))
