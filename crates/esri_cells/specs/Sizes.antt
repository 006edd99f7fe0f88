-- How many bytes cells take in an Esri ASCII grid.
use Rattle.std.specs.Prelude.{ℕ, ◌+◌, List, map, ℤ, length}
use Rattle.model.specs.Bytes.{total}
use Rattle.model.specs.Esri.{cell_text}

-- a space or a line feed follows each
abbrev pub cells_length : List ℤ → ℕ
cells_length l = total (map (λ a. length (cell_text a) + 1) l)
