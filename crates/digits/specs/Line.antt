-- A line of a label and a number, as a list of ASCII codes.
use Rattle.std.specs.Prelude.{ℕ, List, [], ◌∷◌, ◌++◌}
use Rattle.model.specs.Decimal.{decimal}

-- a label, a number and a line feed
abbrev pub line_of : List ℕ → ℕ → List ℕ
line_of label n = label ++ (decimal n ++ (10 ∷ []))
