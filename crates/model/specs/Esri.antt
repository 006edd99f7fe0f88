-- The Esri ASCII grid of a survey, as a list of ASCII codes, and how its cells are read back: document 02, §2.
use Rattle.std.specs.Prelude.{ℕ, zero, suc, ◌-◌, ◌*◌, ◌/◌, ◌%◌, cond, eqb, ℤ, pos, negsuc, ◌*ℤ◌, length, take, drop}
use Rattle.std.proofs.Math.Option.{Option, some}
use mathlib.Core.List.{List, [], ◌∷◌, ◌++◌, map, flat_map}
use Rattle.model.specs.Lists.{laid}
use Rattle.model.specs.Point.{State}
use Rattle.model.specs.Fraction.{Signed}
use Rattle.model.specs.Refusals.{non_empty, enough}
use Rattle.model.specs.Grid.{Grid, proper, cells}
use Rattle.model.specs.Decimal.{digits_of, places, decimal, signed_decimal, cut, decimal_read}

-- a cell of n 256ths: its whole part, a point and eight decimals; a 256th is 390,625 of their last digit
abbrev pub size_text : ℕ → List ℕ
size_text n = decimal (n / 256) ++ (46 ∷ digits_of 8 (n % 256 * 390625))

-- its sign if negative
abbrev pub cell_text : ℤ → List ℕ
cell_text (pos n) = size_text n
cell_text (negsuc n) = 45 ∷ size_text (suc n)

-- texts parted by one space
unfoldable pub spaced : List (List ℕ) → List ℕ
spaced [] = []
spaced (t ∷ []) = t
spaced (t ∷ u ∷ l) = t ++ (32 ∷ spaced (u ∷ l))

abbrev pub row_line : List ℤ → List ℕ
row_line l = spaced (map cell_text l)

-- the keywords in ASCII
abbrev pub ncols : List ℕ
ncols = 110 ∷ 99 ∷ 111 ∷ 108 ∷ 115 ∷ []

abbrev pub nrows : List ℕ
nrows = 110 ∷ 114 ∷ 111 ∷ 119 ∷ 115 ∷ []

abbrev pub xllcenter : List ℕ
xllcenter = 120 ∷ 108 ∷ 108 ∷ 99 ∷ 101 ∷ 110 ∷ 116 ∷ 101 ∷ 114 ∷ []

abbrev pub yllcenter : List ℕ
yllcenter = 121 ∷ 108 ∷ 108 ∷ 99 ∷ 101 ∷ 110 ∷ 116 ∷ 101 ∷ 114 ∷ []

abbrev pub cellsize : List ℕ
cellsize = 99 ∷ 101 ∷ 108 ∷ 108 ∷ 115 ∷ 105 ∷ 122 ∷ 101 ∷ []

-- `NODATA_value`
abbrev pub nodata : List ℕ
nodata = 78 ∷ 79 ∷ 68 ∷ 65 ∷ 84 ∷ 65 ∷ 95 ∷ 118 ∷ 97 ∷ 108 ∷ 117 ∷ 101 ∷ []

-- a keyword, one space and a number
abbrev pub header_line : List ℕ → ℤ → List ℕ
header_line keyword n = spaced (keyword ∷ signed_decimal n ∷ [])

abbrev pub header_lines : Grid → List (List ℕ)
header_lines g =
    header_line ncols (pos g.columns)
    ∷ header_line nrows (pos g.rows)
    ∷ header_line xllcenter (pos g.x0)
    ∷ header_line yllcenter (pos g.y0)
    ∷ header_line cellsize (pos g.step_x)
    ∷ header_line nodata (negsuc 9998)
    ∷ []

-- lines, a line feed at the end of each
abbrev pub ended : List (List ℕ) → List ℕ
ended l = flat_map (λ t. t ++ (10 ∷ [])) l

-- the first n rows of cells that go row by row, c in each: the last of them first
unfoldable pub rows_down : ℕ → List ℤ → ℕ → List (List ℤ)
rows_down c l zero = []
rows_down c l (suc n) = take c (drop (c * n) l) ∷ rows_down c l n

-- the text of a grid and its cells: the rows from the highest y down
unfoldable pub text_of_cells : Grid → List ℤ → List ℕ
unfolding flat_map digits_of places spaced rows_down
text_of_cells g l = ended (header_lines g ++ map row_line (rows_down g.columns l g.rows))

unfoldable pub esri_text : State → Grid → List ℕ
unfolding cells text_of_cells
esri_text s g = text_of_cells g (cells s g)

-- 7, then 16, the steps differ, then 6, then whatever follows
abbrev pub esri_check : Grid → State → ℕ → ℕ
esri_check g s n = cond (proper g) (cond (eqb g.step_x g.step_y) (non_empty s n) 16) 7

-- writing it into n lent bytes
unfoldable pub esri_refusal : Grid → State → ℕ → ℕ
unfolding esri_text
esri_refusal g s n = esri_check g s (enough n (length (esri_text s g)))

-- what lent bytes hold after it: the text at their front, or, refused, what they held
unfoldable pub esri_into : State → Grid → List ℕ → List ℕ
unfolding esri_refusal esri_text
esri_into s g d = cond (eqb (esri_refusal g s (length d)) 0) (laid (esri_text s g) d) d

-- a cell of a 256ths as an exact fraction, in hundred-millionths, as eight decimals state it; and a row
abbrev pub exact_cell : ℤ → Signed
exact_cell a = record { top = a *ℤ pos 390625; bot = 100000000 }

abbrev pub exact_row : List ℤ → List (Option Signed)
exact_row l = map (λ a. some (exact_cell a)) l

-- the lines of a text: what each line feed ends
unfoldable pub lines_in : List ℕ → List (List ℕ)
unfolding cut
lines_in t = take (length (cut 10 t) - 1) (cut 10 t)

-- its cells read back: the lines after the sixth, cut at spaces, each part read as a decimal
unfoldable pub cells_read : List ℕ → List (List (Option Signed))
unfolding lines_in cut decimal_read
cells_read t = map (λ l. map decimal_read (cut 32 l)) (drop 6 (lines_in t))
