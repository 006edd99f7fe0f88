-- The header line by line, how long it is, and a line that is written after others.
use mathlib.Core.Path.{◌≡◌, refl, ap}
use mathlib.Core.List.{List, [], ◌∷◌, ◌++◌, append-nil, flat_map}
use Prim.Native.Nat.{ℕ, ◌+◌, ◌-◌, ◌≤◌}
use native.Mathlib.Omega.{arith}
use lib.ListN.{length, drop, length-append, length-drop, drop_of_length-le}
use lib.Seq.{take_all}
use borrow.Rule.Slice.PartMut.{mid_of, put_mid}
use Rattle.model.specs.Lists.{laid}
use Rattle.model.specs.Grid.{Grid}
use Rattle.model.specs.Decimal.{places}
use Rattle.model.specs.Esri.{spaced, header_lines, ended}
use Rattle.laws.proofs.Writing.{Writing, left_over, same_size, write_over}
use Rattle.digits.specs.Line.{line_of}
use Rattle.digits.proofs.Lines.{length_line}
use Rattle.esri_text.specs.Parts.{laid_at}

-- each keyword with its space, and the last one with the minus sign of its number; and their lines
abbrev columns_label : List ℕ
columns_label = 110 ∷ 99 ∷ 111 ∷ 108 ∷ 115 ∷ 32 ∷ []

abbrev rows_label : List ℕ
rows_label = 110 ∷ 114 ∷ 111 ∷ 119 ∷ 115 ∷ 32 ∷ []

abbrev x_label : List ℕ
x_label = 120 ∷ 108 ∷ 108 ∷ 99 ∷ 101 ∷ 110 ∷ 116 ∷ 101 ∷ 114 ∷ 32 ∷ []

abbrev y_label : List ℕ
y_label = 121 ∷ 108 ∷ 108 ∷ 99 ∷ 101 ∷ 110 ∷ 116 ∷ 101 ∷ 114 ∷ 32 ∷ []

abbrev step_label : List ℕ
step_label = 99 ∷ 101 ∷ 108 ∷ 108 ∷ 115 ∷ 105 ∷ 122 ∷ 101 ∷ 32 ∷ []

abbrev none_label : List ℕ
none_label = 78 ∷ 79 ∷ 68 ∷ 65 ∷ 84 ∷ 65 ∷ 95 ∷ 118 ∷ 97 ∷ 108 ∷ 117 ∷ 101 ∷ 32 ∷ 45 ∷ []

four_digits : places 9999 ≡ 4
unfolding places
four_digits = refl

module _ (g : Grid) where
  abbrev pub columns_line : List ℕ
  columns_line = line_of columns_label g.columns

  abbrev pub rows_line : List ℕ
  rows_line = line_of rows_label g.rows

  abbrev pub x_line : List ℕ
  x_line = line_of x_label g.x0

  abbrev pub y_line : List ℕ
  y_line = line_of y_label g.y0

  abbrev pub step_line : List ℕ
  step_line = line_of step_label g.step_x

  abbrev pub none_line : List ℕ
  none_line = line_of none_label 9999

  -- all lines, and those after each
  abbrev pub after_step : List ℕ
  after_step = none_line ++ []

  abbrev pub after_y : List ℕ
  after_y = step_line ++ after_step

  abbrev pub after_x : List ℕ
  after_x = y_line ++ after_y

  abbrev pub after_rows : List ℕ
  after_rows = x_line ++ after_x

  abbrev pub after_columns : List ℕ
  after_columns = rows_line ++ after_rows

  abbrev pub lines : List ℕ
  lines = columns_line ++ after_columns

  pub header_is : ended (header_lines g) ≡ lines
  unfolding flat_map spaced
  header_is = refl

  pub header_size : length (ended (header_lines g)) ≡ 65 + (places g.columns + places g.rows) + (places g.x0 + places g.y0) + places g.step_x
  header_size =
      omega (
        arith,
        ap length header_is,
        length-append columns_line after_columns,
        length-append rows_line after_rows,
        length-append x_line after_x,
        length-append y_line after_y,
        length-append step_line after_step,
        length-append none_line [],
        length_line columns_label g.columns,
        length_line rows_label g.rows,
        length_line x_label g.x0,
        length_line y_label g.y0,
        length_line step_label g.step_x,
        length_line none_label 9999,
        four_digits,
      )

-- what was written to the front of a list's end
pub laid_part : {A : Type 0} (b l : List A) (at : ℕ) → at ≤ length l → put_mid at (length l - at) l (laid b (mid_of at (length l - at) l)) ≡ laid_at at b l
laid_part b l at h =
    let e : length (drop at l) ≤ length l - at = omega (arith, length-drop at l) in
    rw (take_all (length l - at) (drop at l) e, drop_of_length-le (drop at l) e, append-nil)

-- a line that comes next has room, and is then written
module _ {whole was : List ℕ} (line rest : List ℕ) {at : ℕ} {is : List ℕ} (w : Writing whole was (line ++ rest) at is) where
  pub next_room : length whole ≤ length was → at + length line ≤ length is
  next_room h =
      let o = left_over w in
      omega (arith, o, length-append line rest, same_size w (omega (arith, o)))

  pub next_written : (r : ℕ) (is' : List ℕ) → r ≡ at + length line → is' ≡ laid_at at line is → Writing whole was rest r is'
  next_written r is' e f = rw (e, f) (write_over w line rest refl (length line) refl)
