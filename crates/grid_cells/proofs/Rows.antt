-- One more cell of a row, and one more row of the cells.
use mathlib.Core.Path.{◌≡◌}
use Prim.Native.Nat.{ℕ, ◌+◌, ◌-◌, ◌≤◌, ◌<◌}
use native.Mathlib.Numerals.{add-one}
use native.Mathlib.Omega.{arith}
use mathlib.Core.List.{List}
use lib.IntN.{ℤ}
use lib.ListN.{length, take, set}
use lib.Seq.{take-suc-set}
use borrow.Rule.Slice.PartMut.{put_mid, same_len_mid, mid_len}
use Rattle.model.specs.Lists.{tabulate}
use Rattle.model.specs.Point.{State}
use Rattle.model.specs.Mean.{Right}
use Rattle.model.specs.Answer.{answer}
use Rattle.model.specs.Grid.{Grid, cell_location, row, rows_of}
use Rattle.laws.proofs.ListLaws.{tabulate_more}
use Rattle.laws.proofs.Stores.{take_over}
use Rattle.laws.proofs.GridLaws.{length_row}

abbrev pub cell_at : State → Grid → ℕ → ℕ → ℤ
cell_at s g r c = answer s (cell_location g c r)

-- what holds of a cell's rounding
abbrev pub CellRight : State → Grid → ℕ → ℕ → Type 0
CellRight s g r c = Right s (cell_location g c r) (cell_at s g r c)

pub cell_more : (s : State) (g : Grid) (r c : ℕ) (l : List ℤ) → c < length l → take c l ≡ tabulate (cell_at s g r) c
    → take (c + 1) (set l c (cell_at s g r c)) ≡ tabulate (cell_at s g r) (c + 1)
cell_more s g r c l h e = rw (tabulate_more (cell_at s g r) c, ← e, add-one c) (take-suc-set l c (cell_at s g r c) h)

module _ (s : State) (g : Grid) (r at : ℕ) (l : List ℤ) (h : at + g.columns ≤ length l) where
  abbrev filled : List ℤ
  filled = put_mid at (at + g.columns - at) l (row s g r)

  pub row_length : length filled ≡ length l
  row_length = same_len_mid at (at + g.columns - at) l (row s g r) (omega (arith, length_row s g r, mid_len at (at + g.columns) l h))

  pub row_more : take at l ≡ rows_of s g r → take (at + g.columns) filled ≡ rows_of s g (r + 1)
  unfolding rows_of
  row_more e = rw (add-one r, ← e) (rw (length_row s g r) at (take_over at (at + g.columns - at) l (row s g r) (omega arith)))
