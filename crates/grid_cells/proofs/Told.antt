-- What an answer tells of the cells that were written.
use mathlib.Core.Path.{◌≡◌}
use Prim.Native.Nat.{ℕ}
use Rattle.std.specs.Prelude.{Result, Ok, Err}
use Rattle.model.specs.Point.{State}
use Rattle.model.specs.Grid.{Grid}
use Rattle.grid_cells.specs.CellsRight.{CellsRight, WrittenRight}

module _ (s : State) (g : Grid) where
  pub all_right : CellsRight s g → (a : Result ℕ ℕ) → WrittenRight s g a
  unfolding WrittenRight
  all_right h (Ok n) = h
  all_right h (Err n) = tt

  pub right_written : (n : ℕ) (a : Result ℕ ℕ) → a ≡ Ok n → WrittenRight s g a → CellsRight s g
  unfolding WrittenRight
  right_written n a e h = rw e at h
