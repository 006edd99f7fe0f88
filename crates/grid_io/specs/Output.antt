-- What a grid program puts out: the bytes that are meant, which are the definition's.
use Rattle.std.specs.Prelude.{◌≡◌, ℕ, ◌≤◌, List, length, take}
use Rattle.model.specs.GridFile.{grid_in}
use Rattle.model.specs.Program.{state_in}
use Rattle.grid_cells.specs.CellsRight.{CellsRight}
use Rattle.grid_io.specs.declared.Output.{Output as Bytes}

-- l is what stands at the front; what stands behind it is free
pub record Puts (l : List ℕ) (r : Bytes) : Type 0 where
  pub front : take r.length r.bytes ≡ l
  pub room : r.length ≤ length r.bytes

-- of the input f, which the number `no` refuses, 0 where it is accepted: the definition's output l, and of an accepted input
-- what holds of the rounding that the paper leaves free
pub record RunsAs (l : List ℕ) (no : ℕ) (f : List ℕ) (r : Bytes) : Type 0 where
  pub output : Puts l r
  pub right : no ≡ 0 → CellsRight (state_in f) (grid_in f)
