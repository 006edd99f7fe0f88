-- What the answer of reading cells tells: how many there are, or why there are none.
use mathlib.Core.Path.{◌≡◌, sym}
use Prim.Native.Nat.{ℕ}
use mathlib.Core.List.{List}
use lib.IntN.{ℤ}
use lib.ListN.{length}
use borrow.Author.Tests.{ne_eqb}
use Rattle.std.specs.Prelude.{Result, Ok, Err}
use Rattle.model.specs.Grid.{cell_count}
use Rattle.model.specs.GridReading.{grid_of_file, cells_read_refusal, cells_read_into}
use Rattle.refusal.specs.Numbered.{told as told_by}
use Rattle.refusal.proofs.Told.{told_value, told_refused}
use Rattle.grid_reading.specs.ReadAs.{cells_read_as}
use Rattle.grid_files.specs.GridTold.{CellsTold}

module _ (f : List ℕ) (d : List ℤ) (k : ℕ) (q : Result ℕ ℕ) (e : q ≡ cells_read_as f (length d)) (d' : List ℤ) (b : d' ≡ cells_read_into f d) where
  abbrev no : ℕ
  no = cells_read_refusal f (length d)

  abbrev count : ℕ
  count = cell_count (grid_of_file f)

  told : q ≡ told_by no count
  unfolding cells_read_as
  told = e

  pub cells_told : (n : ℕ) → q ≡ Ok n → CellsTold f d k 0 d' n
  cells_told n h = let t = told_value no count q told n h in record { number = sym t.0; cells = b; count = t.1 }

  pub refused_told : (n : ℕ) → q ≡ Err n → CellsTold f d k n d' k
  refused_told n h = let t = told_refused no count q told n h in record { number = t.0; cells = b; count = rw (ne_eqb n 0 t.1) }
