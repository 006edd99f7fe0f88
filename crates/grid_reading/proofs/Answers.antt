-- What reading a grid file's cells answers and leaves, refused and accepted.
use mathlib.Core.Path.{◌≡◌, refl, sym, ◌∙◌}
use Prim.Native.Nat.{ℕ, ◌≤◌, ◌<◌}
use native.Mathlib.Omega.{arith}
use mathlib.Core.List.{List, ◌++◌}
use lib.IntN.{ℤ}
use lib.ListN.{length, drop}
use borrow.Author.Tests.{ne_eqb, lt-ltb, le-ltb}
use Rattle.std.specs.Prelude.{Ok, Err}
use Rattle.model.specs.Grid.{cell_count}
use Rattle.model.specs.GridReading.{grid_of_file, cells_of_file, grid_file_check, cells_read_refusal, cells_read_into}
use Rattle.laws.proofs.GridReadLaws.{Readable, read_refused, read_passes, cells_length}
use Rattle.grid_reading.specs.ReadAs.{cells_read_as}

module _ (f : List ℕ) (d : List ℤ) where
  refused : (n : ℕ) → n ≡ cells_read_refusal f (length d) → (n ≡ 0 → ⊥) → (Err n ≡ cells_read_as f (length d)) × (d ≡ cells_read_into f d)
  unfolding cells_read_as cells_read_into
  refused n e h = rw (← e, ne_eqb n 0 h) (refl, refl)

  pub file_refused : (n : ℕ) → n ≡ grid_file_check f 0 → (n ≡ 0 → ⊥) → (Err n ≡ cells_read_as f (length d)) × (d ≡ cells_read_into f d)
  file_refused n e h = refused n (e ∙ sym (read_refused f (length d) (λ z. h (e ∙ z)))) h

  module _ (a : Readable f) where
    pub room_refused : length d < cell_count (grid_of_file f) → (Err 8 ≡ cells_read_as f (length d)) × (d ≡ cells_read_into f d)
    room_refused h = refused 8 (sym (read_passes f (length d) a ∙ rw (lt-ltb (length d) (cell_count (grid_of_file f)) h))) (λ z. absurd (omega arith))

    accepted : cell_count (grid_of_file f) ≤ length d → cells_read_refusal f (length d) ≡ 0
    accepted h = read_passes f (length d) a ∙ rw (le-ltb (length d) (cell_count (grid_of_file f)) h)

    pub filled : cell_count (grid_of_file f) ≤ length d
        → (Ok (cell_count (grid_of_file f)) ≡ cells_read_as f (length d)) × (cells_of_file f ++ drop (cell_count (grid_of_file f)) d ≡ cells_read_into f d)
    unfolding cells_read_as cells_read_into
    filled h = rw (accepted h, cells_length f a) (refl, refl)
