-- The grid file of a survey is accepted, and read back as its grid's six numbers and cells.
use mathlib.Core.Path.{◌≡◌, refl}
use Prim.Native.Nat.{ℕ, zero, suc, ◌≤◌, ◌<◌}
use native.Mathlib.Omega.{arith}
use mathlib.Core.Bool.{true}
use lib.IntN.{ℤ, pos, negsuc}
use lib.Signed.{◌≤ℤ◌}
use Rattle.model.specs.Lists.{tabulate, All}
use Rattle.model.specs.Point.{Location, Point, State, in_range}
use Rattle.model.specs.Choice.{choice}
use Rattle.model.specs.Mean.{least_chosen, greatest_chosen, Right}
use Rattle.model.specs.Answer.{answer}
use Rattle.model.specs.Invariant.{Sound}
use Rattle.model.specs.Grid.{Grid, proper, cell_location, row, rows_of, cells}
use Rattle.model.specs.GridFile.{grid_file}
use Rattle.model.specs.GridReading.{States, TwoBytes}
use Rattle.laws.proofs.ListLaws.{all_imp, all_append}
use Rattle.laws.proofs.ValueLaws.{≤ℤ-trans, least_keeps, greatest_keeps, range_ends, scaled_le, mag_below}
use Rattle.laws.proofs.ChosenLaws.{chosen_all}
use Rattle.laws.proofs.GridLaws.{length_cells}
use Rattle.laws.proofs.GridReadLaws.{Fits, file_read}

-- what is asked of an answer keeps it to 16 bits
module _ (s : State) (sound : All Sound s.contents.points) (p : Location) where
  in_range_lem : All (λ (b : Point). in_range b.z ≡ true) (choice s p).points
  in_range_lem = chosen_all s p (λ b. in_range b.z ≡ true) (all_imp Sound (λ b. in_range b.z ≡ true) (λ b h. h.value) s.contents.points sound)

  least_in_range : in_range (least_chosen s p) ≡ true
  unfolding least_chosen
  least_in_range = least_keeps (λ z. in_range z ≡ true) (choice s p).points refl in_range_lem

  greatest_in_range : in_range (greatest_chosen s p) ≡ true
  unfolding greatest_chosen
  greatest_in_range = greatest_keeps (λ z. in_range z ≡ true) (choice s p).points refl in_range_lem

  right_fits : (a : ℤ) → Right s p a → Fits a
  right_fits a r =
      let low : negsuc 32767 ≤ℤ a = ≤ℤ-trans _ _ a (scaled_le (negsuc 127) (least_chosen s p) (range_ends _ least_in_range).0) r.least in
      let high : a ≤ℤ pos 32512 = ≤ℤ-trans a _ _ r.greatest (scaled_le (greatest_chosen s p) (pos 127) (range_ends _ greatest_in_range).1) in
      mag_below a 32767 low (≤ℤ-trans a (pos 32512) (pos 32767) high (record { le = tt }))

module _ {A : Type 0} (P : A → Type 0) (f : ℕ → A) where
  all_tabulate : (n : ℕ) → ((i : ℕ) → i < n → P (f i)) → All P (tabulate f n)
  unfolding tabulate
  all_tabulate zero h = tt
  all_tabulate (suc n) h = all_append P (tabulate f n) _ (all_tabulate n (λ i k. h i (omega arith))) (h n (omega arith), tt)

module _ (s : State) (g : Grid) (sound : All Sound s.contents.points)
    (right : (r : ℕ) → r < g.rows → (c : ℕ) → c < g.columns → Right s (cell_location g c r) (answer s (cell_location g c r))) where
  row_fits : (r : ℕ) → r < g.rows → All Fits (row s g r)
  unfolding row
  row_fits r h =
      all_tabulate Fits (λ c. answer s (cell_location g c r)) g.columns
      (λ c k. right_fits s sound (cell_location g c r) (answer s (cell_location g c r)) (right r h c k))

  rows_fit : (n : ℕ) → n ≤ g.rows → All Fits (rows_of s g n)
  unfolding rows_of
  rows_fit zero h = tt
  rows_fit (suc n) h = all_append Fits (rows_of s g n) (row s g n) (rows_fit n (omega arith)) (row_fits n (omega arith))

  cells_fit : All Fits (cells s g)
  unfolding cells
  cells_fit = rows_fit g.rows (omega arith)

  pub grid_file_read : proper g ≡ true → TwoBytes g → States (grid_file s g) g (cells s g)
  unfolding grid_file
  grid_file_read rules words = file_read g (cells s g) rules words (length_cells s g) cells_fit
