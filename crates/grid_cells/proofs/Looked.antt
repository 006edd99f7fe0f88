-- A lookup where a cell is finds the cell's value, and what holds of its rounding holds of the cell's.
use mathlib.Core.Path.{◌≡◌, ◌∙◌}
use mathlib.Core.Bool.{true}
use Prim.Native.Nat.{ℕ, ◌<◌}
use lib.ListN.{length}
use Rattle.model.specs.Point.{Location, State}
use Rattle.model.specs.Grid.{Grid, proper, cell_location}
use Rattle.laws.proofs.GridLaws.{cell_accepted}
use Rattle.std.specs.Prelude.{Result, Ok}
use Rattle.survey.specs.declared.Found.{Found}
use Rattle.survey.specs.LookedUp.{found, looked_up, Rounded}
use Rattle.survey.proofs.Looking.{looked_up_lem}
use Rattle.grid_cells.proofs.Rows.{CellRight}

module _ (s : State) (g : Grid) (c r : ℕ) (rules : proper g ≡ true) (some : 0 < length s.contents.points) (hc : c < g.columns) (hr : r < g.rows) where
  abbrev p : Location
  p = cell_location g c r

  pub cell_found : (q : Result Found ℕ) → (q ≡ looked_up s p.x p.y) × Rounded s p q → (q ≡ Ok (found s p)) × CellRight s g r c
  unfolding Rounded
  cell_found q h =
      let here = h.0 ∙ looked_up_lem s p.x p.y (cell_accepted s g c r rules some hc hr) in
      (here, rw here at h.1)
