-- The cells of every grid that a begin accepts are right about what is present there.
use mathlib.Core.Path.{◌≡◌}
use mathlib.Core.Bool.{true}
use Rattle.model.specs.Lists.{All}
use Rattle.model.specs.Point.{Point, Contents, in_range}
use Rattle.model.specs.Extent.{settled}
use Rattle.model.specs.Invariant.{Sound, Invariant}
use Rattle.model.specs.Grid.{Grid, cell_location}
use Rattle.model.specs.Filling.{begin_refusal}
use Rattle.laws.proofs.ListLaws.{all_imp}
use Rattle.laws.proofs.RecordLaws.{domain_bounds}
use Rattle.laws.proofs.CallLaws.{lookup_accepted}
use Rattle.laws.proofs.ChosenLaws.{Inside, chosen_all}
use Rattle.laws.proofs.ExtentLaws.{kept_most}
use Rattle.laws.proofs.GridLaws.{cell_accepted, grid_fits}
use Rattle.error_bound.proofs.AnswerRight.{answer_right}
use Rattle.grid_cells.specs.CellsRight.{CellsRight}

pub cells_right : (q : Contents) → Invariant q.points → (g : Grid) → begin_refusal g (settled q) ≡ 0 → CellsRight (settled q) g
cells_right q v g h r row c column =
    let s = settled q in
    let p = cell_location g c r in
    let f = grid_fits g s 0 0 h in
    let a = lookup_accepted p.x p.y s (cell_accepted s g c r f.0 f.1 column row) in
    let inside : All Inside q.points = all_imp Sound Inside (λ (b : Point) k. domain_bounds b.x b.y k.location) q.points v.sound in
    let values : All (λ (b : Point). in_range b.z ≡ true) q.points = all_imp Sound (λ (b : Point). in_range b.z ≡ true) (λ b k. k.value) q.points v.sound in
    answer_right s p record {
      domain = domain_bounds p.x p.y a.0;
      some = f.1;
      inside = inside;
      kept = kept_most q inside;
      values = chosen_all s p (λ (b : Point). in_range b.z ≡ true) values;
    }
