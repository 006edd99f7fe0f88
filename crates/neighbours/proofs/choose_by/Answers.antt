-- `choose_by` meets its contract: what is selected of the nearest is filled in.
use mathlib.Core.Path.{sym, ap, ◌∙◌}
use lib.ListN.{length}
use Rattle.point_arrays.proofs.ReadLaws.{length_points}
use Rattle.neighbours.proofs.choose_by.Goals as goal

pub returns : goal.returns
returns c = λ s p points sees er.
    let a = c.args in
    let h = c.nearest_points-b.ensures s p points sees er in
    let m = c.clamped-m.ensures ∙ sym (length_points a.xs.now a.ys.now a.zs.now a.n) ∙ sym (ap length points) in
    c.filled.ensures s p _ _ sees c.requires h m (c.selected-t.ensures.selects s p h m er)
