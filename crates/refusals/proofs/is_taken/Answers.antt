-- `is_taken` meets its contract: a location is taken where the search ends before the last point.
use mathlib.Core.Path.{sym}
use Rattle.point_arrays.proofs.ReadLaws.{length_points}
use Rattle.locate.proofs.IndexLaws.{taken_is}
use Rattle.refusals.proofs.is_taken.Goals as goal

pub returns : goal.returns
returns c zs =
    let a = c.args in
    rw (c.find.ensures zs, c.clamped.ensures, ← length_points a.xs.now a.ys.now zs a.n) (sym (taken_is a.x a.y _))
