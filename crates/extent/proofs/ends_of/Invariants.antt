-- `ends_of` meets its contract. The invariant: the ends are those of the first i points.
use Rattle.point_arrays.specs.PointArrays.{points_in}
use Rattle.extent.specs.Kept.{EndsOf}
use Rattle.extent.proofs.ends_of.Given as goal

abbrev pub invariant-loop-i : goal.invariant-loop-i
invariant-loop-i l = EndsOf (points_in l.xs l.ys l.zs l.i) l.e
