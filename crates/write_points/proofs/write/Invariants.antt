-- The invariant: the bytes up to 5 i are the records of the first i points.
use mathlib.Core.Path.{◌≡◌}
use mathlib.Core.List.{map}
use Prim.Native.Nat.{◌*◌}
use lib.ListN.{length, take}
use Rattle.model.specs.SurveyFile.{records}
use Rattle.point_arrays.specs.PointArrays.{held, wrapped}
use Rattle.write_points.proofs.write.Given as goal

abbrev pub invariant-loop-i : goal.invariant-loop-i
invariant-loop-i l = (length l.out ≡ 5 * l.n) × (take (5 * l.i) l.out ≡ records (map wrapped (held l.x l.y l.z l.i)))
