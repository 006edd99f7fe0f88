-- The record bytes of one more point.
use mathlib.Core.Path.{◌≡◌}
use Prim.Native.Nat.{ℕ, ◌+◌}
use mathlib.Core.List.{List, ◌++◌, map, flat_map, map-append}
use lib.IntN.{ℤ, pos}
use lib.ListN.{get_or}
use Rattle.model.specs.Point.{point}
use Rattle.model.specs.SurveyFile.{record_bytes, records}
use Rattle.laws.proofs.ListLaws.{tabulate_more, flat_map_append}
use Rattle.point_arrays.specs.PointArrays.{held, wrapped}

pub records_more : (x y : List ℕ) (z : List ℤ) (n : ℕ)
    → records (map wrapped (held x y z (n + 1))) ≡ records (map wrapped (held x y z n)) ++ record_bytes (wrapped (point (get_or x n 0) (get_or y n 0) (get_or z n (pos 0))))
unfolding records held flat_map
records_more x y z n = rw (tabulate_more, map-append, flat_map_append)
