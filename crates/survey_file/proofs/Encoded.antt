-- The file of points that arrays hold, as records and trailer, and how many bytes it has.
use mathlib.Core.Path.{◌≡◌}
use Prim.Native.Nat.{ℕ, ◌+◌, ◌*◌, min}
use mathlib.Core.List.{List, ◌++◌, map}
use lib.IntN.{ℤ}
use lib.ListN.{length, length-append, length-map}
use Rattle.model.specs.Bytes.{bytes2, bytes4, total}
use Rattle.model.specs.SurveyFile.{records, file_of, magic}
use Rattle.laws.proofs.RecordLaws.{length_records}
use Rattle.point_arrays.specs.PointArrays.{held, wrapped, points_in}
use Rattle.point_arrays.proofs.HeldLaws.{length_held}

module _ (x y : List ℕ) (z : List ℤ) (n : ℕ) where
  pub length_records_held : length (records (map wrapped (held x y z n))) ≡ 5 * n
  length_records_held = rw (length_records, length-map, length_held)

  -- the file of the n points that are read of a count
  module _ (count : ℕ) (e : n ≡ min count 256) where
    pub file_in : file_of (points_in x y z count) ≡ records (map wrapped (held x y z n)) ++ (bytes2 n ++ bytes4 (5 * n) ++ bytes2 (total (records (map wrapped (held x y z n)))) ++ magic)
    unfolding file_of points_in
    file_in = rw (← e, length_records_held, length-map, length_held x y z n)

    pub length_file_in : length (file_of (points_in x y z count)) ≡ 5 * n + 12
    length_file_in = rw (file_in, length-append (records (map wrapped (held x y z n))), length_records_held)
