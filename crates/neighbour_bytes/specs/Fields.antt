-- A neighbour record as ten bytes, high byte first, and a list of them.
use Rattle.std.specs.Prelude.{ℕ}
use mathlib.Core.List.{List, [], ◌∷◌, ◌++◌, flat_map}
use Rattle.model.specs.Bytes.{bytes2, bytes4, complement}
use Rattle.neighbour_records.specs.declared.Record.{Record}

abbrev pub field_bytes : Record → List ℕ
field_bytes a = bytes2 a.x ++ bytes2 a.y ++ (complement 128 a.z ∷ []) ++ bytes4 a.distance ++ (a.kind ∷ [])

unfoldable pub records_bytes : List Record → List ℕ
unfolding flat_map
records_bytes l = flat_map field_bytes l
