-- Locations as bytes, four each: x in two and y in two, high byte first.
use Rattle.std.specs.Prelude.{ℕ, ◌+◌, ◌*◌, ◌/◌, List, length}
use Rattle.model.specs.Lists.{tabulate}
use Rattle.model.specs.Bytes.{word_at}
use Rattle.model.specs.Point.{Location, location}

-- the location at index i
abbrev pub location_at : List ℕ → ℕ → Location
location_at b i = location (word_at b (4 * i)) (word_at b (4 * i + 2))

-- all of them; fewer than 4 bytes at the end are none
unfoldable pub locations_in : List ℕ → List Location
unfolding tabulate
locations_in b = tabulate (location_at b) (length b / 4)
