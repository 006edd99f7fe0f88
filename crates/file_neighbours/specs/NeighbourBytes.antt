-- The neighbour records of a lookup in a survey file, as bytes.
use Rattle.std.specs.Prelude.{ℕ, List, map, Result, Ok, Err}
use Rattle.model.specs.Point.{Location}
use Rattle.model.specs.Answer.{neighbours}
use Rattle.model.specs.Program.{state_in}
use Rattle.neighbour_records.specs.Records.{record_of}
use Rattle.survey.specs.declared.Found.{Found}
use Rattle.neighbour_bytes.specs.Fields.{records_bytes}

-- how many points an answer goes by
unfoldable pub chosen_in : Result Found ℕ → ℕ
chosen_in (Ok f) = f.count
chosen_in (Err n) = 0

-- the bytes of the chosen points' records at p, in order of choice
abbrev pub neighbour_bytes : List ℕ → Location → List ℕ
neighbour_bytes f p = records_bytes (map record_of (neighbours (state_in f) p))
