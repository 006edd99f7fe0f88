-- A neighbour record as the program holds it, of the model's and of a chosen item, and a list of them.
use Rattle.std.specs.Prelude.{◌≡◌, ℕ, ◌≤◌, Bool, map, pos, take}
use Rattle.model.specs.Point.{Location, State}
use Rattle.model.specs.Influence.{influence_at, kind}
use Rattle.model.specs.Answer as model
use Rattle.neighbours.specs.declared.Neighbour.{Neighbour}
use Rattle.neighbour_records.specs.declared.Record.{Record}
use Rattle.neighbour_records.specs.declared.RecordList.{RecordList}

abbrev pub record_of : model.Neighbour → Record
record_of n = record { x = n.x; y = n.y; z = n.z; distance = n.distance; kind = n.kind }

-- few: four points or fewer are present; r: the radius
unfoldable pub item_record : Bool → ℕ → Neighbour → Record
unfolding influence_at
item_record few r a = record { x = a.x; y = a.y; z = a.z; distance = a.distance; kind = kind (influence_at few r a.distance) }

abbrev pub no_record : Record
no_record = record { x = 0; y = 0; z = pos 0; distance = 0; kind = 0 }

-- the records of the chosen points of s at p, in order of choice
pub record Listed (s : State) (p : Location) (r : RecordList) : Type 0 where
  pub size : r.count ≤ 10
  pub items : take r.count r.items ≡ map record_of (model.neighbours s p)
