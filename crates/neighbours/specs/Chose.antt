-- That a struct holds the neighbours of a location: the choice of document 01, with D and the offsets beside each point, values in range. What the items past the count hold is free.
use Rattle.std.specs.Prelude.{◌≡◌, ◌≤◌, true, map, length, take}
use Rattle.model.specs.Lists.{All}
use Rattle.model.specs.Point.{Location, Point, State, in_range}
use Rattle.model.specs.Distance.{distance, offset_x, offset_y}
use Rattle.model.specs.Choice.{Choice, choice, few}
use Rattle.neighbours.specs.declared.Neighbour.{Neighbour}
use Rattle.neighbours.specs.declared.Chosen.{Chosen}

-- a point of s, seen from p
unfoldable pub neighbour_at : State → Location → Point → Neighbour
unfolding distance offset_x offset_y
neighbour_at s p a =
    record { x = a.x; y = a.y; z = a.z; distance = distance s p a; dx = offset_x s p a; dy = offset_y s p a }

-- c holds the choice k
pub record Holds (s : State) (p : Location) (k : Choice) (c : Chosen) : Type 0 where
  pub size : c.count ≤ 10
  pub count : c.count ≡ length k.points
  pub items : take c.count c.items ≡ map (neighbour_at s p) k.points
  pub values : All (λ (a : Point). in_range a.z ≡ true) k.points
  pub radius : c.radius ≡ k.radius
  pub few : c.few ≡ few s

-- the choice of s at p
abbrev pub Chose : State → Location → Chosen → Type 0
Chose s p c = Holds s p (choice s p) c
