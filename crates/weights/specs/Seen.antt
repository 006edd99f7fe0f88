-- The neighbourhood that a struct of neighbours holds, as a lookup weighs it.
use Rattle.std.specs.Prelude.{ℕ, ◌*◌, ◌^◌, ◌≤◌, ◌<◌, List, map, ℤ, pos, ◌+ℤ◌, ◌-ℤ◌, ◌*ℤ◌, nat_abs, Float, take, get_or}
use Rattle.std.specs.Float.{binary64}
use Rattle.std.specs.Float.Ieee.{div}
use Rattle.model.specs.Point.{Point, point}
use Rattle.model.specs.Influence.{influence_at}
use Rattle.model.specs.Weight.{Neighbourhood}
use Rattle.model.specs.Computed.{float}
use Rattle.neighbours.specs.declared.Neighbour.{Neighbour}
use Rattle.neighbours.specs.declared.Chosen.{Chosen}

-- what is read past the end of the items
abbrev pub no_neighbour : Neighbour
no_neighbour = record { x = 0; y = 0; z = pos 0; distance = 0; dx = pos 0; dy = pos 0 }

abbrev pub item_at : Chosen → ℕ → Neighbour
item_at c i = get_or c.items i no_neighbour

-- g, the inner product of the offsets of two neighbours
abbrev pub inner_between : Neighbour → Neighbour → ℤ
inner_between a b = (a.dx *ℤ b.dx) +ℤ (a.dy *ℤ b.dy)

-- |D D' - 65,536 g| of two neighbours
unfoldable pub excess_between : Neighbour → Neighbour → ℕ
excess_between a b = nat_abs (pos (a.distance * b.distance) -ℤ (pos 65536 *ℤ inner_between a b))

-- |1 - cos| of two neighbours
unfoldable pub cosine_gap : Neighbour → Neighbour → Float
unfolding excess_between float div
cosine_gap a b = div binary64 (float (excess_between a b)) (float (a.distance * b.distance))

unfoldable pub seen : Chosen → Neighbourhood
unfolding influence_at excess_between
seen c = record {
  count = c.count;
  influence = λ i. influence_at c.few c.radius (item_at c i).distance;
  excess = λ i j. excess_between (item_at c i) (item_at c j);
  product = λ i j. (item_at c i).distance * (item_at c j).distance;
  value = λ i. (item_at c i).z;
}

-- the chosen points that it holds
abbrev pub point_of : Neighbour → Point
point_of a = point a.x a.y a.z

unfoldable pub points_held : Chosen → List Point
points_held c = map point_of (take c.count c.items)

-- what is asked of a neighbour, so that each whole number is exact as a float
pub record Small (a : Neighbour) : Type 0 where
  pub distance : a.distance ≤ 2 ^ 24
  pub dx : nat_abs a.dx < 2 ^ 15
  pub dy : nat_abs a.dy < 2 ^ 15

-- and of all of them
pub record Bounded (c : Chosen) : Type 0 where
  pub size : c.count ≤ 10
  pub near : (i : ℕ) → i < c.count → Small (item_at c i)
