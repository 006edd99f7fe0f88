-- What a lookup gives: the answer worked out in floats, the count and the radius, and the neighbour records: document 01, "Pull and mean".
-- The answer's rounding is what the paper leaves free: `Right`, in Mean, says what is asked of it.
use Rattle.std.specs.Prelude.{ℕ, ◌+◌, ◌/◌, cond, List, map, ℤ, pos, ◌+ℤ◌, ◌*ℤ◌, length, Float}
use Rattle.std.specs.Float.Ieee.Positive.{num, den}
use Rattle.model.specs.Point.{Location, Point, State}
use Rattle.model.specs.Distance.{distance}
use Rattle.model.specs.Choice.{choice, coincident, few}
use Rattle.model.specs.Influence.{influence_at, kind}
use Rattle.model.specs.Weight.{neighbourhood}
use Rattle.model.specs.Mean.{first_chosen, least_chosen}
use Rattle.model.specs.Computed.{mean_f}

-- the whole number nearest to half of a float that is not negative: its whole part, plus 1, halved
unfoldable pub nearest_half : Float → ℕ
nearest_half y = (num y / den y + 1) / 2

-- the answer at p, in 256ths of a step
unfoldable pub answer : State → Location → ℤ
unfolding coincident first_chosen least_chosen neighbourhood mean_f nearest_half
answer s p =
    cond (coincident s p) (pos 256 *ℤ (first_chosen s p).z)
    ((pos 256 *ℤ least_chosen s p) +ℤ pos (nearest_half (mean_f (neighbourhood s p) (least_chosen s p))))

-- how many points are chosen
abbrev pub chosen_count : State → Location → ℕ
chosen_count s p = length (choice s p).points

-- a neighbour record
pub record Neighbour : Type 0 where
  pub x : ℕ
  pub y : ℕ
  pub z : ℤ
  pub distance : ℕ
  pub kind : ℕ

unfoldable pub neighbour_of : State → Location → ℕ → Point → Neighbour
unfolding distance influence_at
neighbour_of s p r a = record { x = a.x; y = a.y; z = a.z; distance = distance s p a; kind = kind (influence_at (few s) r (distance s p a)) }

-- the records of the chosen points, in order of choice
unfoldable pub neighbours : State → Location → List Neighbour
unfolding neighbour_of choice
neighbours s p = map (neighbour_of s p (choice s p).radius) (choice s p).points
