-- Which points a lookup goes by, in which order, and the search radius R: document 01, "Who is chosen".
use Rattle.std.specs.Prelude.{ℕ, Bool, false, cond, List, [], ◌∷◌, leb, length, take, get_or}
use Rattle.model.specs.Lists.{count}
use Rattle.model.specs.Point.{Location, Point, State, at, lexical, precedes, no_point}
use Rattle.model.specs.Distance.{squared, distance}
use Rattle.model.specs.Order.{sort}

-- a comes before b, seen from p: by d², then x, then y
unfoldable pub nearer : State → Location → Point → Point → Bool
unfolding squared
nearer s p a b = lexical (squared s p a) (squared s p b) (precedes a b)

-- all points in that order
unfoldable pub ordered : State → Location → List Point
unfolding nearer sort
ordered s p = sort (nearer s p) s.contents.points

-- n: how many points have D ≤ R0
unfoldable pub within : State → Location → ℕ
unfolding distance count ordered
within s p = count (λ (a : Point). leb (distance s p a) s.extent.radius) (ordered s p)

-- four points or fewer are present
abbrev pub few : State → Bool
few s = leb (length s.contents.points) 4

-- the chosen points, in order of choice, and R
pub record Choice : Type 0 where
  pub points : List Point
  pub radius : ℕ

-- D of the point at index i of the order
unfoldable pub distance_at : State → Location → ℕ → ℕ
unfolding distance ordered
distance_at s p i = distance s p (get_or (ordered s p) i no_point)

-- rules 3 to 5, for n points within R0
unfoldable pub by_count : State → Location → ℕ → Choice
unfolding ordered distance_at
by_count s p n =
    cond (leb n 4) (record { points = take 4 (ordered s p); radius = cond (few s) 0 (distance_at s p 4) })
    (cond (leb n 10) (record { points = take n (ordered s p); radius = s.extent.radius })
    (record { points = take 10 (ordered s p); radius = distance_at s p 10 }))

-- rules 2 to 5: the choice where no point is at p
unfoldable pub choice_apart : State → Location → Choice
unfolding by_count within
choice_apart s p = by_count s p (within s p)

-- the first point of a list is at p
unfoldable pub starts_at : Location → List Point → Bool
starts_at p [] = false
starts_at p (a ∷ l) = at p.x p.y a

-- a point is at p: it is the first in order, since no other has d² = 0 (`coincident-is` of the crate laws)
unfoldable pub coincident : State → Location → Bool
unfolding starts_at ordered
coincident s p = starts_at p (ordered s p)

-- rule 1, and then the others
unfoldable pub choice : State → Location → Choice
unfolding coincident ordered choice_apart
choice s p = cond (coincident s p) (record { points = take 1 (ordered s p); radius = 0 }) (choice_apart s p)
