-- The points that three arrays and a count hold.
use Rattle.std.specs.Prelude.{◌≡◌, ℕ, ◌%◌, min, List, map, ℤ, pos, get_or}
use Rattle.model.specs.Lists.{tabulate}
use Rattle.model.specs.Point.{Location, Point, State, location, point}

-- as they stand: the first n elements
unfoldable pub held : List ℕ → List ℕ → List ℤ → ℕ → List Point
unfolding tabulate
held xs ys zs n = tabulate (λ i. point (get_or xs i 0) (get_or ys i 0) (get_or zs i (pos 0))) n

-- a point with its coordinates taken modulo 4,096: itself in the domain
abbrev pub wrapped : Point → Point
wrapped a = point (a.x % 4096) (a.y % 4096) a.z

-- as they are read, whatever the arrays hold: coordinates modulo 4,096, and a count above 256 as 256
unfoldable pub points_in : List ℕ → List ℕ → List ℤ → ℕ → List Point
unfolding held
points_in xs ys zs n = map wrapped (held xs ys zs (min n 256))

-- where they are, by the arrays of x and y alone: `locations-read` of this crate
unfoldable pub locations_in : List ℕ → List ℕ → ℕ → List Location
unfolding tabulate
locations_in xs ys n = tabulate (λ i. location (get_or xs i 0 % 4096) (get_or ys i 0 % 4096)) (min n 256)

-- the points of s are these
abbrev pub HoldsPoints : State → List ℕ → List ℕ → List ℤ → ℕ → Type 0
HoldsPoints s xs ys zs n = s.contents.points ≡ points_in xs ys zs n

-- nothing in them is read otherwise than it stands
abbrev pub AsHeld : List ℕ → List ℕ → List ℤ → ℕ → Type 0
AsHeld xs ys zs n = points_in xs ys zs n ≡ held xs ys zs n
