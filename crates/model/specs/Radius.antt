-- Twice the area A that the points enclose, and the initial radius R0: document 01, "Search radius", with document 02's §4.
use Rattle.std.specs.Prelude.{ℕ, ◌*◌, ◌/◌, ◌≤◌, List, map, length}
use Rattle.model.specs.Point.{Location, Point, Contents, location}
use Rattle.model.specs.Distance.{root}
use Rattle.model.specs.Polygon.{enclosed}

-- where points are
abbrev pub locations : List Point → List Location
locations l = map (λ (a : Point). location a.x a.y) l

-- 2A, which is whole where A is a half
unfoldable pub twice_area : Contents → ℕ
unfolding enclosed
twice_area q = enclosed (locations q.points)

-- R0 of twice an area and a number of points, with 355/113 for π
unfoldable pub radius_of : ℕ → ℕ → ℕ
unfolding root
radius_of a n = root (65536 * 7 * 113 * a / (355 * n * 2))

unfoldable pub initial_radius : Contents → ℕ
unfolding radius_of twice_area
initial_radius q = radius_of (twice_area q) (length q.points)

-- the documents' sentence of R0, for twice an area a and n points: `radius-is` of the crate laws
pub record IsRadius (a n r : ℕ) : Type 0 where
  pub fits : r * r * 355 * n * 2 ≤ 65536 * 7 * 113 * a
  pub greatest : (q : ℕ) → q * q * 355 * n * 2 ≤ 65536 * 7 * 113 * a → q ≤ r
