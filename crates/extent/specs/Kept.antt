-- What the struct of an extent holds: the model's numbers, and the ends of a list of points.
use Rattle.std.specs.Prelude.{◌≡◌, ℕ, ◌^◌, min, max, List, map}
use Rattle.model.specs.Lists.{through}
use Rattle.model.specs.Point.{Point, Extent as Kept}
use Rattle.model.specs.Extent.{lesser, greater, values_by}
use Rattle.extent.specs.declared.Extent.{Extent}

-- the model's numbers: the ends as they stand, and r as R0
abbrev pub with_radius : Extent → ℕ → Kept
with_radius e r = record {
  least_x = e.least_x;
  greatest_x = e.greatest_x;
  least_y = e.least_y;
  greatest_y = e.greatest_y;
  least_z = e.least_z;
  greatest_z = e.greatest_z;
  radius = r;
}

-- all as they stand
abbrev pub as_extent : Extent → Kept
as_extent e = with_radius e e.radius

-- as they are read, whatever is held: R0 above 2²⁴ as 2²⁴
abbrev pub extent_read : Extent → Kept
extent_read e = with_radius e (min e.radius (2 ^ 24))

-- the ends are those of the points l, whatever R0 is
pub record EndsOf (l : List Point) (e : Extent) : Type 0 where
  pub least_x : e.least_x ≡ through 0 min (map (λ (a : Point). a.x) l)
  pub greatest_x : e.greatest_x ≡ through 0 max (map (λ (a : Point). a.x) l)
  pub least_y : e.least_y ≡ through 0 min (map (λ (a : Point). a.y) l)
  pub greatest_y : e.greatest_y ≡ through 0 max (map (λ (a : Point). a.y) l)
  pub least_z : e.least_z ≡ values_by lesser l
  pub greatest_z : e.greatest_z ≡ values_by greater l
