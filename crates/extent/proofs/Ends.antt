-- The ends of points, of one and of one more, and the extent from them.
use mathlib.Core.Path.{◌≡◌, sym, ap, ◌∙◌}
use Prim.Native.Nat.{ℕ, ◌+◌, ◌^◌, ◌%◌, ◌≤◌, ◌<◌, min, max}
use native.Mathlib.Omega.{arith}
use mathlib.Core.List.{List, [], ◌∷◌, ◌++◌, map, map-append}
use lib.IntN.{ℤ, pos}
use lib.ListN.{length, get_or, length-map}
use Rattle.model.specs.Lists.{tabulate, through}
use Rattle.model.specs.Point.{Point, Extent as Kept, contents_of, point}
use Rattle.model.specs.Polygon.{enclosed}
use Rattle.model.specs.Radius.{twice_area, radius_of, initial_radius}
use Rattle.model.specs.Extent.{lesser, greater, extent_of, values_by}
use Rattle.laws.proofs.ThroughLaws.{through_last}
use Rattle.laws.proofs.ValueLaws.{values_last}
use Rattle.laws.proofs.ExtentLaws.{twice_most, kept_most}
use Rattle.point_arrays.specs.PointArrays.{held, points_in, locations_in}
use Rattle.point_arrays.proofs.ReadLaws.{length_points, points_more, points_below, locations_read}
use Rattle.extent.specs.declared.Extent.{Extent}
use Rattle.extent.specs.Kept.{with_radius, as_extent, EndsOf}

-- a number of one point more
last_of : (op : ℕ → ℕ → ℕ) (f : Point → ℕ) (l : List Point) (a : Point) (m r : ℕ) → 0 < length l → m ≡ through 0 op (map f l) → r ≡ op m (f a)
    → r ≡ through 0 op (map f (l ++ (a ∷ [])))
last_of op f l a m r h e g =
    g ∙ ap (λ (k : ℕ). op k (f a)) e
    ∙ sym (rw (map-append f l (a ∷ [])) (through_last 0 op (map f l) (f a) (omega (arith, length-map l f))))

value_last : (op : ℤ → ℤ → ℤ) (l : List Point) (a : Point) (m r : ℤ) → 0 < length l → m ≡ values_by op l → r ≡ op m a.z → r ≡ values_by op (l ++ (a ∷ []))
value_last op l a m r h e g = g ∙ ap (λ (k : ℤ). op k a.z) e ∙ sym (values_last op l a h)

pub ends_more : (l : List Point) (e r : Extent) (x y : ℕ) (z : ℤ) → 0 < length l → EndsOf l e
    → r.least_x ≡ min e.least_x x → r.greatest_x ≡ max e.greatest_x x → r.least_y ≡ min e.least_y y → r.greatest_y ≡ max e.greatest_y y
    → r.least_z ≡ lesser e.least_z z → r.greatest_z ≡ greater e.greatest_z z → EndsOf (l ++ (point x y z ∷ [])) r
ends_more l e r x y z h was lx gx ly gy lz gz = record {
  least_x = last_of min (λ a. a.x) l (point x y z) _ _ h was.least_x lx;
  greatest_x = last_of max (λ a. a.x) l (point x y z) _ _ h was.greatest_x gx;
  least_y = last_of min (λ a. a.y) l (point x y z) _ _ h was.least_y ly;
  greatest_y = last_of max (λ a. a.y) l (point x y z) _ _ h was.greatest_y gy;
  least_z = value_last lesser l (point x y z) _ _ h was.least_z lz;
  greatest_z = value_last greater l (point x y z) _ _ h was.greatest_z gz;
}

-- the points of arrays, the first and one more
module _ (xs ys : List ℕ) (zs : List ℤ) where
  pub ends_first : (r : Extent) (x y : ℕ) (z : ℤ) → x ≡ get_or xs 0 0 % 4096 → y ≡ get_or ys 0 0 % 4096 → z ≡ get_or zs 0 (pos 0)
      → EndsOf (point x y z ∷ []) r → EndsOf (points_in xs ys zs 1) r
  unfolding points_in held tabulate
  ends_first r x y z ex ey ez h = rw (ex, ey, ez) at h

  pub ends_next : (i : ℕ) (e r : Extent) (x y : ℕ) (z : ℤ) → 0 < i → i < 256 → x ≡ get_or xs i 0 % 4096 → y ≡ get_or ys i 0 % 4096 → z ≡ get_or zs i (pos 0)
      → ((l : List Point) → 0 < length l → EndsOf l e → EndsOf (l ++ (point x y z ∷ [])) r) → EndsOf (points_in xs ys zs i) e → EndsOf (points_in xs ys zs (i + 1)) r
  ends_next i e r x y z some room ex ey ez more was =
      rw (points_more xs ys zs i room, ← ex, ← ey, ← ez)
      (more (points_in xs ys zs i) (omega (arith, length_points xs ys zs i)) was)

-- the extent of the points that arrays hold, from their ends
module _ (xs ys : List ℕ) (zs : List ℤ) (n m : ℕ) (em : m ≡ min n 256) where
  abbrev points : List Point
  points = points_in xs ys zs n

  pub extent_none : (e : Extent) → m ≡ 0 → as_extent e ≡ extent_of (contents_of []) → as_extent e ≡ extent_of (contents_of points)
  unfolding points_in held tabulate
  extent_none e none h = let k : min n 256 ≡ 0 = omega arith in rw k h

  module _ (some : 0 < m) (e : Extent) (h : EndsOf (points_in xs ys zs m) e) where
    ends : EndsOf points e
    unfolding points_in
    ends = let k : min m 256 ≡ min n 256 = omega arith in rw k at h

    counted : length points ≡ m
    counted = length_points xs ys zs n ∙ sym em

    -- twice the area, from where the first m points are
    area : (a : ℕ) → a ≡ enclosed (locations_in xs ys m) → a ≡ twice_area (contents_of points)
    unfolding twice_area locations_in
    area a h = let k : min m 256 ≡ min n 256 = omega arith in rw (locations_read xs ys zs n) (rw k at h)

    pub small : (a : ℕ) → a ≡ enclosed (locations_in xs ys m) → a < 2 ^ 33
    small a h = omega (arith, area a h, twice_most (contents_of points) (points_below xs ys zs n), counted)

    pub extent_some : (a r : ℕ) → a ≡ enclosed (locations_in xs ys m) → r ≡ radius_of a m → (with_radius e r ≡ extent_of (contents_of points)) × (r ≤ 2 ^ 24)
    unfolding extent_of initial_radius
    extent_some a r g h =
        let same : with_radius e r ≡ extent_of (contents_of points) =
        rw (h, area a g, ends.least_x, ends.greatest_x, ends.least_y, ends.greatest_y, ends.least_z, ends.greatest_z, ← counted) in
        let k = ap (λ (t : Kept). t.radius) same in
        (same, omega (arith, kept_most (contents_of points) (points_below xs ys zs n)))
