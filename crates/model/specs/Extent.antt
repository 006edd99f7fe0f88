-- What is kept beside the contents, the rectangle's ends, those of the values and R0: document 02, §1.
use Rattle.std.specs.Prelude.{◌≡◌, ℕ, ◌≤◌, ◌<◌, min, max, false, cond, List, map, ℤ, pos, length, ◌≤ℤ◌}
use Rattle.std.specs.Int.Signed.{le_z}
use Rattle.model.specs.Lists.{All, Some, through}
use Rattle.model.specs.Point.{Point, Contents, Extent, State, contents_of, at}
use Rattle.model.specs.Radius.{twice_area, initial_radius, IsRadius}

abbrev pub xs : Contents → List ℕ
xs q = map (λ (a : Point). a.x) q.points

abbrev pub ys : Contents → List ℕ
ys q = map (λ (a : Point). a.y) q.points

abbrev pub lesser : ℤ → ℤ → ℤ
lesser a b = cond (le_z a b) a b

abbrev pub greater : ℤ → ℤ → ℤ
greater a b = cond (le_z a b) b a

-- an operation carried through the values of a list, as lesser or greater; 0 of none
unfoldable pub values_by : (ℤ → ℤ → ℤ) → List Point → ℤ
unfolding through
values_by op l = through (pos 0) op (map (λ (a : Point). a.z) l)

-- what is kept of no point: `ends-none` of the crate laws
abbrev pub zeros : Extent
zeros = record { least_x = 0; greatest_x = 0; least_y = 0; greatest_y = 0; least_z = pos 0; greatest_z = pos 0; radius = 0 }

-- what is kept of contents
unfoldable pub extent_of : Contents → Extent
unfolding through values_by initial_radius
extent_of q = record {
  least_x = through 0 min (xs q);
  greatest_x = through 0 max (xs q);
  least_y = through 0 min (ys q);
  greatest_y = through 0 max (ys q);
  least_z = values_by lesser q.points;
  greatest_z = values_by greater q.points;
  radius = initial_radius q;
}

-- contents, and beside them what is kept of them
abbrev pub settled : Contents → State
settled q = record { contents = q; extent = extent_of q }

-- the survey of a list of points, with nothing else set
abbrev pub survey_of : List Point → State
survey_of l = settled (contents_of l)

-- the sentences of what is kept of one point or more: `ends-are` of the crate laws
pub record IsExtent (q : Contents) (e : Extent) : Type 0 where
  -- no point is beyond an end
  pub across : All (λ (a : Point). (e.least_x ≤ a.x) × (a.x ≤ e.greatest_x)) q.points
  pub up : All (λ (a : Point). (e.least_y ≤ a.y) × (a.y ≤ e.greatest_y)) q.points
  pub values : All (λ (a : Point). (e.least_z ≤ℤ a.z) × (a.z ≤ℤ e.greatest_z)) q.points
  -- each end is that of some point
  pub least_x : Some (λ (a : Point). a.x ≡ e.least_x) q.points
  pub greatest_x : Some (λ (a : Point). a.x ≡ e.greatest_x) q.points
  pub least_y : Some (λ (a : Point). a.y ≡ e.least_y) q.points
  pub greatest_y : Some (λ (a : Point). a.y ≡ e.greatest_y) q.points
  pub least_z : Some (λ (a : Point). a.z ≡ e.least_z) q.points
  pub greatest_z : Some (λ (a : Point). a.z ≡ e.greatest_z) q.points
  pub radius : IsRadius (twice_area q) (length q.points) e.radius

-- §1's sentence of a corner dropped at (x, y) from the points l, for what is then kept: where every other point is short of an edge through it, so is the rectangle.
-- `drop-shrinks` of the crate laws
pub record Shrinks (x y : ℕ) (l : List Point) (e : Extent) : Type 0 where
  pub right : All (λ a. at x y a ≡ false → a.x < x) l → e.greatest_x < x
  pub left : All (λ a. at x y a ≡ false → x < a.x) l → x < e.least_x
  pub top : All (λ a. at x y a ≡ false → a.y < y) l → e.greatest_y < y
  pub bottom : All (λ a. at x y a ≡ false → y < a.y) l → y < e.least_y
