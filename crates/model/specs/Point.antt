-- Points, locations and the domain that they lie in: document 01, "The sheet".
use Rattle.std.specs.Prelude.{ℕ, Bool, ◌&&◌, ◌||◌, List, ltb, eqb, ℤ, pos, negsuc}
use Rattle.std.specs.Int.Signed.{le_z}

-- where a lookup is made: document 01's place, P
pub record Location : Type 0 where
  pub x : ℕ
  pub y : ℕ

-- a measured point: wear x in steps of 16 cycles, rest y in steps of 4 hours, value z in register steps
pub record Point : Type 0 where
  pub x : ℕ
  pub y : ℕ
  pub z : ℤ

abbrev pub location : ℕ → ℕ → Location
location x y = record { x = x; y = y }

abbrev pub point : ℕ → ℕ → ℤ → Point
point x y z = record { x = x; y = y; z = z }

-- what is read at an index past the end of a list of points
abbrev pub no_point : Point
no_point = point 0 0 (pos 0)

-- what calls determine, document 01's what stands: the points
pub record Contents : Type 0 where
  pub points : List Point

-- what is kept of the points: the least and the greatest x, y and value, and the initial radius R0
pub record Extent : Type 0 where
  pub least_x : ℕ
  pub greatest_x : ℕ
  pub least_y : ℕ
  pub greatest_y : ℕ
  pub least_z : ℤ
  pub greatest_z : ℤ
  pub radius : ℕ

-- what a lookup reads: the contents, and what is kept beside them so that no lookup works it out anew
pub record State : Type 0 where
  pub contents : Contents
  pub extent : Extent

-- the contents of a list of points, with nothing else set
abbrev pub contents_of : List Point → Contents
contents_of l = record { points = l }

-- contents with other points in place of their own
abbrev pub with_points : Contents → List Point → Contents
with_points q l = record { points = l }

-- the domain, document 01's sheet: both coordinates from 0 to 4,095
abbrev pub in_domain : ℕ → ℕ → Bool
in_domain x y = ltb x 4096 && ltb y 4096

-- the value range, document 01's register: -128 to 127
abbrev pub in_range : ℤ → Bool
in_range z = le_z (negsuc 127) z && le_z z (pos 127)

-- the point a is at the location (x, y)
abbrev pub at : ℕ → ℕ → Point → Bool
at x y a = eqb a.x x && eqb a.y y

-- m is below n, or they are equal and the rest decides
abbrev pub lexical : ℕ → ℕ → Bool → Bool
lexical m n rest = ltb m n || (eqb m n && rest)

-- a stands before b by x, then y
abbrev pub precedes : Point → Point → Bool
precedes a b = lexical a.x b.x (ltb a.y b.y)
