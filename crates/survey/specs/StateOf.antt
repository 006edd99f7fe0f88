-- What a survey holds, as its arrays and the numbers that it keeps are read. What the arrays hold past the count is free.
use Rattle.std.specs.Prelude.{◌≡◌, ◌^◌, ◌≤◌, List}
use Rattle.model.specs.Point.{Point, Contents, State, contents_of, with_points}
use Rattle.model.specs.Extent.{settled}
use Rattle.point_arrays.specs.PointArrays.{points_in, AsHeld}
use Rattle.extent.specs.Kept.{extent_read}
use Rattle.survey.specs.declared.Survey.{Survey}

-- what is present
unfoldable pub contents_in : Survey → Contents
contents_in s = contents_of (points_in s.x s.y s.z s.count)

-- what a lookup reads
abbrev pub state_of : Survey → State
state_of s = record { contents = contents_in s; extent = extent_read s.extent }

-- no point is read otherwise than it stands
abbrev pub PlainPoints : Survey → Type 0
PlainPoints s = AsHeld s.x s.y s.z s.count

-- nothing in the survey is
unfoldable pub Plain : Survey → Type 0
Plain s = PlainPoints s × (s.extent.radius ≤ 2 ^ 24)

-- t has the points l in place of those of s
pub record Becomes (s : Survey) (l : List Point) (t : Survey) : Type 0 where
  pub contents : contents_in t ≡ with_points (contents_in s) l
  pub plain : PlainPoints s → PlainPoints t

-- t has the contents of s, and beside them what is kept of them, whatever s kept
pub record Settles (s t : Survey) : Type 0 where
  pub state : state_of t ≡ settled (contents_in s)
  pub plain : PlainPoints s → Plain t
