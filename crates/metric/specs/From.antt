-- What a viewpoint says of a state and a location, and squared distances and offsets from it.
use Rattle.std.specs.Prelude.{◌≡◌, ℕ, ◌+◌, ◌*◌, ◌%◌, ◌<◌, ℤ, pos, ◌-ℤ◌}
use Rattle.model.specs.Point.{Location, State, location}
use Rattle.model.specs.Distance.{gap}
use Rattle.metric.specs.declared.Viewpoint.{Viewpoint}

-- v is that of a lookup of s at p
pub record Sees (s : State) (p : Location) (v : Viewpoint) : Type 0 where
  pub location : p ≡ location v.x v.y

-- what is asked of it: a location in the domain
pub record Proper (v : Viewpoint) : Type 0 where
  pub x : v.x < 4096
  pub y : v.y < 4096

unfoldable pub squared_from : Viewpoint → ℕ → ℕ → ℕ
squared_from v x y = gap v.x x * gap v.x x + gap v.y y * gap v.y y

-- offsets of coordinates as they are read
unfoldable pub offset_x_from : Viewpoint → ℕ → ℤ
offset_x_from v x = pos (x % 4096) -ℤ pos (v.x % 4096)

unfoldable pub offset_y_from : Viewpoint → ℕ → ℤ
offset_y_from v y = pos (y % 4096) -ℤ pos (v.y % 4096)
