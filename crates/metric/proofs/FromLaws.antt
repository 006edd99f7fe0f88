-- What is worked out from a viewpoint is what the model says of the state and the location that it sees.
use mathlib.Core.Path.{◌≡◌}
use Prim.Native.Nat.{◌%◌, ◌<◌}
use native.Mathlib.Omega.{arith}
use Rattle.model.specs.Point.{Location, Point, State}
use Rattle.model.specs.Distance.{squared, offset_x, offset_y}
use Rattle.metric.specs.declared.Viewpoint.{Viewpoint}
use Rattle.metric.specs.From.{Sees, Proper, squared_from, offset_x_from, offset_y_from}

module _ (s : State) (p : Location) (v : Viewpoint) (h : Sees s p v) (a : Point) where
  pub squared_seen : squared_from v a.x a.y ≡ squared s p a
  unfolding squared_from squared
  squared_seen = rw h.location

  -- of a point in the domain
  module _ (proper : Proper v) (x : a.x < 4096) (y : a.y < 4096) where
    pub offset_x_seen : offset_x_from v a.x ≡ offset_x s p a
    unfolding offset_x_from offset_x
    offset_x_seen =
        let e : a.x % 4096 ≡ a.x = omega arith in
        let f : v.x % 4096 ≡ v.x = omega (arith, proper.x) in
        rw (h.location, e, f)

    pub offset_y_seen : offset_y_from v a.y ≡ offset_y s p a
    unfolding offset_y_from offset_y
    offset_y_seen =
        let e : a.y % 4096 ≡ a.y = omega arith in
        let f : v.y % 4096 ≡ v.y = omega (arith, proper.y) in
        rw (h.location, e, f)
