-- What a lookup over arrays is handed, and what it has at hand once its neighbours are chosen.
use Rattle.std.specs.Prelude.{◌≡◌, ℕ, ◌^◌, ◌≤◌, ◌<◌, true, List, ℤ, length}
use Rattle.model.specs.Lists.{All}
use Rattle.model.specs.Point.{Location, Point, State, in_domain}
use Rattle.point_arrays.specs.PointArrays.{HoldsPoints}
use Rattle.metric.specs.declared.Viewpoint.{Viewpoint}
use Rattle.metric.specs.From.{Sees, Proper}
use Rattle.neighbours.specs.declared.Chosen.{Chosen}
use Rattle.neighbours.specs.Chose.{Chose}

-- of a lookup of s at p: arrays that hold its points, one or more, a viewpoint in the domain, and the kept R0, at most 2²⁴
pub record Handed (s : State) (p : Location) (xs ys : List ℕ) (zs : List ℤ) (n : ℕ) (v : Viewpoint) (r0 : ℕ) : Type 0 where
  pub points : HoldsPoints s xs ys zs n
  pub some : 0 < n
  pub sees : Sees s p v
  pub proper : Proper v
  pub radius : r0 ≡ s.extent.radius
  pub reach : r0 ≤ 2 ^ 24

-- the neighbours of a location in the domain, of a survey of one point or more, all in the domain, with a kept R0 of at most 2²⁴
pub record Asked (s : State) (p : Location) (c : Chosen) : Type 0 where
  pub domain : (p.x < 4096) × (p.y < 4096)
  pub some : 0 < length s.contents.points
  pub inside : All (λ (a : Point). in_domain a.x a.y ≡ true) s.contents.points
  pub kept : s.extent.radius ≤ 2 ^ 24
  pub chose : Chose s p c
