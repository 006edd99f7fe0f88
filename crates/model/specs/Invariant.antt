-- What document 01 says of every survey: at most 256 points, in the domain and in range, ascending by x, then y, no two at one location.
use Rattle.std.specs.Prelude.{◌≤◌, ◌≡◌, true, List, length}
use Rattle.model.specs.Lists.{All, Pairs}
use Rattle.model.specs.Point.{Point, in_domain, in_range, precedes}

pub record Sound (a : Point) : Type 0 where
  pub location : in_domain a.x a.y ≡ true
  pub value : in_range a.z ≡ true

pub record Invariant (l : List Point) : Type 0 where
  pub count : length l ≤ 256
  pub ascending : Pairs (λ a b. precedes a b ≡ true) l
  pub sound : All Sound l
