-- The first points in order, as many as a choice goes by; a choice by how many of them it takes; and what is worked out of a candidate on the way.
use Rattle.std.specs.Prelude.{◌≡◌, ℕ, ◌≤◌, ◌<◌, true, map, length, take}
use Rattle.model.specs.Lists.{All}
use Rattle.model.specs.Point.{Location, Point, State, in_range}
use Rattle.model.specs.Choice.{Choice, ordered, within}
use Rattle.metric.specs.declared.Viewpoint.{Viewpoint}
use Rattle.metric.specs.From.{offset_x_from, offset_y_from}
use Rattle.squares.specs.Squares.{needed}
use Rattle.candidates.specs.declared.Candidate.{Candidate}
use Rattle.candidates.specs.declared.Candidates.{Candidates}
use Rattle.candidates.specs.First.{candidate_at, list_of}
use Rattle.neighbours.specs.declared.Neighbour.{Neighbour}
use Rattle.neighbours.specs.declared.Selection.{Selection}

-- b holds the first points of s in order, seen from p, as many as the choice goes by where k are within R0
pub record HoldsEnough (s : State) (p : Location) (k : ℕ) (b : Candidates) : Type 0 where
  pub within : k ≡ within s p
  pub size : b.count ≤ 11
  pub present : b.count ≤ length s.contents.points
  pub enough : needed k (length s.contents.points) ≤ b.count
  pub items : list_of b ≡ map (candidate_at s p) (take b.count (ordered s p))
  pub inside : All (λ (a : Point). (a.x < 4096) × (a.y < 4096)) (take b.count (ordered s p))
  pub values : All (λ (a : Point). in_range a.z ≡ true) (take b.count (ordered s p))

-- the choice k takes the first of those that b holds, as many as t says
pub record Selects (s : State) (p : Location) (k : Choice) (b : Candidates) (t : Selection) : Type 0 where
  pub held : t.count ≤ b.count
  pub points : take t.count (ordered s p) ≡ k.points
  pub radius : t.radius ≡ k.radius

-- a candidate with its offsets from a viewpoint
unfoldable pub seen_from : Viewpoint → Candidate → Neighbour
unfolding offset_x_from offset_y_from
seen_from v a =
    record { x = a.x; y = a.y; z = a.z; distance = a.distance; dx = offset_x_from v a.x; dy = offset_y_from v a.y }
