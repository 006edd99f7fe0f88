-- Two surveys at the same locations, and what lookups in them have in common: document 02, §5.
use Rattle.std.specs.Prelude.{◌≡◌, ◌⊎◌, ℕ, false, map}
use Rattle.model.specs.Lists.{Beside}
use Rattle.model.specs.Point.{Location, Point, Contents, State}
use Rattle.model.specs.Distance.{distance}
use Rattle.model.specs.Radius.{locations}
use Rattle.model.specs.Choice.{choice, coincident}
use Rattle.model.specs.Weight.{neighbourhood, weight}
use Rattle.model.specs.Mean.{mean}
use Rattle.model.specs.Computed.{weight_f}
use Rattle.model.specs.Answer.{Neighbour, answer, neighbours}
use Rattle.model.specs.Calls.{taken}

-- they stand at the same locations, document 02's places
pub record Alike (q r : Contents) : Type 0 where
  pub locations : locations q.points ≡ locations r.points

-- the point a of s has the value of b, or no point at its location is chosen at p
abbrev pub Spares : State → Location → Point → Point → Type 0
Spares s p a b = (a.z ≡ b.z) ⊎ (taken a.x a.y (choice s p).points ≡ false)

-- point by point, the values of s and r differ only at points that are not chosen at p
abbrev pub Spared : State → Location → Contents → Type 0
Spared s p r = Beside (Spares s p) s.contents.points r.points

-- what depends on no value: the points chosen at p, their order, R, their distances, kinds and weights, exact and computed. `chooses-alike` of the crate laws
pub record ChoosesAlike (s t : State) (p : Location) : Type 0 where
  pub coincident : coincident s p ≡ coincident t p
  pub locations : locations (choice s p).points ≡ locations (choice t p).points
  pub radius : (choice s p).radius ≡ (choice t p).radius
  pub distances : map (distance s p) (choice s p).points ≡ map (distance t p) (choice t p).points
  pub kinds : map (λ (n : Neighbour). n.kind) (neighbours s p) ≡ map (λ (n : Neighbour). n.kind) (neighbours t p)
  pub weights : (i : ℕ) → weight (neighbourhood s p) i ≡ weight (neighbourhood t p) i
  pub computed : (i : ℕ) → weight_f (neighbourhood s p) i ≡ weight_f (neighbourhood t p) i

-- what is the same besides, where none of the altered values is that of a point chosen at p. `answers-alike` of the crate laws
pub record AnswersAlike (s t : State) (p : Location) : Type 0 where
  pub chosen : choice s p ≡ choice t p
  pub exact : mean s p ≡ mean t p
  pub computed : answer s p ≡ answer t p
  pub records : neighbours s p ≡ neighbours t p
