-- The first points in order, of those within a limit: what a struct of them holds.
use Rattle.std.specs.Prelude.{◌≡◌, ℕ, min, true, List, map, leb, pos, take}
use Rattle.model.specs.Lists.{count, All}
use Rattle.model.specs.Point.{Location, Point, State, in_range}
use Rattle.model.specs.Distance.{squared, distance}
use Rattle.model.specs.Choice.{ordered}
use Rattle.candidates.specs.declared.Candidate.{Candidate}
use Rattle.candidates.specs.declared.Candidates.{Candidates}

-- a point of s, seen from p
unfoldable pub candidate_at : State → Location → Point → Candidate
unfolding distance
candidate_at s p a = record { x = a.x; y = a.y; z = a.z; distance = distance s p a }

-- what is read past the end of the items
abbrev pub no_candidate : Candidate
no_candidate = record { x = 0; y = 0; z = pos 0; distance = 0 }

-- those held
abbrev pub list_of : Candidates → List Candidate
list_of b = take b.count b.items

-- how many points have a d² within the limit
abbrev pub points_within : State → Location → ℕ → ℕ
points_within s p limit = count (λ (a : Point). leb (squared s p a) limit) s.contents.points

-- they are the first in order, all that are within the limit, or eleven where these are more
pub record HoldsFirst (s : State) (p : Location) (limit : ℕ) (b : Candidates) : Type 0 where
  pub count : b.count ≡ min 11 (points_within s p limit)
  pub items : list_of b ≡ map (candidate_at s p) (take b.count (ordered s p))

-- their values are in range, which eight bits cannot leave
abbrev pub InRange : List Candidate → Type 0
InRange l = All (λ (a : Candidate). in_range a.z ≡ true) l
