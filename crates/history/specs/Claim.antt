-- Demand 3, of one lookup in what is present, and of one that is lent neighbour records; and document 02's §1 and §4, of what is kept.
use Rattle.std.specs.Prelude.{ℕ, ◌<◌, ◌≤◌, ◌≡◌, ◌↔◌, true, List, [], length, Result, Ok, Err}
use Rattle.model.specs.Point.{Contents, Extent, location, in_domain}
use Rattle.model.specs.Polygon.{polygon, IsPolygon, IsArea}
use Rattle.model.specs.Radius.{locations, twice_area}
use Rattle.model.specs.Extent.{zeros, extent_of, settled, IsExtent}
use Rattle.model.specs.Mean.{Right}
use Rattle.neighbour_records.specs.declared.Record.{Record}
use Rattle.survey.specs.declared.Found.{Found}

-- at a location in the domain: 6 exactly where no point is present, and otherwise an answer within 129/65,536 of the exact mean
-- and between the least and the greatest chosen value
pub record Claim (x y : ℕ) (q : Contents) (a : Result Found ℕ) : Type 0 where
  pub six : in_domain x y ≡ true → (a ≡ Err 6) ↔ (q.points ≡ [])
  pub right : in_domain x y ≡ true → (q.points ≡ [] → ⊥) → (f : Found) × (a ≡ Ok f) × Right (settled q) (location x y) f.answer

-- where n records are lent, of a list that was l and is k after it: under ten give 8, after 1 and 6, and change nothing; from ten on the claim holds
pub record ClaimLent (x y n : ℕ) (q : Contents) (a : Result Found ℕ) (l k : List Record) : Type 0 where
  pub six : n < 10 → in_domain x y ≡ true → q.points ≡ [] → a ≡ Err 6
  pub eight : n < 10 → in_domain x y ≡ true → (q.points ≡ [] → ⊥) → a ≡ Err 8
  pub unaltered : n < 10 → k ≡ l
  pub enough : 10 ≤ n → Claim x y q a

-- §1, of what is kept where q is present: it follows from q; so it is zeros of no point, and of one or more what §1 says.
-- §4: R0 goes by twice the area of the convex polygon around the points
pub record ClaimKept (q : Contents) (e : Extent) : Type 0 where
  pub same : e ≡ extent_of q
  pub none : q.points ≡ [] → e ≡ zeros
  pub ends : 0 < length q.points → IsExtent q e
  pub around : IsPolygon (locations q.points) (polygon (locations q.points))
  pub area : IsArea (locations q.points) (twice_area q)
