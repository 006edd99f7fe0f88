-- The calls on a survey, why those that edit it are refused, and what is present after a list of them: document 01, "Survey calls" and "Refused".
use Rattle.std.specs.Prelude.{ℕ, Bool, false, cond, ◌||◌, List, [], ◌∷◌, ltb, eqb, ℤ, length}
use Rattle.model.specs.Point.{Point, Contents, State, point, contents_of, with_points, at, precedes}
use Rattle.model.specs.Extent.{settled}
use Rattle.model.specs.Order.{insert}
use Rattle.model.specs.Refusals.{on_domain, within_range}
use Rattle.model.specs.SurveyFile.{file_refusal, file_points}

-- a call with what it is handed: x, y and z, or a file's bytes. Ask is every call that only asks, as a lookup, a grid, a row or a file written: whatever it is handed, it leaves what is present
pub data Call : Type 0 where
  Add : ℕ → ℕ → ℤ → Call
  Change : ℕ → ℕ → ℤ → Call
  Drop : ℕ → ℕ → Call
  Clear : Call
  Load : List ℕ → Call
  Ask : Call

-- a fresh survey
abbrev pub fresh : Contents
fresh = contents_of []

-- a point is at the location
abbrev pub taken : ℕ → ℕ → List Point → Bool
taken x y [] = false
taken x y (a ∷ l) = at x y a || taken x y l

-- the point at the location taken out
abbrev pub remove : ℕ → ℕ → List Point → List Point
remove x y [] = []
remove x y (a ∷ l) = cond (at x y a) l (a ∷ remove x y l)

-- the point at the location given the value z
abbrev pub revalue : ℕ → ℕ → ℤ → List Point → List Point
revalue x y z [] = []
revalue x y z (a ∷ l) = cond (at x y a) (point x y z ∷ l) (a ∷ revalue x y z l)

-- the first refusal that applies to an edit, 0 of an accepted one. A call that only asks has its own, and none of them matters here
unfoldable pub refusal : Call → Contents → ℕ
unfolding file_refusal
refusal (Add x y z) q = on_domain x y (within_range z (cond (taken x y q.points) 3 (cond (ltb (length q.points) 256) 0 5)))
refusal (Change x y z) q = on_domain x y (within_range z (cond (taken x y q.points) 0 4))
refusal (Drop x y) q = on_domain x y (cond (taken x y q.points) 0 4)
refusal Clear q = 0
refusal (Load f) q = file_refusal f
refusal Ask q = 0

-- what an accepted call leaves
unfoldable pub accepted : Call → Contents → Contents
unfolding insert file_points
accepted (Add x y z) q = with_points q (insert precedes (point x y z) q.points)
accepted (Change x y z) q = with_points q (revalue x y z q.points)
accepted (Drop x y) q = with_points q (remove x y q.points)
accepted Clear q = fresh
accepted (Load f) q = contents_of (file_points f)
accepted Ask q = q

-- what a call leaves: a refused one changes nothing
unfoldable pub after : Call → Contents → Contents
unfolding refusal accepted
after c q = cond (eqb (refusal c q) 0) (accepted c q) q

-- what a list of calls leaves of contents
unfoldable pub after_all : List Call → Contents → Contents
unfolding after
after_all [] q = q
after_all (c ∷ cs) q = after_all cs (after c q)

-- what is present after a list of calls: document 01's what stands
unfoldable pub present : List Call → Contents
unfolding after_all
present cs = after_all cs fresh

-- what an edit leaves of a state: refused, the very state; accepted, what is then present, and what is kept of that
unfoldable pub edited : Call → State → State
unfolding refusal accepted
edited c s = cond (eqb (refusal c s.contents) 0) (settled (accepted c s.contents)) s
