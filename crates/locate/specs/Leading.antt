-- How many points at the front of a list are elsewhere, or not yet behind a location.
use Rattle.std.specs.Prelude.{ℕ, suc, Bool, cond, not, List, [], ◌∷◌, pos}
use Rattle.model.specs.Point.{Point, point, at, precedes}

module _ {A : Type 0} where
  -- how many at the front pass a test
  unfoldable pub leading : (A → Bool) → List A → ℕ
  leading f [] = 0
  leading f (a ∷ l) = cond (f a) (suc (leading f l)) 0

-- the point is not at the location
abbrev pub elsewhere : ℕ → ℕ → Point → Bool
elsewhere x y a = not (at x y a)

-- a point at the location does not come before this one
abbrev pub not_after : ℕ → ℕ → Point → Bool
not_after x y a = not (precedes (point x y (pos 0)) a)

-- what a search passes: where `behind`, the points that a point at the location does not come before, and otherwise those elsewhere
unfoldable pub passes : Bool → ℕ → ℕ → Point → Bool
passes behind x y = cond behind (not_after x y) (elsewhere x y)
