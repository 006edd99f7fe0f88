-- How the code holds a side of the polygon, and what it adds up along it.
use Rattle.std.specs.Prelude.{ℕ, zero, suc, ◌+◌, ◌*◌, Bool, cond, List, [], ◌∷◌, get_or}
use Rattle.model.specs.Point.{Location, location}
use Rattle.model.specs.Polygon.{turns_left, turns_right}

-- the first d locations of two arrays, the last one first
unfoldable pub stacked : List ℕ → List ℕ → ℕ → List Location
stacked xs ys zero = []
stacked xs ys (suc d) = location (get_or xs d 0) (get_or ys d 0) ∷ stacked xs ys d

-- the turn of the upper side, or of the lower one
unfoldable pub turn_of : Bool → Location → Location → Location → Bool
turn_of up = cond up turns_right turns_left

-- the sum of each of the first d of a, but the first, times the one before it of b
unfoldable pub laced : List ℕ → List ℕ → ℕ → ℕ
laced us vs zero = 0
laced us vs (suc zero) = 0
laced us vs (suc (suc k)) = get_or us (suc k) 0 * get_or vs k 0 + laced us vs (suc k)
