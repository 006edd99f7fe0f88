-- The squared distances of all points, and which of them are within a limit.
use Rattle.std.specs.Prelude.{◌≡◌, ℕ, zero, suc, ◌^◌, ◌<◌, min, max, Bool, cond, List, [], ◌∷◌, ◌++◌, map, leb, length, take, get_or}
use Rattle.model.specs.Lists.{count}
use Rattle.model.specs.Point.{Location, State}
use Rattle.model.specs.Distance.{squared}

-- d² of each point of s, seen from p
abbrev pub HoldsSquares : State → Location → List ℕ → Type 0
HoldsSquares s p l = l ≡ map (squared s p) s.contents.points

-- each has 32 bits
abbrev pub Words : List ℕ → Type 0
Words l = (i : ℕ) → i < length l → get_or l i 0 < 2 ^ 32

-- a squared distance is within the limit
abbrev pub within : ℕ → ℕ → Bool
within limit d = leb d limit

abbrev pub count_within : ℕ → List ℕ → ℕ
count_within limit l = count (within limit) l

-- the indices below n that pass a test, ascending
unfoldable pub indices_of : (ℕ → Bool) → ℕ → List ℕ
indices_of t zero = []
indices_of t (suc n) = indices_of t n ++ cond (t n) (n ∷ []) []

-- the indices of those within the limit
abbrev pub indices_within : ℕ → List ℕ → List ℕ
indices_within limit l = indices_of (λ i. within limit (get_or l i 0)) (length l)

-- these indices are the first k of a list
pub record HoldsIndices (limit : ℕ) (l : List ℕ) (k : ℕ) (at : List ℕ) : Type 0 where
  pub count : k ≡ length (indices_within limit l)
  pub indices : take k at ≡ indices_within limit l

-- how many points the choice goes by where k of n are within R0: five, or those within R0, or eleven; all where they are fewer
abbrev pub needed : ℕ → ℕ → ℕ
needed k n = min (max 5 (min k 11)) n
