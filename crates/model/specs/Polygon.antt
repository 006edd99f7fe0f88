-- The convex polygon around locations, and twice its area: document 02, §4.
-- It goes along the locations as they stand; that it is the polygon, of locations that ascend by x, then y, as those of every survey do, is `polygon-is` of the crate laws.
use Rattle.std.specs.Prelude.{ℕ, ◌+◌, ◌-◌, ◌*◌, ◌≤◌, ◌<◌, ◌≡◌, ◌⊎◌, ◌↔◌, Bool, true, cond, ltb, length, take, drop}
use mathlib.Core.List.{List, [], ◌∷◌, ◌++◌, reverse, reverse_aux}
use Rattle.model.specs.Lists.{All, Among, Pairs, Steps}
use Rattle.model.specs.Point.{Location}

-- The cross product of b - a and c - a is `cross_plus a b c` less `cross_minus a b c`: it is positive where c lies left of the line from a to b, and zero where it lies on it.
abbrev pub cross_plus : Location → Location → Location → ℕ
cross_plus a b c = a.x * b.y + b.x * c.y + c.x * a.y

abbrev pub cross_minus : Location → Location → Location → ℕ
cross_minus a b c = a.y * b.x + b.y * c.x + c.y * a.x

-- the way from a by b to c turns left, or right
unfoldable pub turns_left : Location → Location → Location → Bool
turns_left a b c = ltb (cross_minus a b c) (cross_plus a b c)

unfoldable pub turns_right : Location → Location → Location → Bool
turns_right a b c = ltb (cross_plus a b c) (cross_minus a b c)

-- A side is a chain of locations, the last one first, that turns one way at each of its inner ones. turn a b p: the way from a by b to p turns so.
-- trim: the chain without those at its end where the way on to p does not turn so
unfoldable pub trim : (Location → Location → Location → Bool) → List Location → Location → List Location
trim turn [] p = []
trim turn (b ∷ []) p = b ∷ []
trim turn (b ∷ a ∷ r) p = cond (turn a b p) (b ∷ a ∷ r) (trim turn (a ∷ r) p)

-- the chain, on to each location of a list
unfoldable pub extend : (Location → Location → Location → Bool) → List Location → List Location → List Location
unfolding trim
extend turn s [] = s
extend turn s (p ∷ l) = extend turn (p ∷ trim turn s p) l

-- the lower and the upper side, each from the last location to the first
unfoldable pub lower : List Location → List Location
unfolding turns_left extend
lower l = extend turns_left [] l

unfoldable pub upper : List Location → List Location
unfolding turns_right extend
upper l = extend turns_right [] l

-- the corners in counter-clockwise order, from the first location round to it again: the lower side turned about, and then the upper one
unfoldable pub polygon : List Location → List Location
unfolding lower upper
polygon l = reverse_aux (drop 1 (lower l)) (upper l)

-- The shoelace formula: twice the area that a closed way goes round, counter-clockwise, is `shoelace_plus` less `shoelace_minus`.
unfoldable pub shoelace_plus : List Location → ℕ
shoelace_plus [] = 0
shoelace_plus (a ∷ []) = 0
shoelace_plus (a ∷ b ∷ l) = a.x * b.y + shoelace_plus (b ∷ l)

unfoldable pub shoelace_minus : List Location → ℕ
shoelace_minus [] = 0
shoelace_minus (a ∷ []) = 0
shoelace_minus (a ∷ b ∷ l) = a.y * b.x + shoelace_minus (b ∷ l)

-- twice the area that locations enclose
unfoldable pub enclosed : List Location → ℕ
unfolding polygon shoelace_plus shoelace_minus
enclosed l = shoelace_plus (polygon l) - shoelace_minus (polygon l)

-- one location stands before another: by x, then y
abbrev pub Before : Location → Location → Type 0
Before a b = (a.x < b.x) ⊎ ((a.x ≡ b.x) × (a.y < b.y))

-- c lies on the line from a to b, or left of it
pub record Left (a b c : Location) : Type 0 where
  pub le : cross_minus a b c ≤ cross_plus a b c

-- any three of the locations are on one line
abbrev pub OneLine : List Location → Type 0
OneLine l = (a b c : Location) → Among a l → Among b l → Among c l → cross_plus a b c ≡ cross_minus a b c

-- a way turns left at each location between its ends
abbrev pub Turns : List Location → Type 0
Turns [] = Unit {0}
Turns (a ∷ []) = Unit {0}
Turns (a ∷ b ∷ []) = Unit {0}
Turns (a ∷ b ∷ c ∷ l) = (turns_left a b c ≡ true) × Turns (b ∷ c ∷ l)

-- document 02's sentences of a polygon w around the locations l: `polygon-is` of the crate laws
pub record IsPolygon (l w : List Location) : Type 0 where
  -- it begins at the first location and comes back to it, by another where there is one
  pub begins : take 1 w ≡ take 1 l
  pub ends : take 1 (reverse w) ≡ take 1 l
  pub goes : 1 < length l → 1 < length w
  -- its corners are among the locations, and after its beginning none comes twice
  pub corners : (a : Location) → Among a w → Among a l
  pub once : Pairs (λ a b. a ≡ b → ⊥) (drop 1 w)
  -- no location lies outside: each lies left of every edge, or on its line
  pub around : Steps (λ a b. (q : Location) → Among q l → Left a b q) w
  -- unless all are on one line, it turns left at every corner, the one where it closes among them
  pub convex : (OneLine l → ⊥) → Turns (w ++ take 1 (drop 1 w))

-- and of twice the area a that the locations l enclose: zero exactly where all are on one line, and at most that of an upright rectangle around them: `area-is` of the crate laws
pub record IsArea (l : List Location) (a : ℕ) : Type 0 where
  pub flat : (a ≡ 0) ↔ OneLine l
  pub most : (x₀ x₁ y₀ y₁ : ℕ) → All (λ q. (x₀ ≤ q.x) × (q.x ≤ x₁) × (y₀ ≤ q.y) × (q.y ≤ y₁)) l → a ≤ 2 * ((x₁ - x₀) * (y₁ - y₀))
