-- Directional terms and weights of the chosen points, exactly: document 01, "Pull and mean".
use Rattle.std.specs.Prelude.{ℕ, zero, suc, ◌*◌, Bool, true, cond, ◌&&◌, eqb, ℤ, pos, ◌-ℤ◌, ◌*ℤ◌, nat_abs, length, get_or}
use Rattle.model.specs.Point.{Location, Point, State, no_point}
use Rattle.model.specs.Distance.{distance, inner}
use Rattle.model.specs.Choice.{Choice, choice, few}
use Rattle.model.specs.Influence.{Influence, influence_at, is_edge, factor}
use Rattle.model.specs.Fraction.{Fraction, whole, plus, times, over, sum}

-- the chosen points as a lookup weighs them, counted from 0 in order of choice. |1 - cos| of two of them is excess / product
pub record Neighbourhood : Type 0 where
  pub count : ℕ
  pub influence : ℕ → Influence
  pub excess : ℕ → ℕ → ℕ
  pub product : ℕ → ℕ → ℕ
  pub value : ℕ → ℤ

-- |D D' - 65,536 g| of two points seen from p
unfoldable pub excess_of : State → Location → Point → Point → ℕ
unfolding distance inner
excess_of s p a b = nat_abs (pos (distance s p a * distance s p b) -ℤ (pos 65536 *ℤ inner s p a b))

-- the points of a choice, seen from p
unfoldable pub neighbourhood_of : State → Location → Choice → Neighbourhood
unfolding distance influence_at excess_of
neighbourhood_of s p c =
    let chosen : ℕ → Point = λ i. get_or c.points i no_point in
    record {
      count = length c.points;
      influence = λ i. influence_at (few s) c.radius (distance s p (chosen i));
      excess = λ i j. excess_of s p (chosen i) (chosen j);
      product = λ i j. distance s p (chosen i) * distance s p (chosen j);
      value = λ i. (chosen i).z;
    }

unfoldable pub neighbourhood : State → Location → Neighbourhood
unfolding neighbourhood_of choice
neighbourhood s p = neighbourhood_of s p (choice s p)

-- each of the first n is at the edge
unfoldable pub all_edge : (ℕ → Influence) → ℕ → Bool
all_edge f zero = true
all_edge f (suc n) = all_edge f n && is_edge (f n)

-- s of point i
abbrev pub factor_at : Neighbourhood → ℕ → Fraction
factor_at h i = factor (h.influence i)

-- what point j adds to the directional term of point i: s |1 - cos|, and nothing of i itself
unfoldable pub term : Neighbourhood → ℕ → ℕ → Fraction
unfolding factor whole times
term h i j = cond (eqb j i) (whole 0) (times (factor_at h j) (record { top = h.excess i j; bot = h.product i j }))

-- t, document 01's shadow term
unfoldable pub directional : Neighbourhood → ℕ → Fraction
unfolding term factor over sum
directional h i = over (sum (term h i) h.count) (sum (factor_at h) h.count)

-- s² (1 + t), or 1 each where all are at the edge, so that the mean is the plain one
unfoldable pub weight : Neighbourhood → ℕ → Fraction
unfolding all_edge factor whole plus times directional
weight h i =
    cond (all_edge h.influence h.count) (whole 1)
    (times (times (factor_at h i) (factor_at h i)) (plus (whole 1) (directional h i)))
