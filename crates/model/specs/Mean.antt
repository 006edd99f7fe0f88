-- The exact mean, a fraction of two whole numbers, and what is asked of an answer: document 01, "Pull and mean", and demand 3.
use Rattle.std.specs.Prelude.{◌*◌, ◌≤◌, ◌<◌, cond, ℤ, pos, ◌-ℤ◌, ◌*ℤ◌, nat_abs, get_or, ◌≤ℤ◌}
use Rattle.model.specs.Point.{Location, Point, State, no_point}
use Rattle.model.specs.Extent.{lesser, greater, values_by}
use Rattle.model.specs.Choice.{choice, coincident}
use Rattle.model.specs.Fraction.{Signed, sum, times_z, sum_z, over_z}
use Rattle.model.specs.Weight.{Neighbourhood, neighbourhood, weight}

-- the sum of weight times value, over the sum of weights
unfoldable pub weighted_mean : Neighbourhood → Signed
unfolding weight sum times_z sum_z over_z
weighted_mean h = over_z (sum_z (λ i. times_z (weight h i) (h.value i)) h.count) (sum (weight h) h.count)

-- the first chosen point
unfoldable pub first_chosen : State → Location → Point
unfolding choice
first_chosen s p = get_or (choice s p).points 0 no_point

-- the exact mean at p: of a point at p its value
unfoldable pub mean : State → Location → Signed
unfolding coincident first_chosen neighbourhood weighted_mean
mean s p = cond (coincident s p) (record { top = (first_chosen s p).z; bot = 1 }) (weighted_mean (neighbourhood s p))

-- a, in 256ths of a step, lies within 129 / 65,536 of a step of the mean m
pub record Near (a : ℤ) (m : Signed) : Type 0 where
  pub proper : 0 < m.bot
  pub close : nat_abs ((pos 256 *ℤ a *ℤ pos m.bot) -ℤ (pos 65536 *ℤ m.top)) ≤ 129 * m.bot

-- the least and the greatest chosen value
unfoldable pub least_chosen : State → Location → ℤ
unfolding values_by choice
least_chosen s p = values_by lesser (choice s p).points

unfoldable pub greatest_chosen : State → Location → ℤ
unfolding values_by choice
greatest_chosen s p = values_by greater (choice s p).points

-- what demand 3 asks of an answer at p
pub record Right (s : State) (p : Location) (a : ℤ) : Type 0 where
  pub near : Near a (mean s p)
  pub least : (pos 256 *ℤ least_chosen s p) ≤ℤ a
  pub greatest : a ≤ℤ (pos 256 *ℤ greatest_chosen s p)
