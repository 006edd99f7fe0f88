-- What the error bounds ask of a neighbourhood: how many points are chosen, and how large the numbers are that the floats are worked out from.
use mathlib.Core.Path.{◌≡◌}
use Prim.Native.Nat.{ℕ, ◌^◌, ◌≤◌, ◌<◌}
use lib.IntN.{ℤ, pos, ◌+ℤ◌, ◌-ℤ◌, nat_abs}
use Rattle.model.specs.Influence.{Influence, coincident, inverse, tapered, edge}
use Rattle.model.specs.Weight.{Neighbourhood}

-- distances are above 0 and at most 2 ^ 24, and radii too
abbrev pub Proper : Influence → Type 0
Proper coincident = Unit {0}
Proper (inverse d) = (0 < d) × (d ≤ 2 ^ 24)
Proper (tapered r d) = (d < r) × (r ≤ 2 ^ 24)
Proper edge = Unit {0}

pub record Fair (h : Neighbourhood) : Type 0 where
  pub some : 0 < h.count
  pub most : h.count ≤ 10
  pub influences : (i : ℕ) → i < h.count → Proper (h.influence i)
  pub excesses : (i j : ℕ) → i < h.count → j < h.count → h.excess i j ≤ 2 ^ 53
  pub products : (i j : ℕ) → i < h.count → j < h.count → (0 < h.product i j) × (h.product i j ≤ 2 ^ 48)

-- every chosen value lies from least to least + 255
pub record Spread (h : Neighbourhood) (least : ℤ) : Type 0 where
  pub lifted : (i : ℕ) → i < h.count → h.value i ≡ least +ℤ pos (nat_abs (h.value i -ℤ least))
  pub small : (i : ℕ) → i < h.count → nat_abs (h.value i -ℤ least) ≤ 255
