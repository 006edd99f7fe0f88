-- `whole_part` meets its contract. The invariant: the whole part lies from `low` up to, and not at, `high`, and so does the number that is tried. The measure is their distance.
use Prim.Native.Nat.{ℕ, ◌-◌, ◌/◌, ◌≤◌, ◌<◌}
use lib.Ieee.{Float}
use lib.Ieee.Positive.{num, den}
use Rattle.floats.proofs.whole_part.Given as goal

abbrev pub whole : Float → ℕ
whole y = num y / den y

abbrev pub invariant-loop-low : goal.invariant-loop-low
invariant-loop-low l = (l.low ≤ whole l.y) × (whole l.y < l.high) × (l.high ≤ 33554432) × (l.low ≤ l.k) × (l.k < l.high)

abbrev pub decreases-loop-low : goal.decreases-loop-low
decreases-loop-low l = l.high - l.low
