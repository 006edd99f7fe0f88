-- `distances` meets its contract. The invariant: the first i are known, fours of them.
use mathlib.Core.Path.{◌≡◌}
use Prim.Native.Nat.{ℕ, ◌-◌, ◌%◌, ◌<◌}
use lib.ListN.{get_or}
use Rattle.model.specs.Distance.{distance_of}
use Rattle.root.proofs.distances.Given as goal

abbrev pub invariant-loop-i : goal.invariant-loop-i
invariant-loop-i l = (l.i % 4 ≡ 0) × ((k : ℕ) → k < l.i → get_or l.d k 0 ≡ distance_of (get_or l.squares k 0))

abbrev pub decreases-loop-i : goal.decreases-loop-i
decreases-loop-i l = l.n - l.i
