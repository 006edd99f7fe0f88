-- `four_more` meets its contract. The invariant: the first i are known.
use mathlib.Core.Path.{◌≡◌}
use Prim.Native.Nat.{ℕ, ◌<◌}
use lib.ListN.{length, get_or}
use Rattle.model.specs.Distance.{distance_of}
use Rattle.root.proofs.four_more.Given as goal

abbrev pub invariant-loop-i : goal.invariant-loop-i
invariant-loop-i l = (length l.d ≡ 12) × ((k : ℕ) → k < l.i → get_or l.d k 0 ≡ distance_of (get_or l.squares k 0))
