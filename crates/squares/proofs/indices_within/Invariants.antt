-- The invariant: the first k indices stored are those of the first i that are within the limit.
use mathlib.Core.Path.{◌≡◌}
use Prim.Native.Nat.{◌≤◌}
use lib.ListN.{take, get_or}
use Rattle.squares.specs.Squares.{within, indices_of}
use Rattle.squares.proofs.indices_within.Given as goal

abbrev pub invariant-loop-i : goal.invariant-loop-i
invariant-loop-i l = (l.k ≤ l.i) × (take l.k l.at ≡ indices_of (λ j. within l.limit (get_or l.squares j 0)) l.i)
