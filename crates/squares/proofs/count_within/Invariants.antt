-- The invariant: k is the count of the squares so far.
use mathlib.Core.Path.{◌≡◌}
use Prim.Native.Nat.{◌≤◌}
use lib.ListN.{take}
use Rattle.squares.specs.Squares.{count_within}
use Rattle.squares.proofs.count_within.Given as goal

abbrev pub invariant-loop-d : goal.invariant-loop-d
invariant-loop-d l = (l.k ≤ l.d-index) × (l.k ≡ count_within l.limit (take l.d-index l.squares))
