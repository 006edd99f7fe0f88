-- The invariant: as many as are needed are within the higher limit.
use Prim.Native.Nat.{◌≤◌}
use Rattle.squares.specs.Squares.{count_within}
use Rattle.squares.proofs.limit.sought.Given as goal

abbrev pub invariant-loop : goal.invariant-loop
invariant-loop l = l.need ≤ count_within l.high l.squares
