-- The invariant: the first i are filled.
use Rattle.squares.proofs.Filling.{Filled}
use Rattle.squares.proofs.fill.Given as goal

abbrev pub invariant-loop-i : goal.invariant-loop-i
invariant-loop-i l = Filled l.xs l.ys l.v l.i l.out
