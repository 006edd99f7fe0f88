-- The invariant, `Passed`: the first i points are in the arrays, and what is left decides on the fault.
use Rattle.read_points.proofs.Passed.{Passed}
use Rattle.read_points.proofs.read.Given as goal

abbrev pub invariant-loop-i : goal.invariant-loop-i
invariant-loop-i l = Passed l.s l.count l.r l.least l.i
