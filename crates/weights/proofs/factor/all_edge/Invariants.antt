-- The invariant: the neighbours so far are at the edge.
use mathlib.Core.Path.{◌≡◌}
use mathlib.Core.Bool.{true}
use Rattle.model.specs.Weight.{all_edge}
use Rattle.weights.specs.Seen.{seen}
use Rattle.weights.proofs.factor.all_edge.Given as goal

abbrev pub invariant-loop-a : goal.invariant-loop-a
invariant-loop-a l = all_edge (seen l.fn.c).influence l.a-index ≡ true
