-- The invariant: the sum is that of the elements so far.
use mathlib.Core.Path.{◌≡◌}
use lib.ListN.{get_or}
use lib.Ieee.{nan}
use Rattle.model.specs.Computed.{sum_f}
use Rattle.weights.proofs.directional.sum_of.Given as goal

abbrev pub invariant-loop-x : goal.invariant-loop-x
invariant-loop-x l = l.sum ≡ sum_f (λ k. get_or l.xs k nan) l.x-index
