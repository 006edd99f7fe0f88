-- The invariant: the two sums are those of the first i.
use mathlib.Core.Path.{◌≡◌}
use lib.ListN.{get_or}
use lib.Ieee.{binary64, nan, mul}
use Rattle.model.specs.Computed.{sum_f}
use Rattle.weighted_mean.proofs.sums_of.Given as goal

abbrev pub invariant-loop-i : goal.invariant-loop-i
invariant-loop-i l =
    (l.s.weight ≡ sum_f (λ k. get_or l.ws k nan) l.i) × (l.s.value ≡ sum_f (λ k. mul binary64 (get_or l.ws k nan) (get_or l.xs k nan)) l.i)
