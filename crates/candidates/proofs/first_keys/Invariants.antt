-- The invariant: the keys are the first of those at the indices so far.
use mathlib.Core.Path.{◌≡◌}
use lib.ListN.{take}
use Rattle.candidates.specs.Keys.{Ascending, first_keys}
use Rattle.candidates.proofs.first_keys.Given as goal

abbrev pub invariant-loop-i : goal.invariant-loop-i
invariant-loop-i l = Ascending l.keys × (l.keys ≡ first_keys l.xs l.ys l.squares (take l.i-index l.at))
