-- The invariant: the first i are filled.
use mathlib.Core.Path.{◌≡◌}
use mathlib.Core.List.{map}
use lib.ListN.{length, take}
use Rattle.neighbours.specs.Selects.{seen_from}
use Rattle.neighbours.proofs.choice.neighbours.Given as goal

abbrev pub invariant-loop-i : goal.invariant-loop-i
invariant-loop-i l = (length l.a ≡ 10) × (take l.i l.a ≡ map (seen_from l.v) (take l.i l.items))
