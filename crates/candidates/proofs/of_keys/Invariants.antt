-- The invariant: the first j are filled.
use mathlib.Core.Path.{◌≡◌}
use mathlib.Core.List.{map}
use lib.ListN.{length, take}
use Rattle.candidates.specs.Keys.{candidate_of}
use Rattle.candidates.specs.First.{InRange}
use Rattle.candidates.proofs.of_keys.Given as goal

abbrev pub invariant-loop-j : goal.invariant-loop-j
invariant-loop-j l = (length l.items ≡ 11) × (take l.j l.items ≡ map (candidate_of l.zs) (take l.j l.keys)) × InRange (take l.j l.items)
