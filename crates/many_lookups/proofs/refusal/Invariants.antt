-- `refusal` meets its contract. The invariant: the first refusal of the lookups that are left is that of all.
use mathlib.Core.Path.{◌≡◌}
use Prim.Native.Nat.{min}
use lib.ListN.{length, drop}
use Rattle.model.specs.Point.{State}
use Rattle.many_lookups.specs.Locations.{locations_in}
use Rattle.many_lookups.specs.AnswersInto.{first_refusal}
use Rattle.many_lookups.proofs.refusal.Given as goal

abbrev pub invariant-loop-i : goal.invariant-loop-i
invariant-loop-i l = ((s : State) → length s.contents.points ≡ min l.n 256 → first_refusal s (drop l.i (locations_in l.locations)) ≡ first_refusal s (locations_in l.locations))
