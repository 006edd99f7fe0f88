-- `write` meets its contract. The invariant: the bytes of the first i records stand at the front of what was lent.
use mathlib.Core.Path.{◌≡◌}
use mathlib.Core.List.{flat_map}
use lib.ListN.{length, take}
use Rattle.model.specs.Lists.{laid}
use Rattle.neighbour_bytes.specs.Fields.{field_bytes}
use Rattle.neighbour_bytes.proofs.write.Given as goal

abbrev pub invariant-loop-i : goal.invariant-loop-i
invariant-loop-i l = (length l.out ≡ length l.initial.out) × (l.out ≡ laid (flat_map field_bytes (take l.i l.list)) l.initial.out)
