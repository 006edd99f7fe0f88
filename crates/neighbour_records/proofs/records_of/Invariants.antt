-- The invariant: the first i are the records of the first i items.
use mathlib.Core.Path.{◌≡◌}
use mathlib.Core.List.{map}
use lib.ListN.{length, take}
use Rattle.neighbour_records.specs.Records.{item_record}
use Rattle.neighbour_records.proofs.records_of.Given as goal

abbrev pub invariant-loop-i : goal.invariant-loop-i
invariant-loop-i l = (length l.items ≡ 10) × (take l.i l.items ≡ map (item_record l.c.few l.c.radius) (take l.i l.c.items))
