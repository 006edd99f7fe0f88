use mathlib.Core.Path.{◌≡◌, sym, ◌∙◌}
use mathlib.Core.List.{map, map-map}
use native.Mathlib.Omega.{arith}
use lib.ListN.{take}
use Rattle.model.specs.Point.{Location, State}
use Rattle.model.specs.Choice.{choice}
use Rattle.model.specs.Answer.{neighbour_of, neighbours}
use Rattle.neighbours.specs.declared.Chosen.{Chosen}
use Rattle.neighbours.specs.Chose.{neighbour_at, Chose}
use Rattle.neighbour_records.specs.Records.{record_of, item_record}
use Rattle.neighbour_records.proofs.records_of.Goals as goal

module _ (s : State) (p : Location) (c : Chosen) (C : Chose s p c) where
  same : map (item_record c.few c.radius) (take c.count c.items) ≡ map record_of (neighbours s p)
  unfolding item_record neighbours neighbour_of neighbour_at
  same =
      rw (C.items, C.few, C.radius)
      (map-map _ (neighbour_at s p) (choice s p).points ∙ sym (map-map record_of _ (choice s p).points))

pub returns : goal.returns
returns c = λ s p C.
    let a = c.args.c in
    let e : c.loop-i.i ≡ a.count = omega arith in
    record { size = omega (arith, C.size); items = rw (← same s p a C, ← e) c.loop-i.invariant.1 }
