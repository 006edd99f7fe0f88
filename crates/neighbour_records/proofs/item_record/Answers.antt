-- `item_record` meets its contract: the fields are the item's, and the kind is that of its influence.
use mathlib.Core.Path.{◌≡◌, ap, ◌∙◌}
use mathlib.Core.Bool.{Bool}
use Prim.Native.Nat.{ℕ}
use lib.IntN.{ℤ}
use borrow.Author.Rules.{rules}
use Rattle.model.specs.Influence.{influence_at, kind}
use Rattle.neighbours.specs.declared.Neighbour.{Neighbour}
use Rattle.influence.specs.Carried.{kind_of}
use Rattle.influence.proofs.InfluenceLaws.{kind_carried}
use Rattle.neighbour_records.specs.declared.Record.{Record}
use Rattle.neighbour_records.specs.Records.{item_record}
use Rattle.neighbour_records.proofs.item_record.Goals as goal

made : (few : Bool) (r : ℕ) (a : Neighbour) (z : ℤ) (k : ℕ) → z ≡ a.z → k ≡ kind (influence_at few r a.distance)
    → ◌≡◌ {A = Record} (record { x = a.x; y = a.y; z = z; distance = a.distance; kind = k }) (item_record few r a)
unfolding item_record
made few r a z k e f = rw (e, f)

pub returns : goal.returns
returns c =
    let a = c.args in
    made a.few a.radius a.a _ _ (search rules)
    (c.kind_of.ensures ∙ ap kind_of c.influence_at.ensures ∙ kind_carried (influence_at a.few a.radius a.a.distance))
