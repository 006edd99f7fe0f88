use mathlib.Core.Path.{◌≡◌, sym, ◌∙◌}
use mathlib.Core.Bool.{Bool}
use Prim.Native.Nat.{ℕ, ◌<◌}
use native.Mathlib.Omega.{arith}
use lib.ListN.{length, take, get_or, length-take}
use lib.Seq.{get_or-take}
use Rattle.model.specs.Influence.{influence_at, is_edge}
use Rattle.influence.specs.declared.Influence.{Influence}
use Rattle.influence.specs.Carried.{carried, edge_of}
use Rattle.influence.proofs.InfluenceLaws.{edge_read}
use Rattle.neighbours.specs.declared.Chosen.{Chosen}
use Rattle.weights.specs.Seen.{seen, no_neighbour}
use Rattle.weights.proofs.EdgeLaws.{edges_none, edges_more, not_edges}
use Rattle.weights.proofs.factor.all_edge.Goals as goal

-- whether neighbour i is at the edge, as it is read off the first ones
edge_at : (c : Chosen) (i : ℕ) {t : Bool} {e : Influence} → i < length (take c.count c.items) → t ≡ edge_of e
    → e ≡ carried (influence_at c.few c.radius (get_or (take c.count c.items) i no_neighbour).distance) → t ≡ is_edge ((seen c).influence i)
unfolding seen
edge_at c i h e f =
    let g : i < c.count = omega (arith, length-take c.count c.items) in
    edge_read _ e (rw (get_or-take c.count c.items i no_neighbour g) at f)

pub loop-a-init : goal.loop-a-init
loop-a-init c = edges_none _

pub returns-then-not-is_edge : goal.returns-then-not-is_edge
unfolding seen
returns-then-not-is_edge c =
    let a = c.args.c in
    let e = edge_at a c.loop-a.a-index c.loop-a-test.true c.is_edge.ensures c.influence_at.ensures in
    sym (not_edges (seen a).influence a.count c.loop-a.a-index (omega (arith, length-take a.count a.items)) (sym e ∙ c.if-not-is_edge.true))

pub loop-a-preserved : goal.loop-a-preserved
loop-a-preserved c =
    let a = c.args.c in
    let e = edge_at a c.loop-a.a-index c.loop-a-test.true c.is_edge.ensures c.influence_at.ensures in
    edges_more (seen a).influence c.loop-a.a-index c.loop-a.invariant (sym e ∙ c.if-not-is_edge.false)
