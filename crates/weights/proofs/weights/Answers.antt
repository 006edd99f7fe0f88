-- `weights` meets its contract: the two branches of the definition.
use mathlib.Core.Path.{sym, ◌∙◌}
use native.Mathlib.Omega.{arith}
use lib.ListN.{get_or-replicate}
use lib.Ieee.{nan}
use Rattle.model.specs.Computed.{one_f}
use Rattle.weights.specs.Seen.{seen}
use Rattle.weights.proofs.WeightLaws.{weight_edges}
use Rattle.weights.proofs.weights.Goals as goal

pub returns-then-all_edge : goal.returns-then-all_edge
unfolding one_f seen
returns-then-all_edge c =
    let a = c.args in
    let e = sym c.all_edge.ensures ∙ c.if-all_edge.true in
    λ i h. get_or-replicate 10 i one_f nan (omega (arith, c.requires.size)) ∙ sym (weight_edges (seen a.c) i e)
