use mathlib.Core.Path.{◌∙◌}
use native.Mathlib.Omega.{arith}
use Rattle.model.specs.Computed.{factor_f}
use Rattle.weights.specs.Seen.{seen}
use Rattle.weights.proofs.WeightLaws.{weight_is}
use Rattle.relative_error.proofs.SumLaws.{sum_f_same}
use Rattle.weights.proofs.directional.weights_apart.Goals as goal

pub returns : goal.returns
unfolding seen
returns c =
    let a = c.args in
    let h = seen a.c in
    let s = c.factors-s.ensures in
    let total = c.sum_of-total.ensures ∙ sum_f_same _ (λ k. factor_f (h.influence k)) a.c.count s in
    λ i l. weight_is h i c.requires.1 (c.loop-i.invariant.1 i (omega arith)) (s i l) (c.terms-t.ensures i l) total
