use mathlib.Core.Path.{◌≡◌, refl}
use native.Mathlib.Omega.{arith}
use Rattle.model.specs.Computed.{zero_f}
use Rattle.weights.proofs.RowLaws.{row_none, row_more, terms_more}
use Rattle.weights.proofs.directional.add_row.Goals as goal

pub loop-j-init : goal.loop-j-init
unfolding zero_f
loop-j-init c = row_none _ _ _ _

pub loop-j-preserved : goal.loop-j-preserved
loop-j-preserved c =
    row_more _ _ _ c.loop-j.j (omega arith) c.loop-j.invariant c.cosine_gap-v.ensures refl refl

pub returns : goal.returns
unfolding zero_f
returns c =
    let a = c.args in
    let e : c.loop-j.j ≡ a.i = omega arith in
    terms_more a.c a.i a.s.now (omega arith) (omega arith) c.requires.has_factors.0 c.requires.has_factors.1 (rw e at c.loop-j.invariant)
