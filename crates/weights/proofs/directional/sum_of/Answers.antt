use mathlib.Core.Path.{sym}
use Prim.Native.Nat.{◌<◌}
use native.Mathlib.Omega.{arith}
use lib.ListN.{get_or, length-take}
use lib.Seq.{get_or-take}
use lib.Ieee.{nan}
use Rattle.model.specs.Computed.{zero_f}
use Rattle.relative_error.proofs.SumLaws.{sum_f_step, sum_f_zero}
use Rattle.weights.proofs.directional.sum_of.Goals as goal

pub loop-x-init : goal.loop-x-init
unfolding zero_f
loop-x-init c = sym (sum_f_zero _)

pub loop-x-preserved : goal.loop-x-preserved
loop-x-preserved c =
    let l = c.loop-x in
    let a = c.args in
    let h : l.x-index < a.n = omega (arith, length-take a.n a.xs.now) in
    sum_f_step (λ k. get_or a.xs.now k nan) l.x-index l.invariant (get_or-take a.n a.xs.now l.x-index nan h)
