-- `lace` meets its contract. The invariant: the sum is that of the first i.
use mathlib.Core.Path.{refl, ◌∙◌}
use native.Mathlib.Omega.{arith}
use Rattle.polygon.specs.Stacked.{laced}
use Rattle.polygon.proofs.StackedLaws.{laced_next, laced_end}
use Rattle.polygon.proofs.lace.Goals as goal

pub loop-i-init : goal.loop-i-init
unfolding laced
loop-i-init c = (omega arith, omega arith, refl)

pub loop-i-preserved : goal.loop-i-preserved
loop-i-preserved c =
    let l = c.loop-i in
    let a = c.args in
    let n = laced_next a.a.now a.b.now l.i (omega arith) in
    (omega arith, omega arith, omega arith)

pub returns : goal.returns
returns c =
    let l = c.loop-i in
    let a = c.args in
    (l.invariant.2 ∙ laced_end a.a.now a.b.now l.i a.depth (omega arith) (omega arith) (omega arith), omega arith)
