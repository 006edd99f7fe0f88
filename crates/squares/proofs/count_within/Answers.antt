use mathlib.Core.Path.{refl, ap, ◌∙◌}
use native.Mathlib.Omega.{arith}
use lib.Seq.{take_all}
use Rattle.model.specs.Lists.{count}
use Rattle.squares.specs.Squares.{count_within}
use Rattle.squares.proofs.Counting.{counted_more}
use Rattle.squares.proofs.count_within.Goals as goal

pub loop-d-init : goal.loop-d-init
unfolding count
loop-d-init c = (omega arith, refl)

pub loop-d-preserved : goal.loop-d-preserved
loop-d-preserved c =
    let l = c.loop-d in
    let m = counted_more c.args.limit l.k l.d-index c.args.squares.now c.loop-d-test.true l.invariant.1 l.invariant.0 in
    rw c.from-k.ensures (m.1, m.0)

pub returns : goal.returns
returns c =
    (c.loop-d.invariant.1 ∙ ap (count_within c.args.limit) (take_all c.loop-d.d-index c.args.squares.now c.loop-d-test.false), λ i h. (c.type_inv.squares i).fits)
