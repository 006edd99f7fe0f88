use mathlib.Core.Path.{◌≡◌}
use Prim.Native.Nat.{ℕ}
use native.Mathlib.Omega.{arith}
use lib.ListN.{length-set}
use lib.Ieee.{Float, nan}
use Rattle.model.specs.Influence.{influence_at}
use Rattle.model.specs.Computed.{factor_f}
use Rattle.weights.specs.Seen.{seen, item_at}
use Rattle.influence.proofs.InfluenceLaws.{factor_read}
use Rattle.laws.proofs.FillLaws.{filled}
use Rattle.weights.proofs.factor.factors.Goals as goal

pub loop-i-preserved : goal.loop-i-preserved
loop-i-preserved c =
    let l = c.loop-i in
    let a = c.args.c in
    let g : ℕ → Float = λ k. factor_f (influence_at a.few a.radius (item_at a k).distance) in
    let e : c.factor_of.result ≡ g l.i = factor_read (influence_at a.few a.radius (item_at a l.i).distance) c.factor_of.ensures c.influence_at.ensures in
    (simp length-set l.invariant.0, filled g l.s l.i nan (omega arith) e l.invariant.1)

pub returns : goal.returns
unfolding seen
returns c = λ i h. c.loop-i.invariant.1 i (omega arith)
