use mathlib.Core.Path.{◌≡◌, subst, ◌∙◌}
use native.Mathlib.Omega.{arith}
use lib.ListN.{length}
use Rattle.squares.proofs.Filling.{Filled, filled_none, filled_more, filled_all}
use Rattle.squares.proofs.fill.Goals as goal

pub loop-i-init : goal.loop-i-init
loop-i-init c =
    let a = c.args in
    filled_none a.xs.now a.ys.now a.v a.out.now

pub loop-i-preserved : goal.loop-i-preserved
loop-i-preserved c = filled_more _ _ _ _ _ _ (omega arith) c.loop-i.invariant c.squared_from.ensures

pub returns : goal.returns
returns c =
    let l = c.loop-i in
    let a = c.args in
    let e : l.i ≡ length l.out = omega arith in
    λ s p zs n h g k. filled_all _ _ _ s p zs n l.out h g (l.auto.out ∙ k) (subst (λ i. Filled a.xs.now a.ys.now a.v i l.out) e l.invariant)
