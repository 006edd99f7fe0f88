use mathlib.Core.Path.{◌≡◌, ap, ◌∙◌}
use Prim.Native.Nat.{ℕ}
use native.Mathlib.Omega.{arith}
use lib.ListN.{get_or, length-set}
use lib.Ieee.{Float, nan}
use mir.Syntax.{w8}
use mir.Val.{to_z, of_z, SFits}
use mir.Facts.{to_z-of_z}
use borrow.Author.Rules.{rules}
use Rattle.model.specs.Computed.{float, lessened_f}
use Rattle.weights.specs.Seen.{no_neighbour}
use Rattle.laws.proofs.FillLaws.{filled}
use Rattle.lookup.proofs.value.lessened.Goals as goal

pub loop-i-preserved : goal.loop-i-preserved
unfolding lessened_f
loop-i-preserved c =
    let l = c.loop-i in
    let a = c.args in
    let g : ℕ → Float = λ k. lessened_f (to_z w8 (of_z w8 a.least)) (get_or a.c.items k no_neighbour).z in
    let f : SFits w8 (get_or a.c.items l.i no_neighbour).z = search rules in
    let e : c.to_float.result ≡ g l.i = c.to_float.ensures ∙ ap float (c.from.ensures ∙ rw (to_z-of_z f) at c.abs_diff.ensures) in
    (simp length-set l.invariant.0, filled g l.xs l.i nan (omega arith) e l.invariant.1)
