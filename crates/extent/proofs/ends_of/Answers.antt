-- `ends_of` meets its contract. The invariant: the ends are those of the first i points.
use native.Mathlib.Omega.{arith}
use mathlib.Core.Path.{◌≡◌}
use lib.IntN.{pos}
use lib.ListN.{get_or}
use mir.Syntax.{w8}
use mir.Val.{SFits}
use mir.Facts.{to_z-of_z}
use borrow.Author.Rules.{rules}
use Rattle.extent.proofs.Ends.{ends_first, ends_next}
use Rattle.extent.proofs.ends_of.Goals as goal

pub loop-i-init : goal.loop-i-init
loop-i-init c =
    let b = c in
    let a = b.args in
    let z : SFits w8 (get_or a.zs.now 0 (pos 0)) = search rules in
    ends_first a.xs.now a.ys.now a.zs.now _ _ _ _ c.coordinate.ensures c.coordinate-2.ensures (to_z-of_z z) c.ends_at-e.ensures

pub loop-i-preserved : goal.loop-i-preserved
loop-i-preserved c =
    let l = c.loop-i in
    let a = c.args in
    let z : SFits w8 (get_or a.zs.now l.i (pos 0)) = search rules in
    ends_next a.xs.now a.ys.now a.zs.now l.i _ _ _ _ _ (omega arith) (omega arith) c.coordinate-in-loop-i.ensures c.coordinate-in-loop-i-2.ensures (to_z-of_z z) c.widened-e.ensures l.invariant

pub returns : goal.returns
returns c =
    let l = c.loop-i in
    let e : l.i ≡ c.args.m = omega arith in
    rw (← e) l.invariant
