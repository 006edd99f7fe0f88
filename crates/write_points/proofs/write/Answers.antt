use mathlib.Core.Path.{◌≡◌, refl, sym, ◌∙◌}
use mathlib.Core.List.{[], ◌∷◌, flat_map}
use Prim.Native.Nat.{◌+◌, ◌*◌, ◌-◌, ◌≤◌}
use native.Mathlib.Omega.{arith}
use lib.ListN.{length, get_or}
use lib.Seq.{take_all}
use lib.IntN.{pos}
use mir.Syntax.{w8}
use mir.Val.{SFits}
use mir.Facts.{to_z-of_z}
use borrow.Author.Rules.{rules}
use Rattle.model.specs.Lists.{tabulate}
use Rattle.model.specs.SurveyFile.{records}
use Rattle.laws.proofs.Stores.{take_laid}
use Rattle.point_arrays.specs.PointArrays.{held}
use Rattle.write_points.proofs.Encoded.{records_more}
use Rattle.write_points.proofs.write.Goals as goal

pub loop-i-init : goal.loop-i-init
unfolding records flat_map held tabulate
loop-i-init c = (omega arith, refl)

pub loop-i-preserved : goal.loop-i-preserved
loop-i-preserved c =
    let a = c.args in
    let l = c.loop-i in
    let f : SFits w8 (get_or a.z.now l.i (pos 0)) = search rules in
    let q = rw (c.record.ensures, to_z-of_z f) at c.copy.ensures.laid in
    let m = records_more a.x.now a.y.now a.z.now l.i in
    let e : 5 * (l.i + 1) ≡ 5 * l.i + 5 = omega arith in
    let h : 5 * l.i ≤ length l.out = omega arith in
    (omega arith, rw (q, m, ← l.invariant.1, e) (take_laid (5 * l.i) (length l.out - 5 * l.i) l.out (_ ∷ _ ∷ _ ∷ _ ∷ _ ∷ []) h))

pub returns : goal.returns
returns c =
    let l = c.loop-i in
    let e : l.i ≡ c.args.n = omega arith in
    rw (← e) (sym (take_all (5 * l.i) l.out (omega arith)) ∙ l.invariant.1)
