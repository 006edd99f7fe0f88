-- `of_add` meets its contract, test by test.
use mathlib.Core.Path.{sym, ap, ◌∙◌}
use native.Mathlib.Omega.{arith}
use lib.ListN.{length}
use mir.Facts.{to_z-of_z}
use Rattle.model.specs.Calls.{taken}
use Rattle.point_arrays.proofs.ReadLaws.{length_points}
use Rattle.refusal.proofs.Coded.{never_0, passed_on}
use Rattle.refusals.proofs.Cases.{add_stopped, add_taken, add_full, add_passed}
use Rattle.refusals.proofs.of_add.Goals as goal

pub returns-in_err-of_values : goal.returns-in_err-of_values
returns-in_err-of_values c s zs h =
    let e = c.in_err-of_values.field-0.0 in
    passed_on _ e c.from_residual.ensures.1 ∙ add_stopped c.args.x c.args.y s c.args.z _ (rw (to_z-of_z c.ranges.z) at c.in_err-of_values.ensures) (never_0 e)

pub returns-then-is_taken : goal.returns-then-is_taken
returns-then-is_taken c s zs h =
    let a = c.args in
    add_taken a.x a.y s a.z (sym (rw (to_z-of_z c.ranges.z) at c.in_ok-of_values.ensures)) (ap (taken a.x a.y) h ∙ sym (c.is_taken.ensures zs) ∙ c.if-is_taken.true)

pub returns-then-n-ge256 : goal.returns-then-n-ge256
returns-then-n-ge256 c s zs h =
    let a = c.args in
    add_full a.x a.y s a.z (sym (rw (to_z-of_z c.ranges.z) at c.in_ok-of_values.ensures)) (ap (taken a.x a.y) h ∙ sym (c.is_taken.ensures zs) ∙ c.if-is_taken.false)
    (omega (arith, ap length h, length_points a.xs.now a.ys.now zs a.n, c.if-n-ge256.true))

pub returns : goal.returns
returns c s zs h =
    let a = c.args in
    add_passed a.x a.y s a.z (sym (rw (to_z-of_z c.ranges.z) at c.in_ok-of_values.ensures)) (ap (taken a.x a.y) h ∙ sym (c.is_taken.ensures zs) ∙ c.if-is_taken.false)
    (omega (arith, ap length h, length_points a.xs.now a.ys.now zs a.n, c.if-n-ge256.false))
