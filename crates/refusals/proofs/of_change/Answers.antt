-- `of_change` meets its contract, test by test.
use mathlib.Core.Path.{sym, ap, ◌∙◌}
use mir.Facts.{to_z-of_z}
use Rattle.model.specs.Calls.{taken}
use Rattle.refusal.proofs.Coded.{never_0, passed_on}
use Rattle.refusals.proofs.Cases.{change_stopped, change_missing, change_passed}
use Rattle.refusals.proofs.of_change.Goals as goal

pub returns-in_err-of_values : goal.returns-in_err-of_values
returns-in_err-of_values c s zs h =
    let e = c.in_err-of_values.field-0.0 in
    passed_on _ e c.from_residual.ensures.1 ∙ change_stopped c.args.x c.args.y s c.args.z _ (rw (to_z-of_z c.ranges.z) at c.in_err-of_values.ensures) (never_0 e)

pub returns-then-not-is_taken : goal.returns-then-not-is_taken
returns-then-not-is_taken c s zs h =
    let a = c.args in
    change_missing a.x a.y s a.z (sym (rw (to_z-of_z c.ranges.z) at c.in_ok-of_values.ensures)) (ap (taken a.x a.y) h ∙ sym (c.is_taken.ensures zs) ∙ c.if-not-is_taken.true)

pub returns : goal.returns
returns c s zs h =
    let a = c.args in
    change_passed a.x a.y s a.z (sym (rw (to_z-of_z c.ranges.z) at c.in_ok-of_values.ensures)) (ap (taken a.x a.y) h ∙ sym (c.is_taken.ensures zs) ∙ c.if-not-is_taken.false)
