-- `of_drop` meets its contract, test by test.
use mathlib.Core.Path.{sym, ap, ◌∙◌}
use Rattle.model.specs.Calls.{taken}
use Rattle.refusals.proofs.Cases.{drop_off, drop_missing, drop_passed}
use Rattle.refusals.proofs.of_drop.Goals as goal

pub returns-then-not-is_in_domain : goal.returns-then-not-is_in_domain
returns-then-not-is_in_domain c s zs h = drop_off c.args.x c.args.y s (sym c.if-not-is_in_domain.ensures)

pub returns-then-not-is_taken : goal.returns-then-not-is_taken
returns-then-not-is_taken c s zs h =
    let a = c.args in
    drop_missing a.x a.y s (sym c.if-not-is_in_domain.ensures) (ap (taken a.x a.y) h ∙ sym (c.is_taken.ensures zs) ∙ c.if-not-is_taken.true)

pub returns : goal.returns
returns c s zs h =
    let a = c.args in
    drop_passed a.x a.y s (sym c.if-not-is_in_domain.ensures) (ap (taken a.x a.y) h ∙ sym (c.is_taken.ensures zs) ∙ c.if-not-is_taken.false)
