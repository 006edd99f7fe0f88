-- `of_lookup` meets its contract, test by test.
use mathlib.Core.Path.{sym, ◌∙◌}
use native.Mathlib.Omega.{arith}
use Rattle.refusals.proofs.Cases.{lookup_off, lookup_empty, lookup_passed}
use Rattle.refusals.proofs.of_lookup.Goals as goal

pub returns-then-not-is_in_domain : goal.returns-then-not-is_in_domain
returns-then-not-is_in_domain c s h = lookup_off c.args.x c.args.y s (sym c.if-not-is_in_domain.ensures)

pub returns-then-n-eq0 : goal.returns-then-n-eq0
returns-then-n-eq0 c s h = lookup_empty c.args.x c.args.y s (sym c.if-not-is_in_domain.ensures) (omega (arith, h, c.if-n-eq0.true))

pub returns : goal.returns
returns c s h = lookup_passed c.args.x c.args.y s (sym c.if-not-is_in_domain.ensures) (λ e. c.if-n-eq0.false (omega (arith, h)))
