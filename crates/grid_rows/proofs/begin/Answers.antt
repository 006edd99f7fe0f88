-- `begin` meets its contract: 7 and 6 as a grid's, with no list lent.
use mathlib.Core.Path.{sym}
use Rattle.survey.specs.StateOf.{state_of}
use Rattle.grid_rows.proofs.Fillings.{begin_refuses, begin_accepts}
use Rattle.grid_rows.proofs.begin.Goals as goal

pub returns-in_err-refusal : goal.returns-in_err-refusal
returns-in_err-refusal c =
    let a = c.args in
    begin_refuses a.f.now a.s a.g _ _ c.from_residual.ensures.1 (c.in_err-refusal.ensures (state_of a.s) (sym c.count.ensures.0))

pub returns : goal.returns
returns c =
    let a = c.args in
    begin_accepts a.f.now a.s a.g (c.in_ok-refusal.ensures (state_of a.s) (sym c.count.ensures.0))
