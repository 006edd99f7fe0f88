-- `lookup_neighbours` meets its contract: refused it writes nothing, and accepted the records go to the front of the list.
use mathlib.Core.Path.{sym, refl, ◌∙◌}
use Rattle.refusal.proofs.Told.{passed_number}
use Rattle.lending.proofs.lookup_neighbours.Goals as goal

pub returns-in_err-decision : goal.returns-in_err-decision
returns-in_err-decision c =
    let d = c.in_err-decision.ensures in
    rw (passed_number _ c.in_err-decision.field-0.0 c.from_residual.ensures.1) (d.answer, d.rounded, d.list _ refl)
