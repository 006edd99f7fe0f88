-- `selected` meets its contract: rule 1 by the first of the nearest, the others by `by_count`.
use mathlib.Core.Path.{sym, ◌∙◌}
use Rattle.neighbours.proofs.FirstPoints.{selects_first, selects_otherwise}
use Rattle.neighbours.proofs.choice.selected.Goals as goal

pub returns-then-coincident-clause-selects : goal.returns-then-coincident-clause-selects
returns-then-coincident-clause-selects c = λ s p h em er.
    rw c.if-apart.false (selects_first s p _ _ h (sym (c.coincident.ensures s p _ h) ∙ c.if-coincident.true))

pub returns-clause-selects : goal.returns-clause-selects
returns-clause-selects c = λ s p h em er.
    rw c.if-apart.false
    (selects_otherwise s p _ _ h _ (sym (c.coincident.ensures s p _ h) ∙ c.if-coincident.false) (c.by_count-2.ensures.selects s p h em er))
