-- `by_count` meets its contract: a return for each rule.
use native.Mathlib.Omega.{arith}
use Rattle.neighbours.proofs.FirstPoints.{selects_few, selects_four, selects_within, selects_ten}
use Rattle.neighbours.proofs.choice.by_count.Goals as goal

pub returns-then-m-le4-clause-selects : goal.returns-then-m-le4-clause-selects
returns-then-m-le4-clause-selects c = λ s p h em er. selects_few s p _ _ h _ em (omega arith) (omega arith)

pub returns-then-k-le4-clause-selects : goal.returns-then-k-le4-clause-selects
returns-then-k-le4-clause-selects c = λ s p h em er. selects_four s p _ _ h _ em (omega arith) (omega arith)

pub returns-then-k-le10-clause-selects : goal.returns-then-k-le10-clause-selects
returns-then-k-le10-clause-selects c = λ s p h em er. selects_within s p _ _ h _ er (omega arith) (omega arith)

pub returns-clause-selects : goal.returns-clause-selects
returns-clause-selects c = λ s p h em er. selects_ten s p _ _ h (omega arith)
