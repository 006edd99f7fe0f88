-- `coincident` meets its contract: the first candidate is the first in order.
use mathlib.Core.Path.{◌∙◌}
use native.Mathlib.Omega.{arith}
use borrow.Author.Tests.{le-ltb}
use Rattle.neighbours.proofs.FirstPoints.{at_none, at_first}
use Rattle.neighbours.proofs.choice.coincident.Goals as goal

pub returns-then-b-gt0 : goal.returns-then-b-gt0
returns-then-b-gt0 c = λ s p k h. at_first s p k _ h (λ e. omega arith)

pub returns-else-b-gt0 : goal.returns-else-b-gt0
returns-else-b-gt0 c = λ s p k h. le-ltb 0 c.args.b.count (omega arith) ∙ at_none s p k _ h (omega arith)
