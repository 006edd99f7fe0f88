-- `stops` meets its contract, by what it searches for.
use mathlib.Core.Path.{ap}
use mathlib.Core.Bool.{not}
use Rattle.locate.specs.Leading.{passes}
use Rattle.locate.proofs.stops.Goals as goal

pub returns-then-behind : goal.returns-then-behind
unfolding passes
returns-then-behind c z = rw c.if-behind.true (ap not (c.comes_before.ensures z))

pub returns : goal.returns
unfolding passes
returns c z = rw c.if-behind.false (ap not (c.same.ensures z))
