-- The invariant: the first keys stand, and the carried key put into the others gives what was asked for.
use mathlib.Core.Path.{◌≡◌}
use lib.ListN.{drop}
use Rattle.candidates.specs.Keys.{Ascending}
use Rattle.candidates.proofs.Exchange.{putting_in}
use Rattle.candidates.proofs.put.Given as goal

abbrev pub invariant-loop-held : goal.invariant-loop-held
invariant-loop-held l =
    Ascending (drop l.held-index l.held-items) × (putting_in l.held-index l.c l.held-items ≡ putting_in 0 l.initial.c l.initial.held-items)
