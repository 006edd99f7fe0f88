-- `left_by` meets its contract. The invariant: the survey holds some contents, from which the calls that are left lead to what all of them leave.
use mathlib.Core.Path.{◌≡◌}
use Prim.Native.Nat.{◌≤◌}
use lib.ListN.{length}
use Rattle.model.specs.Point.{Contents}
use Rattle.model.specs.Extent.{settled}
use Rattle.model.specs.Calls.{after_all, present}
use Rattle.survey.specs.StateOf.{state_of}
use Rattle.history.specs.Encoding.{calls}
use Rattle.history.proofs.Turns.{remaining}
use Rattle.history.proofs.left_by.Given as goal

abbrev pub invariant-loop-i : goal.invariant-loop-i
invariant-loop-i l =
    (l.start ≤ length l.files) × (q : Contents) × (state_of l.t ≡ settled q) × (after_all (remaining l.records l.files l.n l.i l.start) q ≡ present (calls l.records l.files))
