-- `fill` meets its contract: every lookup is accepted, and finds the next answer.
-- The invariant: the lookups that are left are accepted, and the answers at the first i locations stand at the front of what was lent.
use mathlib.Core.Path.{◌≡◌}
use mathlib.Core.List.{flat_map}
use lib.ListN.{length, take, drop}
use Rattle.model.specs.Lists.{laid}
use Rattle.survey.specs.StateOf.{state_of}
use Rattle.many_lookups.specs.Locations.{locations_in}
use Rattle.many_lookups.specs.AnswersInto.{first_refusal, answer_bytes, AllRight}
use Rattle.many_lookups.proofs.fill.Given as goal

abbrev pub invariant-loop-i : goal.invariant-loop-i
invariant-loop-i l =
    (length l.out ≡ length l.initial.out) × (first_refusal (state_of l.s) (drop l.i (locations_in l.locations)) ≡ 0)
    × (l.out ≡ laid (flat_map (answer_bytes (state_of l.s)) (take l.i (locations_in l.locations))) l.initial.out) × AllRight (state_of l.s) (take l.i (locations_in l.locations))
