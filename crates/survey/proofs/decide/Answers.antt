-- `decide` meets its contract: refused, no records; accepted, the answer of `lookup` and the records of the points that it goes by.
use mathlib.Core.Path.{sym}
use Rattle.laws.proofs.CallLaws.{neighbours_accepted}
use Rattle.survey.specs.StateOf.{state_of}
use Rattle.survey.proofs.Becoming.{points_held}
use Rattle.survey.proofs.Looking.{decides_none, decides_found}
use Rattle.survey.proofs.decide.Goals as goal

pub returns-in_err-of_lookup_neighbours : goal.returns-in_err-of_lookup_neighbours
returns-in_err-of_lookup_neighbours c =
    let a = c.args in
    decides_none (state_of a.s) a.x a.y a.lent _ _ c.from_residual.ensures.1 (c.in_err-of_lookup_neighbours.ensures (state_of a.s) (points_held a.s))

pub answered-a-requires : goal.answered-a-requires
answered-a-requires c =
    let a = c.args in
    (neighbours_accepted a.x a.y a.lent (state_of a.s) (sym (c.in_ok-of_lookup_neighbours.ensures (state_of a.s) (points_held a.s)))).0

pub records_of-requires : goal.records_of-requires
records_of-requires c = c.answered-a.ensures.chosen.size

pub returns : goal.returns
returns c =
    let a = c.args in
    let g = c.answered-a.ensures in
    decides_found (state_of a.s) a.x a.y a.lent _ _ _ (c.in_ok-of_lookup_neighbours.ensures (state_of a.s) (points_held a.s)) c.reported.ensures g (c.records_of.ensures _ _ g.chosen)
