-- `lookup` meets its contract: the refusal's number, or the answer that the arrays give.
use mathlib.Core.Path.{sym}
use Rattle.survey.specs.StateOf.{state_of}
use Rattle.survey.proofs.Becoming.{points_held}
use Rattle.survey.proofs.Looking.{looked_refused, looked_found}
use Rattle.survey.proofs.lookup.Goals as goal

pub returns-in_err-of_lookup : goal.returns-in_err-of_lookup
returns-in_err-of_lookup c =
    let a = c.args in
    let h = looked_refused (state_of a.s) a.x a.y _ _ c.from_residual.ensures.1 (c.in_err-of_lookup.ensures (state_of a.s) (points_held a.s)) in
    record { value = h.0; rounded = h.1 }

pub answered-a-requires : goal.answered-a-requires
answered-a-requires c =
    let s = c.args.s in
    sym (c.in_ok-of_lookup.ensures (state_of s) (points_held s))

pub returns : goal.returns
returns c =
    let a = c.args in
    let h = looked_found (state_of a.s) a.x a.y _ _ c.reported.ensures c.answered-a.ensures (c.in_ok-of_lookup.ensures (state_of a.s) (points_held a.s)) in
    record { value = h.0; rounded = h.1 }
