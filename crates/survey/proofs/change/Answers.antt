-- `change` meets its contract: what it is refused for is the model's, and an accepted value goes to the point that the model gives it to.
use mathlib.Core.Path.{sym}
use mir.Facts.{to_z-of_z}
use Rattle.model.specs.Calls.{Change}
use Rattle.survey.specs.StateOf.{contents_in, state_of}
use Rattle.survey.proofs.Becoming.{holds}
use Rattle.survey.proofs.Replying.{reply_refused, reply_accepted}
use Rattle.survey.proofs.Calling.{change_hands, change_within, changed}
use Rattle.survey.proofs.change.Goals as goal

pub returns-in_err-of_change : goal.returns-in_err-of_change
returns-in_err-of_change c =
    let a = c.args in
    let n = rw (to_z-of_z c.ranges.z) at (c.in_err-of_change.ensures (state_of a.s.now) a.s.now.z (holds a.s.now)) in
    reply_refused (Change a.x a.y a.z) a.s.now _ _ c.from_residual.ensures.1 n

pub with_value-t-requires : goal.with_value-t-requires
unfolding contents_in
with_value-t-requires c =
    let a = c.args in
    let e = sym (rw (to_z-of_z c.ranges.z) at (c.in_ok-of_change.ensures (state_of a.s.now) a.s.now.z (holds a.s.now))) in
    (change_within a.s.now a.x a.y _ (c.find-i.ensures a.s.now.z) a.z e, rw (to_z-of_z c.ranges.z) (change_hands a.x a.y a.z (contents_in a.s.now) e))

pub returns : goal.returns
unfolding contents_in
returns c =
    let a = c.args in
    let n = rw (to_z-of_z c.ranges.z) at (c.in_ok-of_change.ensures (state_of a.s.now) a.s.now.z (holds a.s.now)) in
    let t = rw (to_z-of_z c.ranges.z) at c.with_value-t.ensures in
    reply_accepted (Change a.x a.y a.z) a.s.now _ _ n (changed a.s.now a.x a.y _ (c.find-i.ensures a.s.now.z) a.z _ t) t.plain c.settled.ensures
