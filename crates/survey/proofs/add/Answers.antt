-- `add` meets its contract: what it is refused for is the model's, and an accepted point goes where the model puts it.
use mathlib.Core.Path.{sym}
use mir.Facts.{to_z-of_z}
use Rattle.model.specs.Calls.{Add}
use Rattle.survey.specs.StateOf.{contents_in, state_of}
use Rattle.survey.proofs.Becoming.{holds}
use Rattle.survey.proofs.Replying.{reply_refused, reply_accepted}
use Rattle.survey.proofs.Calling.{add_hands, rank_within, added}
use Rattle.survey.proofs.add.Goals as goal

pub returns-in_err-of_add : goal.returns-in_err-of_add
returns-in_err-of_add c =
    let a = c.args in
    let n = rw (to_z-of_z c.ranges.z) at (c.in_err-of_add.ensures (state_of a.s.now) a.s.now.z (holds a.s.now)) in
    reply_refused (Add a.x a.y a.z) a.s.now _ _ c.from_residual.ensures.1 n

pub with_point-t-requires : goal.with_point-t-requires
unfolding contents_in
with_point-t-requires c =
    let a = c.args in
    let n = rw (to_z-of_z c.ranges.z) at (c.in_ok-of_add.ensures (state_of a.s.now) a.s.now.z (holds a.s.now)) in
    let h = add_hands a.x a.y a.z (contents_in a.s.now) (sym n) in
    (rank_within a.s.now a.x a.y _ (c.rank-i.ensures a.s.now.z), h.0, rw (to_z-of_z c.ranges.z) h.1)

pub returns : goal.returns
unfolding contents_in
returns c =
    let a = c.args in
    let n = rw (to_z-of_z c.ranges.z) at (c.in_ok-of_add.ensures (state_of a.s.now) a.s.now.z (holds a.s.now)) in
    let t = rw (to_z-of_z c.ranges.z) at c.with_point-t.ensures in
    reply_accepted (Add a.x a.y a.z) a.s.now _ _ n (added a.s.now a.x a.y _ (c.rank-i.ensures a.s.now.z) a.z _ t) t.plain c.settled.ensures
