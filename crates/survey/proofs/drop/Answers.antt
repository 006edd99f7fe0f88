-- `drop` meets its contract: what it is refused for is the model's, and an accepted one takes out the point that the model takes out.
use mathlib.Core.Path.{sym}
use Rattle.model.specs.Calls.{Drop}
use Rattle.survey.specs.StateOf.{contents_in, state_of}
use Rattle.survey.proofs.Becoming.{holds}
use Rattle.survey.proofs.Replying.{reply_refused, reply_accepted}
use Rattle.survey.proofs.Calling.{drop_within, dropped}
use Rattle.survey.proofs.drop.Goals as goal

pub returns-in_err-of_drop : goal.returns-in_err-of_drop
returns-in_err-of_drop c =
    let a = c.args in
    reply_refused (Drop a.x a.y) a.s.now _ _ c.from_residual.ensures.1 (c.in_err-of_drop.ensures (state_of a.s.now) a.s.now.z (holds a.s.now))

pub without_point-t-requires : goal.without_point-t-requires
unfolding contents_in
without_point-t-requires c =
    let a = c.args in
    drop_within a.s.now a.x a.y _ (c.find-i.ensures a.s.now.z) (sym (c.in_ok-of_drop.ensures (state_of a.s.now) a.s.now.z (holds a.s.now)))

pub returns : goal.returns
unfolding contents_in
returns c =
    let a = c.args in
    let t = c.without_point-t.ensures in
    reply_accepted (Drop a.x a.y) a.s.now _ _ (c.in_ok-of_drop.ensures (state_of a.s.now) a.s.now.z (holds a.s.now)) (dropped a.s.now a.x a.y _ (c.find-i.ensures a.s.now.z) _ t) t.plain c.settled.ensures
