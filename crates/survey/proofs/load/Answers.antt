-- `load` meets its contract: of an accepted file the arrays hold the points, and they are read as they stand.
use mathlib.Core.Path.{◌≡◌, ap, ◌∙◌}
use Rattle.model.specs.Point.{contents_of}
use Rattle.model.specs.Calls.{Load, refusal, accepted}
use Rattle.survey_file.proofs.SameSurvey.{accepted_points, read_invariant, read_as_held}
use Rattle.survey.specs.StateOf.{contents_in}
use Rattle.survey.proofs.Replying.{reply_refused, reply_accepted}
use Rattle.survey.proofs.load.Goals as goal

pub returns-in_err-f : goal.returns-in_err-f
unfolding refusal
returns-in_err-f c = reply_refused (Load c.args.file.now) c.args.s.now _ _ c.from_residual.ensures.1 c.in_err-f.ensures.refusal

pub returns : goal.returns
unfolding refusal accepted contents_in
returns c =
    let a = c.args in
    let r = c.in_ok-f.f in
    let same = read_as_held r.x r.y r.z r.count (read_invariant a.file.now r c.in_ok-f.ensures) in
    reply_accepted (Load a.file.now) a.s.now _ _ c.in_ok-f.ensures.refusal
    (ap contents_of (same ∙ (accepted_points a.file.now r c.in_ok-f.ensures).1)) (λ _. same) c.settled.ensures
