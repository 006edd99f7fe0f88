-- `clear` meets its contract: a count of 0 holds no point.
use mathlib.Core.Path.{refl}
use Rattle.model.specs.Lists.{tabulate}
use Rattle.model.specs.Calls.{Clear, refusal, accepted}
use Rattle.point_arrays.specs.PointArrays.{held, points_in}
use Rattle.survey.specs.StateOf.{contents_in}
use Rattle.survey.proofs.Replying.{reply_accepted}
use Rattle.survey.proofs.clear.Goals as goal

pub returns : goal.returns
unfolding contents_in points_in held tabulate refusal accepted
returns c = reply_accepted Clear c.args.s.now _ _ refl refl (λ _. refl) c.settled.ensures
