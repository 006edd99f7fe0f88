-- `settled` meets its contract: what it puts beside the points is what is kept of them.
use Rattle.survey.specs.StateOf.{contents_in}
use Rattle.survey.proofs.Becoming.{settles}
use Rattle.survey.proofs.edits.settled.Goals as goal

pub returns : goal.returns
unfolding contents_in
returns c = settles _ _ c.extent_of-e.ensures.result_value c.extent_of-e.ensures.radius_bound
