-- `write` meets its contract, which is that of the survey file.
use Rattle.survey.specs.StateOf.{contents_in}
use Rattle.survey.proofs.write.Goals as goal

pub returns : goal.returns
unfolding contents_in
returns c = c.write.ensures
