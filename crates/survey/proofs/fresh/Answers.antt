-- `fresh` meets its contract: a count of 0 holds no point, and zeros are kept of none.
use mathlib.Core.Path.{refl}
use Rattle.model.specs.Lists.{tabulate}
use Rattle.point_arrays.specs.PointArrays.{held, points_in}
use Rattle.survey.specs.StateOf.{contents_in}
use Rattle.survey.proofs.Becoming.{settles}
use Rattle.survey.proofs.fresh.Goals as goal

pub returns : goal.returns
unfolding contents_in points_in held tabulate
returns c =
    let s = settles (record { x = _; y = _; z = _; count = 0; extent = c.zeros.result }) c.zeros.result c.zeros.ensures.0 c.zeros.ensures.1 in
    (s.state, s.plain refl)
