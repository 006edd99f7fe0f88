use mathlib.Core.Path.{sym}
use Rattle.model.specs.Computed.{zero_f}
use Rattle.relative_error.proofs.SumLaws.{sum_f_more, sum_f_zero}
use Rattle.weighted_mean.proofs.sums_of.Goals as goal

pub loop-i-init : goal.loop-i-init
unfolding zero_f
loop-i-init c = (sym (sum_f_zero _), sym (sum_f_zero _))

pub loop-i-preserved : goal.loop-i-preserved
loop-i-preserved c = (cc (sum_f_more _ _), cc (sum_f_more _ _))
