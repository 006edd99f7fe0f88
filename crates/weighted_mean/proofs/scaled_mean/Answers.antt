-- `scaled_mean` meets its contract: the scale times the quotient of the two sums.
use mathlib.Core.Path.{◌∙◌, ap₂}
use lib.Ieee.{binary64, mul, div}
use Rattle.model.specs.Computed.{float, scaled_mean_f}
use Rattle.weighted_mean.proofs.scaled_mean.Goals as goal

pub returns : goal.returns
unfolding scaled_mean_f
returns c =
    let sums = c.sums_of.ensures in
    c.scaled.ensures ∙ ap₂ (λ v w. mul binary64 (float c.args.scale) (div binary64 v w)) sums.1 sums.0
