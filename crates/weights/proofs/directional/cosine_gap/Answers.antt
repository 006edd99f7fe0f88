-- `cosine_gap` meets its contract.
use mathlib.Core.Path.{ap, ap₂, ◌∙◌}
use lib.Ieee.{binary64, div}
use Rattle.model.specs.Computed.{float}
use Rattle.weights.specs.Seen.{cosine_gap}
use Rattle.weights.proofs.directional.cosine_gap.Goals as goal

pub returns : goal.returns
unfolding cosine_gap
returns c =
    ap₂ (div binary64) (c.to_float.ensures ∙ ap float c.excess.ensures.0)
    (c.to_float-2.ensures ∙ ap float c.product.ensures.0)
