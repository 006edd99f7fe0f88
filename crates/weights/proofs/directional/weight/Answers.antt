-- `weight` meets its contract.
use mathlib.Core.Path.{refl}
use Rattle.model.specs.Computed.{one_f, product_f}
use Rattle.weights.proofs.directional.weight.Goals as goal

pub returns : goal.returns
unfolding one_f product_f
returns c = refl
