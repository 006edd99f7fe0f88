-- `inverse_factor` meets its contract.
use Rattle.model.specs.Computed.{factor_f}
use Rattle.influence.proofs.inverse_factor.Goals as goal

pub returns : goal.returns
unfolding factor_f
returns c = cc
