-- `tapered_factor` meets its contract.
use Rattle.model.specs.Computed.{factor_f, taper_f}
use Rattle.influence.proofs.tapered_factor.Goals as goal

pub returns : goal.returns
unfolding factor_f taper_f
returns c =
    rw (c.to_float-t.ensures, c.from.ensures, c.to_float-r.ensures, c.from-2.ensures, c.to_float.ensures, c.to_float-2.ensures)
