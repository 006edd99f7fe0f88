-- `refusal` meets its contract: the first of three that applies.
use Rattle.std.proofs.Common.{◌∙◌, ap}
use Rattle.model.specs.Refusals.{enough}
use Rattle.refusal.proofs.Coded.{code_and}
use Rattle.grid_rules.specs.GridOf.{grid_of}
use Rattle.grid_rules.proofs.Rules.{in_order}
use Rattle.grid_rules.proofs.refusal.Goals as goal

pub returns : goal.returns
returns c s h =
    let first = code_and _ _ _ _ _ c.and.ensures c.rules_refusal-rules.ensures (rw (← h) at c.empty_refusal-points.ensures) in
    code_and _ _ _ _ _ c.and-2.ensures first c.room_refusal-room.ensures ∙ in_order (grid_of c.args.g) s (enough c.args.lent c.args.needed)
