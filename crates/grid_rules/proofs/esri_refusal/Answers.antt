-- `esri_refusal` meets its contract: the first of three that applies.
use Rattle.std.proofs.Common.{◌∙◌}
use Rattle.refusal.proofs.Coded.{code_and}
use Rattle.grid_rules.specs.GridOf.{grid_of}
use Rattle.grid_rules.proofs.Rules.{in_esri_order}
use Rattle.grid_rules.proofs.esri_refusal.Goals as goal

pub returns : goal.returns
returns c s h =
    let first = code_and _ _ _ _ _ c.and.ensures c.rules_refusal-rules.ensures c.steps_refusal-steps.ensures in
    code_and _ _ _ _ _ c.and-2.ensures first (rw (← h) at c.empty_refusal-points.ensures) ∙ in_esri_order (grid_of c.args.g) s
