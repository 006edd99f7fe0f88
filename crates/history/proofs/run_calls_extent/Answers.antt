-- `run_calls_extent` meets its contract: what is kept is that of what the calls leave.
use mathlib.Core.Path.{ap, ◌∙◌}
use Rattle.model.specs.Point.{State}
use Rattle.laws.proofs.HistoryInvariant.{history_invariant}
use Rattle.history.proofs.ClaimLaws.{claim_kept}
use Rattle.history.proofs.run_calls_extent.Goals as goal

pub returns : goal.returns
returns c = claim_kept _ _ (history_invariant _) (c.extent.ensures ∙ ap (λ (t : State). t.extent) c.left_by-left.ensures)
