-- `row_refusal` meets its contract: 17 before 8.
use mathlib.Core.Path.{◌∙◌}
use Rattle.refusal.proofs.Coded.{code_and}
use Rattle.grid_rows.proofs.Fillings.{finished_then_room}
use Rattle.grid_rows.proofs.row_refusal.Goals as goal

pub returns : goal.returns
returns c = code_and _ _ _ _ _ c.and.ensures c.finished_refusal-finished.ensures c.room_refusal-room.ensures ∙ finished_then_room c.args.f c.args.lent
