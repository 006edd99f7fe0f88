-- `finished_refusal` meets its contract: no grid is begun, its rows are all filled, or one is left.
use mathlib.Core.Path.{sym, ◌∙◌}
use Rattle.survey.specs.StateOf.{state_of}
use Rattle.refusal.proofs.Coded.{code_ok, code_err}
use Rattle.grid_rows.proofs.Fillings.{no_grid, no_row, row_left}
use Rattle.grid_rows.proofs.finished_refusal.Goals.{else-is_ok-via-then-is_ok+else-f-g, else-is_ok-via-else-is_ok}
use Rattle.grid_rows.proofs.finished_refusal.Goals as goal

pub returns-then-f-g : goal.returns-then-f-g
returns-then-f-g c =
    let f = c.args.f in
    let begun = sym (c.refusal-begun.ensures (state_of f.survey) (sym c.count.ensures.0)) ∙ code_ok _ (sym c.is_ok.ensures.value ∙ c.if-is_ok.true) in
    row_left f begun c.if-f-g.true

pub returns : goal.returns
returns c =
    let f = c.args.f in
    let decided = c.refusal-begun.ensures (state_of f.survey) (sym c.count.ensures.0) in
    elim c.else-is_ok.branch [
      | else-is_ok-via-then-is_ok+else-f-g w ↦ no_row f (sym decided ∙ code_ok _ (sym c.is_ok.ensures.value ∙ w.if-is_ok.true)) w.if-f-g.false
      | else-is_ok-via-else-is_ok w ↦ no_grid f (λ z. code_err _ (sym c.is_ok.ensures.value ∙ w.if-is_ok.false) (decided ∙ z))
    ]
