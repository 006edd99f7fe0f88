-- `row` meets its contract: refused it changes nothing, and accepted it hands on the front of what it was lent.
use mathlib.Core.Path.{sym, ◌∙◌}
use native.Mathlib.Omega.{arith}
use lib.ListN.{length}
use lib.Seq.{length-take-le}
use Rattle.laws.proofs.GridLaws.{proper_axes, grid_fits}
use Rattle.refusal.specs.Numbered.{number_of}
use Rattle.refusal.proofs.Coded.{never_0}
use Rattle.refusal.proofs.Told.{passed_number}
use Rattle.survey.specs.StateOf.{state_of}
use Rattle.grid_rules.specs.GridOf.{grid_of}
use Rattle.grid_rows.proofs.Fillings.{row_passed, row_refuses, row_fills}
use Rattle.grid_rows.proofs.row.Goals as goal

pub returns-in_err-row_refusal : goal.returns-in_err-row_refusal
returns-in_err-row_refusal c =
    let a = c.args in
    let e = c.in_err-row_refusal.field-0.0 in
    let h = row_refuses a.f.now a.out.now (number_of e) c.in_err-row_refusal.ensures (never_0 e) in
    rw (passed_number _ e c.from_residual.ensures.1) (record { answer_value = h.0; advances = h.1.0; out_after = h.1.1.0; row_rounded = h.1.1.1 })

pub slice_bounds-fill_row-end : goal.slice_bounds-fill_row-end
slice_bounds-fill_row-end c =
    let a = c.args in
    let p = row_passed a.f.now (length a.out.now) (sym c.in_ok-row_refusal.ensures) in
    omega (arith, p.2)

pub slice_bounds-fill_row-end-2 : goal.slice_bounds-fill_row-end-2
slice_bounds-fill_row-end-2 c =
    let a = c.args in
    let p = row_passed a.f.now (length a.out.now) (sym c.in_ok-row_refusal.ensures) in
    sym (length-take-le _ _ (omega (arith, p.2)))

pub fill_row-requires : goal.fill_row-requires
fill_row-requires c =
    let a = c.args in
    let p = row_passed a.f.now (length a.out.now) (sym c.in_ok-row_refusal.ensures) in
    let f = grid_fits (grid_of a.f.now.grid) (state_of a.f.now.survey) 0 0 p.0 in
    (f.0, f.1, p.1, length-take-le _ _ (omega (arith, p.2)))

pub overflow_add-f : goal.overflow_add-f
overflow_add-f c =
    let a = c.args in
    let p = row_passed a.f.now (length a.out.now) (sym c.in_ok-row_refusal.ensures) in
    let f = grid_fits (grid_of a.f.now.grid) (state_of a.f.now.survey) 0 0 p.0 in
    omega (arith, p.1, (proper_axes (grid_of a.f.now.grid) f.0).1.few)

pub returns : goal.returns
returns c =
    let a = c.args in
    let f = c.fill_row.ensures in
    let h = row_fills a.f.now a.out.now (sym c.in_ok-row_refusal.ensures) f.row_right in
    rw f.out_after (record { answer_value = h.0; advances = h.1.0; out_after = h.1.1.0; row_rounded = h.1.1.1 })
