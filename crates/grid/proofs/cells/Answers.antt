-- `cells` meets its contract: refused it changes nothing, and accepted it hands on the front of what it was lent.
use mathlib.Core.Path.{sym, ◌∙◌}
use native.Mathlib.Omega.{arith}
use lib.ListN.{length}
use lib.Seq.{length-take-le}
use Rattle.model.specs.Grid.{grid_refusal}
use Rattle.laws.proofs.GridLaws.{grid_fits}
use Rattle.refusal.specs.Numbered.{number_of}
use Rattle.refusal.proofs.Coded.{never_0}
use Rattle.refusal.proofs.Told.{passed_number}
use Rattle.survey.specs.StateOf.{state_of}
use Rattle.grid_rules.specs.GridOf.{grid_of}
use Rattle.grid.proofs.FilledLaws.{cells_refused, cells_filled}
use Rattle.grid.proofs.cells.Goals as goal

pub returns-in_err-refusal : goal.returns-in_err-refusal
unfolding grid_refusal
returns-in_err-refusal c =
    let a = c.args in
    let e = c.in_err-refusal.field-0.0 in
    let no = rw c.cell_count-n.ensures.0 at (c.in_err-refusal.ensures (state_of a.s) (sym c.count.ensures.0)) in
    let h = cells_refused (state_of a.s) (grid_of a.g) a.out.now (number_of e) no (never_0 e) in
    rw (passed_number _ e c.from_residual.ensures.1) (record { value = h.0; out_after = h.1.0; filled_right = h.1.1 })

pub slice_bounds-fill-end : goal.slice_bounds-fill-end
slice_bounds-fill-end c =
    let a = c.args in
    let no = c.in_ok-refusal.ensures (state_of a.s) (sym c.count.ensures.0) in
    let f = grid_fits (grid_of a.g) (state_of a.s) (length a.out.now) c.cell_count-n.result (sym no) in
    omega (arith, f.2)

pub slice_bounds-fill-end-2 : goal.slice_bounds-fill-end-2
slice_bounds-fill-end-2 c =
    let a = c.args in
    let no = c.in_ok-refusal.ensures (state_of a.s) (sym c.count.ensures.0) in
    let f = grid_fits (grid_of a.g) (state_of a.s) (length a.out.now) c.cell_count-n.result (sym no) in
    sym (length-take-le _ _ (omega (arith, f.2)))

pub fill-requires : goal.fill-requires
fill-requires c =
    let a = c.args in
    let no = c.in_ok-refusal.ensures (state_of a.s) (sym c.count.ensures.0) in
    let f = grid_fits (grid_of a.g) (state_of a.s) (length a.out.now) c.cell_count-n.result (sym no) in
    (f.0, f.1, length-take-le _ _ (omega (arith, f.2)) ∙ c.cell_count-n.ensures.0)

pub returns : goal.returns
unfolding grid_refusal
returns c =
    let a = c.args in
    let n = c.cell_count-n in
    let no = rw n.ensures.0 at (c.in_ok-refusal.ensures (state_of a.s) (sym c.count.ensures.0)) in
    let f = c.fill.ensures in
    let o = cells_filled (state_of a.s) (grid_of a.g) a.out.now (sym no) f.cells_right in
    rw (f.out_after, n.ensures.0) (record { value = o.0; out_after = o.1.0; filled_right = o.1.1 })
