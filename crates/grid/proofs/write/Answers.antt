-- `write` meets its contract: refused it changes nothing, and accepted it hands on the front of what it was lent.
use mathlib.Core.Path.{sym, ◌∙◌}
use Prim.Native.Nat.{◌+◌, ◌*◌}
use lib.ListN.{length}
use lib.Seq.{length-take-le}
use Rattle.model.specs.GridFile.{grid_file_refusal}
use Rattle.laws.proofs.GridLaws.{grid_fits}
use Rattle.refusal.specs.Numbered.{number_of}
use Rattle.refusal.proofs.Coded.{never_0}
use Rattle.refusal.proofs.Told.{passed_number}
use Rattle.survey.specs.StateOf.{state_of}
use Rattle.grid_rules.specs.GridOf.{grid_of}
use Rattle.grid.proofs.FilledLaws.{file_refused, file_written}
use Rattle.grid.proofs.write.Goals as goal

pub returns-in_err-refusal : goal.returns-in_err-refusal
unfolding grid_file_refusal
returns-in_err-refusal c =
    let a = c.args in
    let e = c.in_err-refusal.field-0.0 in
    let no = rw c.cell_count-n.ensures.0 at (c.in_err-refusal.ensures (state_of a.s) (sym c.count.ensures.0)) in
    let h = file_refused (state_of a.s) (grid_of a.g) a.out.now (number_of e) no (never_0 e) in
    rw (passed_number _ e c.from_residual.ensures.1) (record { value = h.0; out_after = h.1.0; written_right = h.1.1 })

pub slice_bounds-encode-end : goal.slice_bounds-encode-end
slice_bounds-encode-end c =
    let a = c.args in
    let no = c.in_ok-refusal.ensures (state_of a.s) (sym c.count.ensures.0) in
    (grid_fits (grid_of a.g) (state_of a.s) (length a.out.now) (2 * c.cell_count-n.result + 20) (sym no)).2

pub slice_bounds-encode-end-2 : goal.slice_bounds-encode-end-2
slice_bounds-encode-end-2 c =
    let a = c.args in
    let no = c.in_ok-refusal.ensures (state_of a.s) (sym c.count.ensures.0) in
    sym (length-take-le _ _ (grid_fits (grid_of a.g) (state_of a.s) (length a.out.now) (2 * c.cell_count-n.result + 20) (sym no)).2)

pub encode-requires : goal.encode-requires
encode-requires c =
    let a = c.args in
    let n = c.cell_count-n in
    let no = c.in_ok-refusal.ensures (state_of a.s) (sym c.count.ensures.0) in
    let f = grid_fits (grid_of a.g) (state_of a.s) (length a.out.now) (2 * n.result + 20) (sym no) in
    (f.0, f.1, length-take-le _ _ f.2 ∙ rw n.ensures.0)

pub returns : goal.returns
unfolding grid_file_refusal
returns c =
    let a = c.args in
    let n = c.cell_count-n in
    let no = rw n.ensures.0 at (c.in_ok-refusal.ensures (state_of a.s) (sym c.count.ensures.0)) in
    let f = c.encode.ensures in
    let o = file_written (state_of a.s) (grid_of a.g) a.out.now (sym no) f.cells_right in
    rw (f.out_after, n.ensures.0) (record { value = o.0; out_after = o.1.0; written_right = o.1.1 })
