-- `write` meets its contract: 7, 16 or 6 refuses it before anything is worked out, and then the text's length decides.
use mathlib.Core.Path.{sym, ap, subst, ◌∙◌}
use mathlib.Core.List.{List}
use Prim.Native.Nat.{ℕ}
use lib.IntN.{ℤ}
use native.Mathlib.Omega.{arith}
use lib.ListN.{take}
use lib.Seq.{length-take-le}
use Rattle.model.specs.Esri.{esri_text, text_of_cells}
use Rattle.laws.proofs.GridLaws.{few_cells, proper_axes}
use Rattle.laws.proofs.EsriChecks.{esri_passes}
use Rattle.refusal.specs.Numbered.{number_of, numbered}
use Rattle.refusal.proofs.Coded.{never_0}
use Rattle.refusal.proofs.Told.{passed_number}
use Rattle.survey.specs.StateOf.{state_of}
use Rattle.grid_rules.specs.GridOf.{grid_of}
use Rattle.esri.specs.EsriWritten.{TextPut}
use Rattle.esri.proofs.Texts.{text_refused, text_decides}
use Rattle.esri.proofs.write.Goals as goal

pub returns-in_err-esri_refusal : goal.returns-in_err-esri_refusal
returns-in_err-esri_refusal c =
    let a = c.args in
    let e = c.in_err-esri_refusal.field-0.0 in
    let h = text_refused (state_of a.s) (grid_of a.g) a.out.now (number_of e) (c.in_err-esri_refusal.ensures (state_of a.s) (sym c.count.ensures.0)) (never_0 e) in
    rw (passed_number _ e c.from_residual.ensures.1) (record { value = h.0; out_after = h.1.0; written_right = h.1.1.0; text_fits = h.1.1.1 })

pub cells-values-requires : goal.cells-values-requires
cells-values-requires c =
    let a = c.args in
    let decided = c.in_ok-esri_refusal.ensures (state_of a.s) (sym c.count.ensures.0) in
    let p = esri_passes (grid_of a.g) (state_of a.s) 0 (sym decided) in
    (p.rules, p.some)

pub slice_bounds-values-end : goal.slice_bounds-values-end
slice_bounds-values-end c =
    let a = c.args in
    let decided = c.in_ok-esri_refusal.ensures (state_of a.s) (sym c.count.ensures.0) in
    let p = esri_passes (grid_of a.g) (state_of a.s) 0 (sym decided) in
    omega (arith, few_cells (grid_of a.g) p.rules, c.cell_count-n.ensures.0, c.cells-values.ensures.result_value.1)

pub slice_bounds-put-end : goal.slice_bounds-put-end
slice_bounds-put-end c =
    let a = c.args in
    let decided = c.in_ok-esri_refusal.ensures (state_of a.s) (sym c.count.ensures.0) in
    let p = esri_passes (grid_of a.g) (state_of a.s) 0 (sym decided) in
    sym (length-take-le c.cell_count-n.result c.cells-values.result (omega (arith, few_cells (grid_of a.g) p.rules, c.cell_count-n.ensures.0, c.cells-values.ensures.result_value.1)))

pub put-requires : goal.put-requires
put-requires c =
    let a = c.args in
    let g = grid_of a.g in
    let decided = c.in_ok-esri_refusal.ensures (state_of a.s) (sym c.count.ensures.0) in
    let rules = (esri_passes (grid_of a.g) (state_of a.s) 0 (sym decided)).rules in
    let few = few_cells g rules in
    let e = length-take-le c.cell_count-n.result c.cells-values.result (omega (arith, few, c.cell_count-n.ensures.0, c.cells-values.ensures.result_value.1)) in
    ((proper_axes g rules).0.some, e ∙ c.cell_count-n.ensures.0, omega (arith, e, c.cell_count-n.ensures.0, few))

pub returns : goal.returns
unfolding esri_text
returns c =
    let a = c.args in
    let s = state_of a.s in
    let g = grid_of a.g in
    let decided = c.in_ok-esri_refusal.ensures s (sym c.count.ensures.0) in
    let n = c.cell_count-n in
    let v = c.cells-values in
    let same = ap (λ (k : ℕ). take k v.result) n.ensures.0 ∙ v.ensures.result_value.0 in
    let put = subst (λ (l : List ℤ). TextPut (text_of_cells g l) a.out.now (numbered c.put.result) c.put.new.out) same c.put.ensures in
    let h = text_decides s g a.out.now (sym decided) v.ensures.cells_right (numbered c.put.result) c.put.new.out put in
    record { value = h.0; out_after = h.1.0; written_right = h.1.1.0; text_fits = h.1.1.1 }
