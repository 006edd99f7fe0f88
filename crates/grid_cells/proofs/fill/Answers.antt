use mathlib.Core.Path.{◌≡◌, refl, sym, ap, ◌∙◌}
use Prim.Native.Nat.{ℕ, ◌*◌}
use native.Mathlib.Omega.{arith}
use lib.Seq.{take_all}
use Rattle.model.specs.Grid.{rows_of, cells}
use Rattle.laws.proofs.Tests.{below_more}
use Rattle.laws.proofs.GridLaws.{row_within}
use Rattle.survey.specs.StateOf.{state_of}
use Rattle.grid_rules.specs.GridOf.{grid_of}
use Rattle.grid_cells.specs.CellsRight.{RowRight}
use Rattle.grid_cells.proofs.Rows.{row_length, row_more}
use Rattle.grid_cells.proofs.fill.Goals as goal

pub loop-r-init : goal.loop-r-init
unfolding rows_of
loop-r-init c = (omega arith, c.requires.2, refl, λ i l. absurd (omega arith))

pub loop-r-preserved : goal.loop-r-preserved
loop-r-preserved c =
    let l = c.loop-r in
    let s = state_of c.args.s in
    let g = grid_of c.args.g in
    let w = row_within g l.r (omega arith) in
    let f = c.fill_row.ensures in
    rw (f.out_after, c.from-columns.ensures)
    (omega arith, row_length s g l.r l.at l.out (omega (arith, w)) ∙ l.invariant.1, row_more s g l.r l.at l.out (omega (arith, w)) l.invariant.2, below_more (RowRight s g) l.r l.invariant.3 f.row_right)

pub returns : goal.returns
unfolding cells
returns c =
    let l = c.loop-r in
    let a = c.args in
    let k : l.r ≡ a.g.rows = omega arith in
    let e = ap (λ (n : ℕ). a.g.columns * n) k in
    record {
      out_after = sym (take_all l.at l.out (omega (arith, e))) ∙ l.invariant.2 ∙ ap (rows_of (state_of a.s) (grid_of a.g)) k;
      cells_right = λ i h. l.invariant.3 i (omega arith);
    }
