use mathlib.Core.Path.{◌≡◌, refl, sym, ap, ◌∙◌}
use native.Mathlib.Omega.{arith}
use lib.ListN.{length-set}
use lib.Seq.{take_all}
use mir.Syntax.{w16}
use mir.Val.{SFits}
use mir.Facts.{to_z-of_z}
use borrow.Author.Rules.{rules}
use Rattle.model.specs.Lists.{tabulate}
use Rattle.model.specs.Grid.{row}
use Rattle.laws.proofs.Tests.{below_more}
use Rattle.refusal.specs.Numbered.{numbered}
use Rattle.survey.specs.declared.Found.{Found}
use Rattle.survey.specs.StateOf.{state_of}
use Rattle.grid_rules.specs.GridOf.{grid_of}
use Rattle.grid_cells.proofs.Rows.{cell_at, CellRight, cell_more}
use Rattle.survey.proofs.Looking.{one_answer, not_refused}
use Rattle.grid_cells.proofs.Looked.{cell_found}
use Rattle.grid_cells.proofs.fill_row.Goals as goal

pub loop-c-init : goal.loop-c-init
unfolding tabulate
loop-c-init c = (c.requires.3, refl, λ i l. absurd (omega arith))

pub returns-in_default : goal.returns-in_default
returns-in_default c =
    let l = c.loop-c in
    let a = c.args in
    let s = state_of a.s in
    let g = grid_of a.g in
    let here = cell_found s g l.c a.r c.requires.0 c.requires.1 (omega arith) c.requires.2 (numbered c.look.result) (c.look.ensures.value, c.look.ensures.rounded) in
    absurd (not_refused here.0 (ap numbered c.in_default.is))

pub loop-c-preserved : goal.loop-c-preserved
loop-c-preserved c =
    let l = c.loop-c in
    let a = c.args in
    let s = state_of a.s in
    let g = grid_of a.g in
    let here = cell_found s g l.c a.r c.requires.0 c.requires.1 (omega arith) c.requires.2 (numbered c.look.result) (c.look.ensures.value, c.look.ensures.rounded) in
    let f : SFits w16 c.in-Ok.found.answer = search rules in
    let e = one_answer here.0 (ap numbered c.in-Ok.is) in (
      simp length-set (omega arith),
      rw (to_z-of_z f, ap (λ (w : Found). w.answer) e) (cell_more s g a.r l.c l.out (omega arith) l.invariant.1),
      below_more (CellRight s g a.r) l.c l.invariant.2 here.1,
    )

pub returns : goal.returns
unfolding row
returns c =
    let l = c.loop-c in
    let a = c.args in
    let k : l.c ≡ a.g.columns = omega arith in record {
      out_after = sym (take_all l.c l.out (omega arith)) ∙ l.invariant.1 ∙ ap (tabulate (cell_at (state_of a.s) (grid_of a.g) a.r)) k;
      row_right = λ i h. l.invariant.2 i (omega arith);
    }
