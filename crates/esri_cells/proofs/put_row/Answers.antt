-- `put_row` meets its contract. The invariant: the cells before the i-th are written, and the rest of the line is left.
use mathlib.Core.Path.{◌≡◌, refl, ap, ◌∙◌}
use Prim.Native.Nat.{◌+◌, ◌-◌}
use native.Mathlib.Omega.{arith}
use mathlib.Core.List.{[], ◌∷◌}
use lib.IntN.{pos}
use lib.ListN.{length, get_or, drop, drop_of_length-le, length-append, length-take, length-drop}
use mir.Syntax.{w16}
use mir.Val.{SFits}
use mir.Facts.{to_z-of_z}
use borrow.Author.Rules.{rules}
use Rattle.model.specs.Esri.{cell_text, row_line}
use Rattle.laws.proofs.Writing.{none_written, same_size, all_written}
use Rattle.esri_cells.proofs.Lines.{left_of, none_left, left_line, cell_room, put_size, cell_put}
use Rattle.esri_cells.proofs.put_row.Goals as goal

pub loop-i-init : goal.loop-i-init
loop-i-init c =
    let l = c.args.values.now in
    (omega (arith, ap length (left_line l c.requires.0), length-append (row_line l) (10 ∷ []), c.requires.1), refl, none_written)

pub put_cell-at-requires : goal.put_cell-at-requires
put_cell-at-requires c =
    let l = c.loop-i in
    let v = c.args.values.now in
    let f : SFits w16 (get_or v l.i (pos 0)) = search rules in
    rw (to_z-of_z f) (simp (length-take, length-drop) (omega (arith, cell_room v c.args.out.now l.i l.at l.out l.invariant.2 (omega arith) l.invariant.0)))

pub bounds-out-at : goal.bounds-out-at
bounds-out-at c =
    let l = c.loop-i in
    let v = c.args.values.now in
    let f : SFits w16 (get_or v l.i (pos 0)) = search rules in
    let value = rw (to_z-of_z f) at c.put_cell-at.ensures.value in
    let after = rw (to_z-of_z f) at c.put_cell-at.ensures.out_after in
    let h = cell_room v c.args.out.now l.i l.at l.out l.invariant.2 (omega arith) l.invariant.0 in
    rw after (omega (arith, h, value, put_size l.out (cell_text (get_or v l.i (pos 0))) l.at (omega (arith, h))))

pub loop-i-preserved : goal.loop-i-preserved
loop-i-preserved c =
    let l = c.loop-i in
    let v = c.args.values.now in
    let f : SFits w16 (get_or v l.i (pos 0)) = search rules in
    let value = rw (to_z-of_z f) at c.put_cell-at.ensures.value in
    let after = rw (to_z-of_z f) at c.put_cell-at.ensures.out_after in
    let h = cell_room v c.args.out.now l.i l.at l.out l.invariant.2 (omega arith) l.invariant.0 in
    let w = cell_put v c.args.out.now l.i l.at l.out l.invariant.2 (omega arith) l.invariant.0 (length l.out - l.at) (omega (arith, h)) in
    let left : length v - l.i - 1 ≡ length v - (l.i + 1) = omega arith in
    rw (after, value, c.separator.ensures, left) (l.invariant.0, same_size w (omega (arith, h)), w)

pub returns : goal.returns
returns c =
    let l = c.loop-i in
    let v = c.args.values.now in
    let e : drop l.i v ≡ [] = drop_of_length-le v {i = l.i} (omega arith) in
    let done = all_written l.invariant.2 (ap left_of e ∙ none_left) in
    let whole = left_line v c.requires.0 in
    record {
      value = omega (arith, done.1, ap length whole, length-append (row_line v) (10 ∷ []));
      out_after = rw whole at done.0;
    }
