use mathlib.Core.Path.{refl, ◌∙◌}
use native.Mathlib.Omega.{arith}
use mathlib.Core.List.{flat_map}
use lib.IntN.{pos}
use lib.ListN.{get_or}
use mir.Syntax.{w16}
use mir.Val.{SFits}
use mir.Facts.{to_z-of_z}
use borrow.Author.Rules.{rules}
use Rattle.model.specs.GridFile.{cells_bytes}
use Rattle.grid_bytes.proofs.Encoded.{bytes_of_cell, same_size, one_more}
use Rattle.grid_bytes.proofs.cells.Goals as goal

pub loop-i-init : goal.loop-i-init
unfolding cells_bytes flat_map
loop-i-init c = (omega arith, refl)

pub loop-i-preserved : goal.loop-i-preserved
loop-i-preserved c =
    let l = c.loop-i in
    let v = c.args.values.now in
    let f : SFits w16 (get_or v l.i (pos 0)) = search rules in
    let b = c.copy_from_slice.ensures.after ∙ (rw (to_z-of_z f) at c.to_be_bytes.ensures) ∙ bytes_of_cell (get_or v l.i (pos 0)) in
    (same_size v l.i l.out _ (omega arith) (omega arith) b, one_more v l.i l.out _ (omega arith) (omega arith) b l.invariant.1)
