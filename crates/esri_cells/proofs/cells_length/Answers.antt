-- `cells_length` meets its contract. The invariant: the sum and the bytes of the cells from i on are those of all.
use mathlib.Core.Path.{◌≡◌, ap}
use native.Mathlib.Omega.{arith}
use mathlib.Core.List.{[]}
use lib.IntN.{pos}
use lib.ListN.{get_or, drop, drop_of_length-le}
use mir.Syntax.{w16}
use mir.Val.{SFits}
use mir.Facts.{to_z-of_z}
use borrow.Author.Rules.{rules}
use Rattle.esri_cells.specs.Sizes.{cells_length}
use Rattle.esri_cells.proofs.Lines.{sizes_more}
use Rattle.esri_cells.proofs.cells_length.Goals as goal

pub loop-v-preserved : goal.loop-v-preserved
loop-v-preserved c =
    let i = c.loop-v.v-index in
    let v = c.args.values.now in
    let f : SFits w16 (get_or v i (pos 0)) = search rules in
    let e = rw (to_z-of_z f) at c.cell_length.ensures.0 in
    (omega (arith, e, sizes_more v i (omega arith)), omega arith)

pub returns : goal.returns
returns c =
    let l = c.loop-v in
    let v = c.args.values.now in
    let e : drop l.v-index v ≡ [] = drop_of_length-le v {i = l.v-index} (omega arith) in
    (omega (arith, ap cells_length e), omega arith)
