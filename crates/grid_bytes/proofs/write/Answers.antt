-- `write` meets its contract: the cells are written to the front, the trailer after them, and nothing is left behind it.
use mathlib.Core.Path.{◌∙◌}
use mathlib.Core.List.{◌++◌}
use Prim.Native.Nat.{◌-◌, ◌*◌}
use native.Mathlib.Omega.{arith}
use lib.ListN.{length, drop, length-append, length-drop}
use Rattle.model.specs.GridFile.{cells_bytes, grid_trailer, file_of_cells}
use Rattle.laws.proofs.Stores.{laid_after, laid_whole}
use Rattle.laws.proofs.GridLaws.{length_cells_bytes}
use Rattle.grid_rules.specs.GridOf.{grid_of}
use Rattle.grid_bytes.proofs.write.Goals as goal

pub returns : goal.returns
unfolding file_of_cells
returns c =
    let a = c.args in
    let d = a.out.now in
    let v = a.values.now in
    let end = 2 * length v in
    let p = cells_bytes v in
    let sized = length_cells_bytes v in
    let last = rw c.trailer-t.ensures at c.copy.ensures.laid in
    let lent = length-append p (drop end d) in
    let q = grid_trailer (grid_of a.g) end in
    rw (last, c.cells.ensures, sized)
    (laid_after end (length (p ++ drop end d) - end) p q d sized (omega (arith, lent, length-drop end d))
    ∙ laid_whole (p ++ q) d (omega (arith, length-append p q)))
