-- `write` meets its contract: the rows are written behind the header, and nothing is left behind them.
use native.Mathlib.Omega.{arith}
use Prim.Native.Nat.{◌-◌}
use lib.ListN.{length, length-take, length-drop}
use Rattle.grid_rules.specs.GridOf.{grid_of}
use Rattle.esri_text.proofs.Rows.{parts_size, text_put}
use Rattle.esri_text.proofs.write.Goals as goal

pub put_header-at-requires : goal.put_header-at-requires
put_header-at-requires c = omega (arith, parts_size (grid_of c.args.g) c.args.values.now, c.requires.1)

pub slice_bounds-put_rows-count : goal.slice_bounds-put_rows-count
slice_bounds-put_rows-count c = omega (arith, parts_size (grid_of c.args.g) c.args.values.now, c.requires.1, c.put_header-at.ensures.value)

pub slice_bounds-put_rows-start : goal.slice_bounds-put_rows-start
slice_bounds-put_rows-start c = omega (arith, parts_size (grid_of c.args.g) c.args.values.now, c.requires.1, c.put_header-at.ensures.value)

pub put_rows-requires : goal.put_rows-requires
put_rows-requires c =
    (c.requires.0, simp (length-take, length-drop) (omega (arith, parts_size (grid_of c.args.g) c.args.values.now, c.requires.1, c.put_header-at.ensures.value)))

pub returns : goal.returns
returns c =
    let a = c.args in
    let g = grid_of a.g in
    let h = c.put_header-at in
    let e = h.ensures in
    rw c.put_rows.ensures
    (text_put g a.values.now a.out.now h.new.out h.result (length h.new.out - h.result) e.value e.out_after (omega (arith, parts_size g a.values.now, c.requires.1, e.value)) c.requires.1)
