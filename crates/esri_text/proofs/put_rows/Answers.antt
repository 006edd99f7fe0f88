-- `put_rows` meets its contract. The invariant: the lines of the rows from r on are written, and those of the first r rows are left.
use mathlib.Core.Path.{◌≡◌}
use Prim.Native.Nat.{◌+◌, ◌-◌, ◌*◌}
use native.Mathlib.Omega.{arith}
use lib.ListN.{length, length-take, length-drop}
use Rattle.esri_text.proofs.Rows.{rows_done, row_some, row_room, row_put}
use Rattle.esri_text.proofs.put_rows.Goals as goal

pub put_row-at-requires : goal.put_row-at-requires
put_row-at-requires c =
    let l = c.loop-r in
    let k = c.from-columns.result in
    let one : k * (l.r - 1) + k - k * (l.r - 1) ≡ k = omega arith in
    let some = row_some l.invariant (omega arith) in
    let room = row_room l.invariant (omega arith) in
    rw (one, c.from-columns.ensures) (some, simp (length-take, length-drop) (omega (arith, room)))

pub loop-r-preserved : goal.loop-r-preserved
loop-r-preserved c =
    let l = c.loop-r in
    let p = c.put_row-at in
    let k = c.from-columns.result in
    let one : k * (l.r - 1) + k - k * (l.r - 1) ≡ k = omega arith in
    let value = rw (one, c.from-columns.ensures) at p.ensures.value in
    let after = rw (one, c.from-columns.ensures) at p.ensures.out_after in
    row_put l.invariant (omega arith) (length l.out - l.at) p.result p.new.out (omega (arith, row_room l.invariant (omega arith))) value after

pub returns : goal.returns
returns c = rows_done c.loop-r.invariant (omega arith)
