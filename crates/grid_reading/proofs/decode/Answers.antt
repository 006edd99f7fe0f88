use mathlib.Core.Path.{◌≡◌, sym, ◌∙◌}
use Prim.Native.Nat.{◌+◌, ◌*◌}
use native.Mathlib.Numerals.{add-one}
use native.Mathlib.Omega.{arith}
use mathlib.Core.List.{append-nil, append_assoc}
use lib.Seq.{take_all, take-suc-set}
use mir.Syntax.{w16}
use mir.Val.{to_z, of_z}
use mir.Facts.{to_z-of_z}
use Rattle.model.specs.Bytes.{word_at, signed}
use Rattle.grid_reading.proofs.Decoded.{word_read, cells_step, cells_end}
use Rattle.grid_reading.proofs.decode.Goals as goal

pub loop-i-preserved : goal.loop-i-preserved
loop-i-preserved c =
    let l = c.loop-i in
    let b = c.args.bytes.now in
    let v : to_z w16 (of_z w16 c.from_be_bytes.result) ≡ signed 32768 (word_at b (2 * l.i))
    = to_z-of_z {w = w16} (record { sfits = c.from_be_bytes.type_inv }) ∙ c.from_be_bytes.ensures ∙ word_read _ _ in
    let q : 2 * (l.i + 1) ≡ 2 * l.i + 2 = omega arith in
    rw (q, v, add-one l.i, take-suc-set l.out l.i (signed 32768 (word_at b (2 * l.i))) (omega arith), append_assoc)
    (rw (cells_step b (2 * l.i) (omega arith)) at l.invariant)

pub returns : goal.returns
returns c =
    let l = c.loop-i in
    let b = c.args.bytes.now in
    sym (append-nil l.out) ∙ (rw (take_all l.i l.out (omega arith), cells_end b (2 * l.i) (omega arith)) at l.invariant)
