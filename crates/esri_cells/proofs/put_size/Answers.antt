-- `put_size` meets its contract: digits, point and decimals stand one after the other.
use Prim.Native.Nat.{◌+◌, ◌-◌}
use native.Mathlib.Omega.{arith}
use lib.ListN.{set, length-set}
use borrow.Rule.Slice.PartMut.{put_mid, mid_len}
use Rattle.model.specs.Esri.{size_text}
use Rattle.esri_cells.proofs.Cells.{Put, length_size, size_put}
use Rattle.esri_cells.proofs.put_size.Goals as goal

pub put-at-requires : goal.put-at-requires
put-at-requires c = omega (arith, length_size c.args.n)

pub bounds-out-at : goal.bounds-out-at
bounds-out-at c = omega (arith, length_size c.args.n, c.put-at.ensures.value)

pub overflow_add-end : goal.overflow_add-end
overflow_add-end c = omega (arith, length_size c.args.n, c.put-at.ensures.value)

pub overflow_add-at : goal.overflow_add-at
overflow_add-at c = omega (arith, length_size c.args.n, c.put-at.ensures.value)

pub slice_bounds-spell-end : goal.slice_bounds-spell-end
slice_bounds-spell-end c = simp length-set (omega (arith, length_size c.args.n, c.put-at.ensures.value))

pub returns-clause-out_after : goal.returns-clause-out_after
returns-clause-out_after c =
    let p = c.put-at in
    let a = c.args in
    let m = mid_len (p.result + 1) (p.result + 9) (set p.new.out p.result 46) (simp length-set (omega (arith, length_size a.n, p.ensures.value))) in
    let w : Put (size_text a.n) a.out.now (put_mid (p.result + 1) (p.result + 9 - (p.result + 1)) (set p.new.out p.result 46) c.spell.new.out) =
    rw p.ensures.out_after (size_put a.n p.result (p.result + 9 - (p.result + 1)) a.out.now c.spell.new.out p.ensures.value (omega arith) (rw m at c.spell.ensures) (omega arith)) in
    w.0

pub returns-clause-value : goal.returns-clause-value
returns-clause-value c = omega (arith, length_size c.args.n, c.put-at.ensures.value)
