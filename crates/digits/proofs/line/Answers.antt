-- `line` meets its contract: the label, the number's digits and the line feed stand one after the other.
use Prim.Native.Nat.{◌-◌}
use native.Mathlib.Omega.{arith}
use lib.Seq.{take_all}
use lib.ListN.{length, length-take, length-drop}
use Rattle.digits.proofs.Lines.{length_line, line_put}
use Rattle.digits.proofs.line.Goals as goal

pub copy-at-requires : goal.copy-at-requires
copy-at-requires c = let a = c.args in omega (arith, length_line a.label.now a.n)

pub slice_bounds-put-count : goal.slice_bounds-put-count
slice_bounds-put-count c = let a = c.args in omega (arith, length_line a.label.now a.n, c.copy-at.ensures.count)

pub slice_bounds-put-start : goal.slice_bounds-put-start
slice_bounds-put-start c = let a = c.args in omega (arith, length_line a.label.now a.n, c.copy-at.ensures.count)

pub put-requires : goal.put-requires
put-requires c =
    let p = c in
    let a = p.args in
    simp (length-take, length-drop) (omega (arith, length_line a.label.now a.n, p.copy-at.ensures.count))

pub overflow_add-end : goal.overflow_add-end
overflow_add-end c = omega (arith, length_line c.args.label.now c.args.n, c.put.ensures.value, c.copy-at.ensures.count)

pub bounds-out-end : goal.bounds-out-end
bounds-out-end c = omega (arith, length_line c.args.label.now c.args.n, c.put.ensures.value, c.copy-at.ensures.count)

pub overflow_add-result : goal.overflow_add-result
overflow_add-result c = omega (arith, length_line c.args.label.now c.args.n, c.put.ensures.value, c.copy-at.ensures.count)

pub returns-clause-value : goal.returns-clause-value
returns-clause-value c = omega (arith, length_line c.args.label.now c.args.n, c.put.ensures.value, c.copy-at.ensures.count)

pub returns-clause-out_after : goal.returns-clause-out_after
returns-clause-out_after c =
    let a = c.args in
    let p = c.copy-at in
    (line_put a.label.now a.n p.result c.put.result (length p.new.to - p.result) a.out.now p.new.to c.put.new.out
    p.ensures.count c.put.ensures.value (rw (take_all p.result a.label.now (omega (arith, p.ensures.count)), p.ensures.count) p.ensures.laid) c.put.ensures.out_after c.requires (omega (arith, length_line a.label.now a.n, p.ensures.count))).0
