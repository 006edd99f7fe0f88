-- `put_cell` meets its contract: a number below zero has its sign first.
use mathlib.Core.Path.{◌≡◌, ap}
use mathlib.Core.List.{List, ◌∷◌}
use lib.IntN.{ℤ}
use Prim.Native.Nat.{ℕ, ◌-◌, ◌<◌, ◌≤◌}
use native.Mathlib.Omega.{arith}
use lib.ListN.{length, set, length-set, length-take, length-drop}
use borrow.Rule.Slice.PartMut.{put_mid}
use Rattle.model.specs.Esri.{size_text, cell_text}
use Rattle.esri_cells.proofs.Cells.{Put, below, above, sign_put}
use Rattle.esri_cells.proofs.put_cell.Goals as goal

-- the text of a number below zero has one byte more than that of its size
signed : (n : ℕ) (a : ℤ) (out : List ℕ) → cell_text a ≡ 45 ∷ size_text n → length (cell_text a) ≤ length out → length (size_text n) < length out
signed n a out e h = omega (arith, ap length e)

pub bounds-out-0 : goal.bounds-out-0
bounds-out-0 c = omega (arith, signed c.size-n.result c.args.a c.args.out.now (below c.ranges.a c.size-n.result c.size-n.ensures.0 c.if-a-lt0.true) c.requires)

pub slice_bounds-put_size-count : goal.slice_bounds-put_size-count
slice_bounds-put_size-count c = simp length-set (omega (arith, signed c.size-n.result c.args.a c.args.out.now (below c.ranges.a c.size-n.result c.size-n.ensures.0 c.if-a-lt0.true) c.requires))

pub slice_bounds-put_size-start : goal.slice_bounds-put_size-start
slice_bounds-put_size-start c = simp length-set (omega (arith, signed c.size-n.result c.args.a c.args.out.now (below c.ranges.a c.size-n.result c.size-n.ensures.0 c.if-a-lt0.true) c.requires))

pub put_size-k-requires : goal.put_size-k-requires
put_size-k-requires c = simp (length-take, length-drop, length-set) (omega (arith, signed c.size-n.result c.args.a c.args.out.now (below c.ranges.a c.size-n.result c.size-n.ensures.0 c.if-a-lt0.true) c.requires))

pub overflow_add-result : goal.overflow_add-result
overflow_add-result c = omega (arith, signed c.size-n.result c.args.a c.args.out.now (below c.ranges.a c.size-n.result c.size-n.ensures.0 c.if-a-lt0.true) c.requires, c.put_size-k.ensures.value)

pub returns-then-a-lt0-clause-value : goal.returns-then-a-lt0-clause-value
returns-then-a-lt0-clause-value c = rw (below c.ranges.a c.size-n.result c.size-n.ensures.0 c.if-a-lt0.true) (omega (arith, c.put_size-k.ensures.value))

pub returns-then-a-lt0-clause-out_after : goal.returns-then-a-lt0-clause-out_after
returns-then-a-lt0-clause-out_after c =
    let a = c.args in
    let n = c.size-n.result in
    let h = signed c.size-n.result c.args.a c.args.out.now (below c.ranges.a c.size-n.result c.size-n.ensures.0 c.if-a-lt0.true) c.requires in
    let w : Put (45 ∷ size_text n) a.out.now (put_mid 1 (length (set a.out.now 0 45) - 1) (set a.out.now 0 45) c.put_size-k.new.out) =
    rw c.put_size-k.ensures.out_after (sign_put n (length (set a.out.now 0 45) - 1) a.out.now h (simp length-set (omega arith))) in
    rw (below c.ranges.a c.size-n.result c.size-n.ensures.0 c.if-a-lt0.true) w.0

pub put_size-requires : goal.put_size-requires
put_size-requires c = omega (arith, ap length (above c.ranges.a c.size-n.result c.size-n.ensures.0 c.if-a-lt0.false), c.requires)

pub returns-clause-value : goal.returns-clause-value
returns-clause-value c = rw (above c.ranges.a c.size-n.result c.size-n.ensures.0 c.if-a-lt0.false) c.put_size.ensures.value

pub returns-clause-out_after : goal.returns-clause-out_after
returns-clause-out_after c = rw (above c.ranges.a c.size-n.result c.size-n.ensures.0 c.if-a-lt0.false) c.put_size.ensures.out_after
