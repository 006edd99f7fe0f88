-- `side` meets its contract. The invariant: the corners so far are the side of the first i points.
use Prim.Native.Nat.{◌≤◌}
use mathlib.Core.Path.{◌≡◌, refl}
use native.Mathlib.Omega.{arith}
use lib.ListN.{length, length-set}
use Rattle.polygon.specs.Stacked.{turn_of}
use Rattle.polygon.proofs.StackedLaws.{side_none, side_more}
use Rattle.polygon.proofs.side.Goals as goal

pub loop-i-init : goal.loop-i-init
loop-i-init c = (omega arith, refl, refl, side_none (turn_of c.args.up) c.args.xs.now c.args.ys.now _ _)

pub loop-i-preserved : goal.loop-i-preserved
loop-i-preserved c =
    let l = c.loop-i in
    let sx : length l.sx ≡ 256 = l.invariant.1 in
    let sy : length l.sy ≡ 256 = l.invariant.2 in
    let k : c.staying-k.result ≤ l.depth = c.staying-k.ensures.upper_bound in (
      omega arith,
      simp length-set sx,
      simp length-set sy,
      side_more _ _ _ _ _ l.i l.depth c.staying-k.result _ _ (omega arith) (omega arith) (omega arith)
          c.coordinate-px.ensures c.coordinate-py.ensures c.staying-k.ensures.py_value l.invariant.3,
    )

pub returns : goal.returns
returns c =
    let l = c.loop-i in
    let e : l.i ≡ c.args.m = omega arith in
    record {
      depth_bound = omega arith;
      depth_value = rw (← e) l.invariant.3;
    }
