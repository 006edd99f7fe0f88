-- `hexadecimal` meets its contract. The invariant: the digits of the first i bytes stand at the front of what was lent.
use mathlib.Core.Path.{refl}
use mathlib.Core.List.{flat_map}
use Prim.Native.Nat.{◌*◌, ◌-◌}
use native.Mathlib.Omega.{arith}
use lib.ListN.{length}
use lib.Seq.{take_all}
use Rattle.laws.proofs.Stores.{laid_more}
use Rattle.digits.specs.Hexadecimal.{hex_pair, hexadecimal}
use Rattle.digits.proofs.hexadecimal.Goals as goal

pub loop-i-init : goal.loop-i-init
unfolding flat_map
loop-i-init c = (refl, refl)

pub loop-i-preserved : goal.loop-i-preserved
loop-i-preserved c =
    let l = c.loop-i in
    let a = c.args in
    let e = laid_more hex_pair 2 (λ _. refl) a.s.now 0 l.i (length l.out - 2 * l.i) a.out.now l.out (omega arith) (omega arith) l.invariant.1 in
    (omega arith, rw (c.copy.ensures.laid, c.hex_pair.ensures) e)

pub returns : goal.returns
unfolding hexadecimal
returns c =
    let l = c.loop-i in
    let s = c.args.s.now in
    rw (take_all l.i s (omega arith)) at l.invariant.1
