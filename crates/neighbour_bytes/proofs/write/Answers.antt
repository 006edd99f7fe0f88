-- `write` meets its contract. The invariant: the bytes of the first i records stand at the front of what was lent.
use mathlib.Core.Path.{◌≡◌, refl}
use mathlib.Core.List.{flat_map}
use Prim.Native.Nat.{◌*◌, ◌-◌}
use native.Mathlib.Omega.{arith}
use lib.ListN.{length}
use Rattle.laws.proofs.Stores.{laid_more}
use Rattle.neighbour_records.specs.Records.{no_record}
use Rattle.neighbour_bytes.specs.Fields.{field_bytes, records_bytes}
use Rattle.neighbour_bytes.proofs.write.Goals as goal

pub loop-i-init : goal.loop-i-init
unfolding flat_map
loop-i-init c = (refl, refl)

pub loop-i-preserved : goal.loop-i-preserved
loop-i-preserved c =
    let l = c.loop-i in
    let a = c.args in
    let e = laid_more field_bytes 10 (λ _. refl) a.list no_record l.i (length l.out - 10 * l.i) a.out.now l.out (omega arith) (omega arith) l.invariant.1 in
    (omega arith, rw (c.copy.ensures.laid, c.fields.ensures) e)

pub returns : goal.returns
unfolding records_bytes
returns c =
    let l = c.loop-i in
    let e : l.i ≡ c.args.n = omega arith in
    rw (← e) l.invariant.1
