-- `places` meets its contract: the number is between two powers of ten.
use Prim.Native.Nat.{suc, ◌<◌, ◌^◌}
use native.Mathlib.Nat.{pow-succ'}
use native.Mathlib.Omega.{arith}
use Rattle.digits.proofs.Powers.{places_at}
use Rattle.digits.proofs.places.Goals as goal

pub returns-clause-value : goal.returns-clause-value
returns-clause-value c =
    let k = c.ilog10.result in
    let n = c.args.n in
    let h : n < 10 ^ suc k = rw pow-succ' (omega arith) in
    omega (arith, places_at k n (omega arith) h)
