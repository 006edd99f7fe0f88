use mathlib.Core.Path.{refl}
use mathlib.Core.Bool.{Bool}
use Prim.Native.Nat.{ℕ}
use native.Mathlib.Omega.{arith}
use lib.ListN.{get_or}
use Rattle.squares.specs.Squares.{within, indices_of}
use Rattle.squares.proofs.Counting.{indices_more, byte_most}
use Rattle.squares.proofs.indices_within.Goals as goal

pub loop-i-init : goal.loop-i-init
unfolding indices_of
loop-i-init c = (omega arith, refl)

pub loop-i-preserved : goal.loop-i-preserved
loop-i-preserved c =
    let l = c.loop-i in
    let t : ℕ → Bool = λ j. within c.args.limit (get_or c.args.squares.now j 0) in
    rw c.from-k.ensures (omega (arith, byte_most (t l.i)), indices_more t l.at l.k l.i (omega arith) l.invariant.1)
