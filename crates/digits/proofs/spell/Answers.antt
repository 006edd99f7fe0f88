-- `spell` meets its contract. The invariant: the digits still to write and the bytes written after them are the digits of n.
use mathlib.Core.Path.{◌≡◌}
use mathlib.Core.List.{List, ◌++◌, append-nil}
use Prim.Native.Nat.{ℕ, zero, suc, ◌+◌, ◌-◌, ◌/◌, ◌%◌, ◌≤◌, ◌<◌}
use native.Mathlib.Numerals.{sub-one}
use native.Mathlib.Omega.{arith}
use lib.ListN.{length, drop, set, length-set}
use lib.Seq.{drop-cons, drop-set-lt, get_or-set_same, drop-length, append_snoc}
use Rattle.model.specs.Decimal.{digits_of}
use Rattle.digits.proofs.spell.Goals as goal

-- a turn writes the last of the digits that are still to write
turn : (i rest : ℕ) (out : List ℕ) → 0 < i → i ≤ length out
    → digits_of (i - 1) (rest / 10) ++ drop (i - 1) (set out (i - 1) (48 + rest % 10)) ≡ digits_of i rest ++ drop i out
unfolding digits_of
turn zero rest out p h = absurd (omega arith)
turn (suc j) rest out p h =
    let d = 48 + rest % 10 in
    let l : j < length (set out j d) = rw length-set h in
    rw (sub-one, drop-cons (set out j d) j 0 l, get_or-set_same out j d 0 h, drop-set-lt (suc j) out j d (omega arith), append_snoc)

pub loop-i-init : goal.loop-i-init
loop-i-init c = rw (drop-length, append-nil)

pub loop-i-preserved : goal.loop-i-preserved
loop-i-preserved c = let l = c.loop-i in rw (turn l.i l.rest l.out (omega arith) (omega arith)) l.invariant

pub returns : goal.returns
unfolding digits_of
returns c =
    let l = c.loop-i in
    let e : l.i ≡ 0 = omega arith in
    rw e at l.invariant
