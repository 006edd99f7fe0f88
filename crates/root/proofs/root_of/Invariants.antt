-- `root_of` meets its contract. The invariant: what is found is the root of the digits of n so far, with `rest` beside its square.
use mathlib.Core.Path.{◌≡◌}
use Prim.Native.Nat.{ℕ, ◌+◌, ◌-◌, ◌*◌, ◌^◌, ◌≤◌, ◌<◌}
use Rattle.root.proofs.root_of.Given as goal

-- k bits are found, from the first 2 k of the 50 digits of n; the words have the others, at their upper end
pub record Found (n high low rest root k : ℕ) : Type 0 where
  pub digits : 16384 * (n * 4 ^ k) ≡ 18446744073709551616 * (root * root + rest) + (4294967296 * high + low)
  pub upper : high < 4294967296
  pub lower : low < 4294967296
  pub left : rest ≤ 2 * root
  pub small : root < 2 ^ k

abbrev pub invariant-loop-k : goal.invariant-loop-k
invariant-loop-k l = Found l.n l.high l.low l.rest l.root l.k × (l.k ≤ 25)

abbrev pub decreases-loop-k : goal.decreases-loop-k
decreases-loop-k l = 25 - l.k
