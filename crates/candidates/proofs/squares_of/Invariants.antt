-- The invariant: the first j are filled.
use mathlib.Core.Path.{◌≡◌}
use Prim.Native.Nat.{ℕ, ◌<◌}
use lib.ListN.{length, get_or}
use Rattle.candidates.specs.Keys.{squared_of}
use Rattle.candidates.proofs.squares_of.Given as goal

abbrev pub invariant-loop-j : goal.invariant-loop-j
invariant-loop-j l = (length l.squares ≡ 12) × ((k : ℕ) → k < l.j → get_or l.squares k 0 ≡ squared_of (get_or l.key-items k 0))
