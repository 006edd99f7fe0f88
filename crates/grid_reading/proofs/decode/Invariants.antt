-- The invariant: the cells so far, and those of the bytes that are left, are those of all.
use mathlib.Core.Path.{◌≡◌}
use Prim.Native.Nat.{◌*◌}
use mathlib.Core.List.{◌++◌}
use lib.ListN.{take, drop}
use Rattle.model.specs.GridReading.{cells_of}
use Rattle.grid_reading.proofs.decode.Given as goal

abbrev pub invariant-loop-i : goal.invariant-loop-i
invariant-loop-i l = take l.i l.out ++ cells_of (drop (2 * l.i) l.bytes) ≡ cells_of l.bytes
