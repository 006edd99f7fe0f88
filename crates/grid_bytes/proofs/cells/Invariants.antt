-- The invariant: the first 2 i bytes are those of the first i cells.
use mathlib.Core.Path.{◌≡◌}
use Prim.Native.Nat.{◌*◌}
use lib.ListN.{length, take}
use Rattle.model.specs.GridFile.{cells_bytes}
use Rattle.grid_bytes.proofs.cells.Given as goal

abbrev pub invariant-loop-i : goal.invariant-loop-i
invariant-loop-i l = (length l.out ≡ 2 * length l.values) × (take (2 * l.i) l.out ≡ cells_bytes (take l.i l.values))
