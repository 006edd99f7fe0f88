-- `put_row` meets its contract. The invariant: the cells before the i-th are written, and the rest of the line is left.
use mathlib.Core.Path.{◌≡◌}
use Prim.Native.Nat.{◌≤◌}
use lib.ListN.{length, drop}
use Rattle.laws.proofs.Writing.{Writing}
use Rattle.esri_cells.proofs.Lines.{left_of}
use Rattle.esri_cells.proofs.put_row.Given as goal

abbrev pub invariant-loop-i : goal.invariant-loop-i
invariant-loop-i l =
    (length (left_of l.values) ≤ length l.initial.out) × (length l.out ≡ length l.initial.out) × Writing (left_of l.values) l.initial.out (left_of (drop l.i l.values)) l.at l.out
