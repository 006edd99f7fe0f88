-- `put_rows` meets its contract. The invariant: the lines of the rows from r on are written, and those of the first r rows are left.
use Rattle.grid_rules.specs.GridOf.{grid_of}
use Rattle.esri_text.proofs.Rows.{Left}
use Rattle.esri_text.proofs.put_rows.Given as goal

abbrev pub invariant-loop-r : goal.invariant-loop-r
invariant-loop-r l = Left (grid_of l.fn.g) l.values l.initial.out l.r l.at l.out
