-- `spell` meets its contract. The invariant: the digits still to write and the bytes written after them are the digits of n.
use mathlib.Core.Path.{◌≡◌}
use mathlib.Core.List.{◌++◌}
use lib.ListN.{length, drop}
use Rattle.model.specs.Decimal.{digits_of}
use Rattle.digits.proofs.spell.Given as goal

abbrev pub invariant-loop-i : goal.invariant-loop-i
invariant-loop-i l = digits_of l.i l.rest ++ drop l.i l.out ≡ digits_of (length l.initial.out) l.n
