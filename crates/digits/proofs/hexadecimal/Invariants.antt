-- `hexadecimal` meets its contract. The invariant: the digits of the first i bytes stand at the front of what was lent.
use mathlib.Core.Path.{◌≡◌}
use mathlib.Core.List.{flat_map}
use lib.ListN.{length, take}
use Rattle.model.specs.Lists.{laid}
use Rattle.digits.specs.Hexadecimal.{hex_pair}
use Rattle.digits.proofs.hexadecimal.Given as goal

abbrev pub invariant-loop-i : goal.invariant-loop-i
invariant-loop-i l = (length l.out ≡ length l.initial.out) × (l.out ≡ laid (flat_map hex_pair (take l.i l.s)) l.initial.out)
