-- `limit_for` meets its contract: all are within the greatest limit, and a limit that is sought has as many within it as were asked for.
use native.Mathlib.Omega.{arith}
use Rattle.squares.proofs.Counting.{all_within}
use Rattle.squares.proofs.limit_for.Goals as goal

pub returns-then-squares-le11 : goal.returns-then-squares-le11
returns-then-squares-le11 c = omega (arith, all_within c.args.squares.now c.requires.1)

pub of_five-requires : goal.of_five-requires
of_five-requires c = (omega arith, omega (arith, all_within c.args.squares.now c.requires.1))
