-- `decimal` meets its contract: a number below 2^64 has at most 20 digits.
use native.Mathlib.Omega.{arith}
use Rattle.laws.proofs.DecimalLaws.{places_most, length_digits}
use Rattle.digits.proofs.decimal.Goals as goal

pub put-requires : goal.put-requires
put-requires c = omega (arith, places_most 19 c.args.n (omega arith))

pub returns-clause-upper_bound : goal.returns-clause-upper_bound
returns-clause-upper_bound c = omega (arith, places_most 19 c.args.n (omega arith), c.put.ensures.value)

pub returns-clause-value : goal.returns-clause-value
returns-clause-value c = rw length_digits c.put.ensures.value
