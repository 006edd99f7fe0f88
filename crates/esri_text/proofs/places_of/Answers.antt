-- `places_of` meets its contract: a number of 16 bits has at most five digits.
use native.Mathlib.Omega.{arith}
use Rattle.laws.proofs.DecimalLaws.{places_most}
use Rattle.esri_text.proofs.places_of.Goals as goal

pub returns : goal.returns
returns c = let e = rw c.from.ensures at c.places.ensures.value in (e, omega (arith, e, places_most 4 c.args.n (omega arith)))
