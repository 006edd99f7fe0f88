-- The invariant: the first i elements are the terms of the first i.
use mathlib.Core.Path.{◌≡◌}
use lib.ListN.{length}
use Rattle.weights.specs.Seen.{seen}
use Rattle.weights.specs.Lists.{HasTerms}
use Rattle.weights.proofs.directional.terms.Given as goal

abbrev pub invariant-loop-i : goal.invariant-loop-i
invariant-loop-i l = (length l.t ≡ 10) × HasTerms (seen l.c) l.t l.i
