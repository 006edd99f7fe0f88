-- `count` meets its contract: a count above 256 is read as 256.
use mathlib.Core.Path.{sym, ◌∙◌}
use native.Mathlib.Omega.{arith}
use Rattle.survey.proofs.Becoming.{points_held}
use Rattle.survey.proofs.count.Goals as goal

pub returns : goal.returns
returns c = (c.clamped.ensures ∙ sym (points_held c.args.s), omega (arith, c.clamped.ensures))
