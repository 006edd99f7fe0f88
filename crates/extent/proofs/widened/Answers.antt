-- `widened` meets its contract, end by end.
use mathlib.Core.Path.{◌∙◌}
use mir.Syntax.{w8}
use mir.Val.{SFits}
use mir.Facts.{to_z-of_z}
use borrow.Author.Rules.{rules}
use Rattle.extent.proofs.Ends.{ends_more}
use Rattle.extent.proofs.widened.Goals as goal

pub returns : goal.returns
returns c = λ l h was.
    let b = c in
    let a = b.args in
    let low : SFits w8 a.e.least_z = search rules in
    let high : SFits w8 a.e.greatest_z = search rules in
    let z : SFits w8 a.z = b.ranges.z in
    ends_more l a.e _ a.x a.y a.z h was
    c.min.ensures
    c.max.ensures
    c.min-2.ensures
    c.max-2.ensures
    (to_z-of_z {w = w8} (record { sfits = c.lesser.type_inv }) ∙ rw (to_z-of_z low, to_z-of_z z) at c.lesser.ensures)
    (to_z-of_z {w = w8} (record { sfits = c.greater.type_inv }) ∙ rw (to_z-of_z high, to_z-of_z z) at c.greater.ensures)
