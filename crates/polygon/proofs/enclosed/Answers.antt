-- `enclosed` meets its contract: the shoelace sums of the two sides.
use mathlib.Core.Path.{◌∙◌}
use Rattle.polygon.proofs.StackedLaws.{enclosed_sums, clamped_same}
use Rattle.polygon.proofs.enclosed.Goals as goal

pub returns : goal.returns
returns c =
    let b = c in
    let low = b.side-low in
    let high = c.side-high in
    c.saturating_sub.ensures
    ∙ enclosed_sums _ low.result.xs low.result.ys high.result.xs high.result.ys low.result.depth high.result.depth _ _ _ _ low.ensures.depth_value high.ensures.depth_value
    c.lace.ensures.0 c.lace-2.ensures.0 c.lace-3.ensures.0 c.lace-4.ensures.0
    ∙ clamped_same _ _ _ _ b.clamped-m.ensures
