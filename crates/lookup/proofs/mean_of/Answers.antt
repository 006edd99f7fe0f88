-- `mean_of` meets its contract by what the functions that it calls ensure.
use mir.Syntax.{w8}
use mir.Facts.{to_z-of_z}
use Rattle.weights.specs.Seen.{seen}
use Rattle.lookup.proofs.MeanLaws.{mean_is}
use Rattle.lookup.proofs.mean_of.Goals as goal

pub returns : goal.returns
unfolding seen
returns c =
    let w = c.weights-w in
    let a = c.args in
    mean_is (seen a.c) a.least w.result c.lessened-x.result c.scaled_mean.ensures
    w.ensures (λ i l. rw (to_z-of_z {w = w8} c.ranges.least) at (c.lessened-x.ensures i l))
