use mathlib.Core.Path.{◌∙◌}
use native.Mathlib.Omega.{arith}
use Rattle.candidates.proofs.Exchange.{putting_more}
use Rattle.candidates.proofs.put.Goals as goal

pub loop-held-preserved : goal.loop-held-preserved
loop-held-preserved c =
    let l = c.loop-held in
    let m = putting_more l.held-items l.held-index l.c _ _ (omega arith) l.invariant.0 c.min.ensures c.max-c.ensures in
    (m.1, m.0 ∙ l.invariant.1)
