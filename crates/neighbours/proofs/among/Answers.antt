-- `among` meets its contract by what the functions that it calls ensure.
use mathlib.Core.Path.{sym, subst}
use Prim.Native.Nat.{◌<◌}
use Rattle.model.specs.Lists.{All}
use Rattle.model.specs.Point.{Point}
use Rattle.point_arrays.proofs.ReadLaws.{points_below}
use Rattle.neighbours.proofs.Gathering.{gathered}
use Rattle.neighbours.proofs.among.Goals as goal

pub returns : goal.returns
returns c = λ s p n points held er.
    let a = c.args in
    let k = c.count_within-within.ensures in
    gathered s p a.squares.now held (subst (All (λ (e : Point). (e.x < 4096) × (e.y < 4096))) (sym points) (points_below a.xs.now a.ys.now a.zs.now n)) _ a.r0 _ _ _ k.1 k.0 er c.reach_of-reach.ensures
    c.limit_for-limit.ensures (c.first.ensures.holds_first s p n points held) c.first.ensures.in_range
