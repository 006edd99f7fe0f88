-- `nearest_points` meets its contract: the squared distances of all points are what `among` is lent.
use lib.ListN.{drop}
use Rattle.neighbours.proofs.Gathering.{room_taken, filled_front}
use Rattle.neighbours.proofs.nearest_points.Goals as goal

pub returns : goal.returns
returns c = λ s p points sees er.
    let l = c.fill.new.out in
    let m = c.clamped-m in
    let a = c.args in
    let room = c.blank-room in
    let held = c.fill.ensures s p a.zs.now a.n points sees (room_taken a.n m.result m.ensures room.result room.ensures) in
    let e = filled_front a.n m.result m.ensures s p a.xs.now a.ys.now a.zs.now l (drop m.result room.result) points held in
    c.among.ensures s p a.n points (rw e held) er
