-- `check` meets its contract: a refused file decides, and an accepted one has so many points.
use Rattle.refusal.specs.Numbered.{number_of}
use Rattle.refusal.proofs.Coded.{never_0}
use Rattle.whole_files.proofs.AsRead.{counts_none, counts_points}
use Rattle.whole_files.proofs.check.Goals as goal

pub returns : goal.returns
returns c = counts_points c.args.file.now _ c.in-Ok.ensures c.args.count.now _ c.count.ensures.0

pub returns-in-Err : goal.returns-in-Err
returns-in-Err c =
    let e = c.in-Err.e in
    rw c.number.ensures (counts_none c.args.file.now (number_of e) c.in-Err.ensures.number (never_0 e) c.args.count.now)
