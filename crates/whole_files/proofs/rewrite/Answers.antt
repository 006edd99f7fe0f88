-- `rewrite` meets its contract: a refused file decides, and an accepted one is written anew.
use Rattle.refusal.specs.Numbered.{number_of}
use Rattle.refusal.proofs.Coded.{never_0}
use Rattle.whole_files.proofs.AsRead.{rewrites_none, rewrites}
use Rattle.whole_files.proofs.rewrite.Goals as goal

pub returns-in-Ok : goal.returns-in-Ok
returns-in-Ok c =
    let a = c.args in
    rewrites a.file.now _ c.in-Ok.ensures a.out.now a.length.now _ _ _ c.write.ensures

pub returns-in-Err : goal.returns-in-Err
returns-in-Err c =
    let a = c.args in
    let e = c.in-Err.e in
    rw c.number.ensures (rewrites_none a.file.now (number_of e) c.in-Err.ensures.number (never_0 e) a.out.now a.length.now)
