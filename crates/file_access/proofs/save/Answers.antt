-- `save` meets its contract: a refused call writes nothing.
use Rattle.refusal.proofs.Coded.{never_0}
use Rattle.refusal.specs.Numbered.{number_of}
use Rattle.survey.specs.StateOf.{contents_in}
use Rattle.file_access.proofs.FileLaws.{saves_none}
use Rattle.file_access.proofs.save.Goals as goal

pub returns-in-Ok : goal.returns-in-Ok
returns-in-Ok c = rw c.in-Ok.is c.write.ensures

pub returns-in-Err : goal.returns-in-Err
returns-in-Err c =
    let a = c.args in
    rw (c.in-Err.is, c.number.ensures) (saves_none (number_of c.in-Err.e) (contents_in a.s).points a.out.now a.length.now (never_0 c.in-Err.e))
