-- `cells` meets its contract, by the cases of what reading answers.
use mathlib.Core.Path.{ap}
use Rattle.refusal.specs.Numbered.{number_of, numbered}
use Rattle.grid_files.proofs.Told.{cells_told, refused_told}
use Rattle.grid_files.proofs.cells.Goals as goal

pub returns-in-Ok : goal.returns-in-Ok
returns-in-Ok c =
    let a = c.args in
    cells_told a.file.now a.out.now a.count.now (numbered c.cells.result) c.cells.ensures.value _ c.cells.ensures.out_after _ (ap numbered c.in-Ok.is)

pub returns-in-Err : goal.returns-in-Err
returns-in-Err c =
    let a = c.args in
    rw c.number.ensures
    (refused_told a.file.now a.out.now a.count.now (numbered c.cells.result) c.cells.ensures.value _ c.cells.ensures.out_after (number_of c.in-Err.e) (ap numbered c.in-Err.is))
