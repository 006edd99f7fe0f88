-- `edit` meets its contract: a refused file decides, then the step, then what comes of writing.
use Rattle.refusal.specs.Numbered.{number_of}
use Rattle.refusal.proofs.Coded.{never_0}
use Rattle.file_edits.proofs.Editing.{edits_none, edits_file}
use Rattle.file_edits.proofs.edit.Goals as goal

pub returns-in-Err : goal.returns-in-Err
returns-in-Err g c d h =
    let a = c.args in
    let e = c.in-Err.e in
    rw c.number.ensures (edits_none a.file.now a.out.now a.length.now d (number_of e) c.in-Err.ensures.number (never_0 e))

pub returns : goal.returns
returns g c d h =
    let a = c.args in
    edits_file a.file.now a.out.now a.length.now d _ c.in-Ok.ensures _ _ (h _ _ _ c.step-called.ensures) _ _ _ c.save.ensures
