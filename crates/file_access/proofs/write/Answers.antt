-- `write` meets its contract: what is written, and its length told.
use mathlib.Core.Path.{refl}
use Rattle.refusal.specs.Numbered.{numbered}
use Rattle.survey.specs.StateOf.{contents_in}
use Rattle.file_access.proofs.FileLaws.{saves_file}
use Rattle.file_access.proofs.write.Goals as goal

pub returns : goal.returns
returns c =
    let w = c in
    let a = w.args in
    saves_file 0 (contents_in a.s).points a.out.now a.length.now refl (numbered w.write-written.result) _ _ _ w.write-written.ensures.value w.write-written.ensures.out_after c.tell_length.ensures
