-- `run` meets its contract: an input that is refused decides, and then the call that writes, which has room enough.
use mathlib.Core.Path.{sym}
use native.Mathlib.Omega.{arith}
use lib.ListN.{length}
use Rattle.model.specs.Esri.{esri_text, esri_check, esri_refusal, esri_into}
use Rattle.model.specs.Program.{esri_program, esri_program_refusal}
use Rattle.laws.proofs.EsriChecks.{esri_room}
use Rattle.refusal.specs.Numbered.{number_of, numbered}
use Rattle.refusal.proofs.Coded.{never_0}
use Rattle.survey.specs.StateOf.{state_of}
use Rattle.grid_rules.specs.GridOf.{grid_of}
use Rattle.esri.specs.EsriWritten.{esri_written_as}
use Rattle.grid_io.proofs.Running.{input_refused, input_accepted}
use Rattle.esri_program.proofs.run.Goals as goal

pub returns-in-Err : goal.returns-in-Err
unfolding esri_program esri_program_refusal
returns-in-Err c =
    let e = c.in-Err.e in
    input_refused c.args.input.now (λ s g. esri_check g s 0) esri_text c.refusal.result (number_of e) c.in-Err.ensures.number (never_0 e) (rw c.number.ensures at c.refusal.ensures)

pub returns : goal.returns
unfolding esri_program esri_program_refusal esri_written_as esri_into
returns c =
    let d = c.blank-bytes in
    let g = c.grid_of-g in
    let f = c.args.input.now in
    let state = state_of c.in-Ok.s in
    let grid = grid_of g.result in
    let wrote = c.write-written.ensures in
    let room = esri_room grid state (length d.result) (λ h. omega (arith, d.ensures, wrote.text_fits h)) in
    input_accepted f (λ s g. esri_check g s 0) esri_text c.put_out.result (sym c.in-Ok.ensures.number) state c.in-Ok.ensures.state grid g.ensures
    (rw room at (c.put_out.ensures (esri_refusal grid state (length d.result)) (esri_text state grid) d.result wrote.value wrote.out_after)) (numbered c.write-written.result) (rw room at wrote.value) wrote.written_right
