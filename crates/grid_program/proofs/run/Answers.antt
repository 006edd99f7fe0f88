-- `run` meets its contract: an input that is refused decides, and then the call that writes, which has room enough.
use mathlib.Core.Path.{sym}
use native.Mathlib.Omega.{arith}
use lib.ListN.{length}
use Rattle.model.specs.Grid.{grid_check}
use Rattle.model.specs.GridFile.{grid_file, grid_file_refusal, grid_file_into}
use Rattle.model.specs.Program.{grid_program, grid_program_refusal}
use Rattle.laws.proofs.GridLaws.{room_enough}
use Rattle.refusal.specs.Numbered.{number_of, numbered}
use Rattle.refusal.proofs.Coded.{never_0}
use Rattle.survey.specs.StateOf.{state_of}
use Rattle.grid_rules.specs.GridOf.{grid_of}
use Rattle.grid.specs.FilledAs.{grid_written_as}
use Rattle.grid_io.proofs.Running.{input_refused, input_accepted}
use Rattle.grid_program.proofs.run.Goals as goal

pub returns-in-Err : goal.returns-in-Err
unfolding grid_program grid_program_refusal
returns-in-Err c =
    let e = c.in-Err.e in
    input_refused c.args.input.now (λ s g. grid_check g s 0) grid_file c.refusal.result (number_of e) c.in-Err.ensures.number (never_0 e) (rw c.number.ensures at c.refusal.ensures)

pub returns : goal.returns
unfolding grid_program grid_program_refusal grid_written_as grid_file_into
returns c =
    let d = c.blank-bytes in
    let g = c.grid_of-g in
    let f = c.args.input.now in
    let state = state_of c.in-Ok.s in
    let grid = grid_of g.result in
    let wrote = c.write-written.ensures in
    let room = room_enough grid state (length d.result) (omega (arith, d.ensures)) in
    input_accepted f (λ s g. grid_check g s 0) grid_file c.put_out.result (sym c.in-Ok.ensures.number) state c.in-Ok.ensures.state grid g.ensures
    (rw room at (c.put_out.ensures (grid_file_refusal grid state (length d.result)) (grid_file state grid) d.result wrote.value wrote.out_after)) (numbered c.write-written.result) (rw room at wrote.value) wrote.written_right
