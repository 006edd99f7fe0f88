-- `esri` meets its contract: a refused file decides, then the grid.
use lib.ListN.{length}
use Rattle.model.specs.Esri.{esri_text, esri_refusal, esri_into}
use Rattle.refusal.specs.Numbered.{number_of, numbered}
use Rattle.refusal.proofs.Coded.{never_0}
use Rattle.grid_rules.specs.GridOf.{grid_of, grid_from}
use Rattle.esri.specs.EsriWritten.{esri_written_as}
use Rattle.file_grids.proofs.Gridding.{none_written, cells_written}
use Rattle.file_grids.proofs.esri.Goals as goal

pub returns-in-Err : goal.returns-in-Err
returns-in-Err c =
    let a = c.args in
    let e = c.in-Err.e in
    rw c.number.ensures
    (none_written a.file.now (grid_from a.x0 a.y0 a.step_x a.step_y a.columns a.rows) a.out.now a.length.now (number_of e) c.in-Err.ensures.number (never_0 e) _ _)

pub returns : goal.returns
unfolding esri_written_as esri_into
returns c =
    let a = c.args in
    let e = c.write-text.ensures in
    cells_written a.file.now (grid_from a.x0 a.y0 a.step_x a.step_y a.columns a.rows) a.out.now a.length.now _ c.in-Ok.ensures
    (λ s m. esri_refusal m s (length a.out.now)) esri_text (grid_of c.grid_from-g.result) c.grid_from-g.ensures
    (numbered c.write-text.result) _ _ _ e.value e.out_after e.written_right c.tell_length.ensures
