-- `encode` meets its contract: the file of the grid's cells is the grid's.
use Rattle.model.specs.GridFile.{grid_file}
use Rattle.grid.proofs.encode.Goals as goal

pub returns : goal.returns
unfolding grid_file
returns c =
    record {
      out_after = rw (c.write.ensures, c.cell_count-n.ensures.0, c.cells-values.ensures.result_value.0);
      cells_right = c.cells-values.ensures.cells_right;
    }
