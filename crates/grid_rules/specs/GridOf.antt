-- The grid of the definitions that six numbers are.
use Rattle.std.specs.Prelude.{ℕ}
use Rattle.model.specs.Grid.{Grid as Model-as-Grid}
use Rattle.grid_rules.specs.declared.Grid.{Grid}

abbrev pub grid_of : Grid → Model-as-Grid
grid_of g = record { x0 = g.x0; y0 = g.y0; step_x = g.step_x; step_y = g.step_y; columns = g.columns; rows = g.rows }

-- six numbers that are handed over one by one
abbrev pub grid_from : ℕ → ℕ → ℕ → ℕ → ℕ → ℕ → Model-as-Grid
grid_from x0 y0 step_x step_y columns rows = record { x0 = x0; y0 = y0; step_x = step_x; step_y = step_y; columns = columns; rows = rows }
