-- `none` meets its contract: a grid with steps of 0 breaks the rules.
use native.Mathlib.Omega.{arith}
use Rattle.grid_rows.proofs.Fillings.{read_none}
use Rattle.grid_rows.proofs.none.Goals as goal

pub returns : goal.returns
returns c = read_none _ (λ h. absurd (omega arith))
