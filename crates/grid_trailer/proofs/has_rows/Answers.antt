-- `has_rows` meets its contract: it tries the numbers of rows one after the other.
use mathlib.Core.Path.{refl, ◌∙◌}
use Prim.Native.Nat.{ℕ, ◌+◌, ◌*◌}
use lib.Dec.{eqb}
use Rattle.std.proofs.Common.{rules, tests}
use Rattle.std.proofs.lemmas.Iterator.{YieldsList-from_range}
use Rattle.std.proofs.lemmas.Iterator.Search.{any_from_yields_List}
use Rattle.model.specs.GridReading.{columns_length}
use Rattle.grid_trailer.proofs.Numbered.{some_numbered}
use Rattle.grid_trailer.proofs.has_rows.Goals as goal

pub returns : goal.returns
unfolding columns_length
returns c =
    any_from_yields_List (λ (r : ℕ). eqb (2 * (c.args.c * r) + 20) c.args.n) _ _ _ c.any.ensures.ran (YieldsList-from_range 1 65 64 refl refl) (λ x b q k. search (rules, tests))
    ∙ some_numbered (λ (r : ℕ). eqb (2 * (c.args.c * r) + 20) c.args.n) 64
