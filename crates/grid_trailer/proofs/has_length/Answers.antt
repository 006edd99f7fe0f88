-- `has_length` meets its contract: it tries the numbers of columns one after the other.
use mathlib.Core.Path.{refl, ◌∙◌}
use Prim.Native.Nat.{ℕ}
use Rattle.std.proofs.Common.{rules, tests}
use Rattle.std.proofs.lemmas.Iterator.{YieldsList-from_range}
use Rattle.std.proofs.lemmas.Iterator.Search.{any_from_yields_List}
use Rattle.model.specs.GridReading.{columns_length, some_length}
use Rattle.grid_trailer.proofs.Numbered.{some_numbered}
use Rattle.grid_trailer.proofs.has_length.Goals as goal

pub returns : goal.returns
unfolding some_length
returns c =
    any_from_yields_List (λ (k : ℕ). columns_length c.args.n k) _ _ _ c.any.ensures.ran (YieldsList-from_range 1 65 64 refl refl) (λ x b q k. search (rules, tests))
    ∙ some_numbered (λ (k : ℕ). columns_length c.args.n k) 64
