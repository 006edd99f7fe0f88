-- `first` meets its contract: the indices found are those within the limit, and the first keys there are those of the first points in order.
use mathlib.Core.Path.{◌∙◌}
use native.Mathlib.Omega.{arith}
use lib.ListN.{length, get_or}
use Rattle.squares.specs.Squares.{within}
use Rattle.squares.proofs.IndexLaws.{indices_below}
use Rattle.candidates.proofs.FirstLaws.{found, first_are}
use Rattle.candidates.proofs.first.Goals as goal

pub first_keys-keys-requires : goal.first_keys-keys-requires
first_keys-keys-requires c =
    let h = c.indices_within-found.ensures in
    let a = c.args in
    rw h.indices (indices_below (λ i. within a.limit (get_or a.squares.now i 0)) (length a.squares.now))

pub returns-clause-holds_first : goal.returns-clause-holds_first
returns-clause-holds_first c =
    let n = c.min-n.ensures in
    let h = c.indices_within-found.ensures in
    let a = c.args in
    λ s p m g e.
    let f = found s p a.xs.now a.ys.now a.zs.now m g a.squares.now c.requires.1 e a.limit in
    record {
      count = omega (arith, n, h.count, f);
      items =
          c.of_keys.ensures.0
          ∙ rw (c.first_keys-keys.ensures, h.indices)
          (first_are s p a.xs.now a.ys.now a.zs.now m g a.squares.now c.requires.1 e a.limit c.min-n.result (omega (arith, n)) (omega (arith, n, h.count)));
    }
