-- The invariant: the row of i has come to j.
use Rattle.weights.specs.Seen.{item_at, cosine_gap}
use Rattle.weights.proofs.RowLaws.{Row}
use Rattle.weights.proofs.directional.add_row.Given as goal

abbrev pub invariant-loop-j : goal.invariant-loop-j
invariant-loop-j l = Row (λ k. cosine_gap l.a (item_at l.c k)) l.own l.s l.initial.t l.t l.sum l.j
