-- `search` meets its contract: the points before i pass, whatever their values, and the one that it stops at does not.
use mathlib.Core.Path.{◌≡◌}
use Prim.Native.Nat.{min}
use Rattle.locate.specs.Leading.{passes}
use Rattle.locate.proofs.SearchLaws.{Searched}
use Rattle.locate.proofs.search.Given as goal

abbrev pub invariant-loop-i : goal.invariant-loop-i
invariant-loop-i l = (l.m ≡ min l.n 256) × Searched (passes l.behind l.x l.y) l.xs l.ys l.n l.i
