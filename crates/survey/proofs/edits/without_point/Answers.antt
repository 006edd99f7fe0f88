-- `without_point` meets its contract: what is taken out of each array is taken out of the points.
use Prim.Native.Nat.{ℕ, ◌-◌}
use native.Mathlib.Omega.{arith}
use mathlib.Core.Path.{ap}
use borrow.Author.Rules.{rules}
use Rattle.point_arrays.proofs.EditLaws.{Sized}
use Rattle.survey.proofs.Becoming.{points_held, becomes_cut}
use Rattle.survey.proofs.edits.without_point.Goals as goal

pub overflow_sub-t : goal.overflow_sub-t
overflow_sub-t c =
    let n = c in
    omega (arith, points_held n.args.s, n.requires, n.clamped-n.ensures)

pub returns : goal.returns
returns c =
    let n = c in
    let a = n.args in
    let e : Sized a.s.x a.s.y a.s.z = search rules in
    becomes_cut a.s _ e a.i n.requires c.cut-a.ensures c.cut-b.ensures c.cut-c.ensures
    (ap (λ (m : ℕ). m - 1) n.clamped-n.ensures)
