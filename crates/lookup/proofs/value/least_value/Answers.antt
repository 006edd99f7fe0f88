use mathlib.Core.Path.{◌≡◌, ◌∙◌}
use native.Mathlib.Omega.{arith}
use Prim.Native.Nat.{◌+◌, ◌-◌}
use lib.ListN.{length, take, drop, get_or, length-take}
use Rattle.std.proofs.lemmas.List.{length-drop}
use mir.Syntax.{w8}
use mir.Val.{SFits}
use mir.Facts.{to_z-of_z}
use borrow.Author.Rules.{rules}
use Rattle.model.specs.Extent.{values_by}
use Rattle.weights.specs.Seen.{points_held, no_neighbour}
use Rattle.laws.proofs.MapLaws.{length_under}
use Rattle.lookup.proofs.Values.{least_first, least_further}
use Rattle.lookup.proofs.value.least_value.Goals as goal

pub returns-then-c-eq0 : goal.returns-then-c-eq0
unfolding points_held values_by
returns-then-c-eq0 c = rw c.if-c-eq0.true

pub loop-a-init : goal.loop-a-init
loop-a-init c =
    let l = c.args.c.items in
    let len : length l ≡ 10 = search (length_under, rules) in
    let f : SFits w8 (get_or l 0 no_neighbour).z = search rules in
    to_z-of_z f ∙ least_first l (omega arith)

pub loop-a-preserved : goal.loop-a-preserved
loop-a-preserved c =
    let a = c.args.c in
    let i = c.loop-a.a-index in
    let f : SFits w8 (get_or (take (a.count - 1) (drop 1 a.items)) i no_neighbour).z = search rules in
    let e = rw (to_z-of_z f) at c.min-least.ensures.value in
    to_z-of_z {w = w8} (record { sfits = c.min-least.type_inv }) ∙ e ∙ least_further a.items a.count i c.loop-a-test.true _ c.loop-a.invariant

pub returns : goal.returns
unfolding points_held
returns c =
    let a = c.args.c in
    let len : length a.items ≡ 10 = search (length_under, rules) in
    let e : c.loop-a.a-index + 1 ≡ a.count = omega (arith, length-take (a.count - 1) (drop 1 a.items), length-drop 1 a.items) in
    rw (← e) c.loop-a.invariant
