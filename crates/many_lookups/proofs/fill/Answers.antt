-- `fill` meets its contract: every lookup is accepted, and finds the next answer.
-- The invariant: the lookups that are left are accepted, and the answers at the first i locations stand at the front of what was lent.
use mathlib.Core.Path.{◌≡◌, refl, ap, ◌∙◌}
use Prim.Native.Nat.{◌*◌, ◌-◌, ◌<◌}
use native.Mathlib.Omega.{arith}
use mathlib.Core.List.{flat_map}
use lib.ListN.{length, take}
use lib.Seq.{take_all}
use mir.Syntax.{w16}
use mir.Val.{SFits}
use mir.Facts.{to_z-of_z}
use borrow.Author.Rules.{rules}
use Rattle.model.specs.Mean.{Right}
use Rattle.model.specs.Answer.{answer}
use Rattle.laws.proofs.Stores.{laid_more}
use Rattle.refusal.specs.Numbered.{numbered}
use Rattle.survey.specs.StateOf.{state_of}
use Rattle.survey.proofs.Looking.{not_refused}
use Rattle.many_lookups.specs.Locations.{locations_in}
use Rattle.many_lookups.specs.AnswersInto.{answer_bytes, answers_bytes}
use Rattle.many_lookups.proofs.Turns.{nowhere, length_locations, all_more}
use Rattle.many_lookups.proofs.Looked.{turn, answer_length, found_fields}
use Rattle.many_lookups.proofs.fill.Goals as goal

pub loop-i-init : goal.loop-i-init
unfolding flat_map
loop-i-init c = (refl, c.requires.0, refl, tt)

pub returns-in_default : goal.returns-in_default
returns-in_default c =
    let a = c.args in
    let s = state_of a.s in
    let t = turn s a.locations.now c.loop-i.i (omega arith) c.loop-i.invariant.1 c.coordinate-x.result c.coordinate-y.result c.coordinate-x.ensures c.coordinate-y.ensures
    (numbered c.lookup.result) (c.lookup.ensures.value, c.lookup.ensures.rounded) in
    absurd (not_refused t.here (ap numbered c.in_default.is))

pub loop-i-preserved : goal.loop-i-preserved
loop-i-preserved c =
    let a = c.args in
    let s = state_of a.s in
    let t = turn s a.locations.now c.loop-i.i (omega arith) c.loop-i.invariant.1 c.coordinate-x.result c.coordinate-y.result c.coordinate-x.ensures c.coordinate-y.ensures
    (numbered c.lookup.result) (c.lookup.ensures.value, c.lookup.ensures.rounded) in
    let m = c.loop-i in
    let i = m.i in
    let b = locations_in a.locations.now in
    let n : i < length b = omega (arith, length_locations a.locations.now) in
    let z : SFits w16 c.in-Ok.found.answer = search rules in
    let e = c.fields-b.ensures ∙ found_fields t (ap numbered c.in-Ok.is) in
    let o = rw e at c.copy.ensures.laid in
    let k = laid_more (answer_bytes s) 8 (answer_length s) b nowhere i (length m.out - 8 * i) a.out.now m.out n (omega arith) m.invariant.2 in
    (omega arith, t.next, rw o k, all_more (λ p. Right s p (answer s p)) b i n m.invariant.3 t.right)

pub returns : goal.returns
unfolding answers_bytes
returns c =
    let l = c.loop-i in
    let a = c.args in
    let e : take l.i (locations_in a.locations.now) ≡ locations_in a.locations.now = take_all l.i (locations_in a.locations.now) (omega (arith, length_locations a.locations.now)) in
    record {
      out_after = rw (e) at l.invariant.2;
      all_right = rw (e) at l.invariant.3;
    }
