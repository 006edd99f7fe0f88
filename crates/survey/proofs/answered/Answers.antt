-- `answered` meets its contract, which is that of the arithmetic over arrays, with the R0 that is kept.
use native.Mathlib.Omega.{arith}
use Rattle.survey.specs.StateOf.{state_of}
use Rattle.laws.proofs.CallLaws.{lookup_accepted}
use Rattle.laws.proofs.RecordLaws.{domain_bounds}
use Rattle.survey.proofs.Looking.{handed}
use Rattle.survey.proofs.answered.Goals as goal

pub overflow_cast-v : goal.overflow_cast-v
overflow_cast-v c = let a = c.args in omega (arith, (domain_bounds a.x a.y (lookup_accepted a.x a.y (state_of a.s) c.requires).0).0)

pub overflow_cast-v-2 : goal.overflow_cast-v-2
overflow_cast-v-2 c = let a = c.args in omega (arith, (domain_bounds a.x a.y (lookup_accepted a.x a.y (state_of a.s) c.requires).0).1)

pub answer_at-requires : goal.answer_at-requires
answer_at-requires c =
    let r = c in
    let b = r in
    let a = b.args in
    (state_of a.s, _, handed a.s a.x a.y _ b.requires r.clamped-r0.ensures)

pub returns : goal.returns
returns c =
    let r = c in
    let b = r in
    let a = b.args in
    c.answer_at.ensures (state_of a.s) _ (handed a.s a.x a.y _ b.requires r.clamped-r0.ensures)
