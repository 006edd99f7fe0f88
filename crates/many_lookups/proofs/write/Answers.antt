-- `write` meets its contract: a refusal is found before anything is written.
use mathlib.Core.Path.{sym}
use native.Mathlib.Omega.{arith}
use Rattle.survey.specs.StateOf.{state_of}
use Rattle.many_lookups.proofs.Answering.{writes_none, writes_short, writes_all}
use Rattle.many_lookups.proofs.write.Goals as goal

pub returns-in_err-refusal : goal.returns-in_err-refusal
returns-in_err-refusal c =
    let a = c.args in
    writes_none (state_of a.s) a.locations.now a.out.now _ _ c.from_residual.ensures.1 (c.in_err-refusal.ensures (state_of a.s) (omega (arith, c.count.ensures)))

pub returns-then-out-locations : goal.returns-then-out-locations
returns-then-out-locations c =
    let a = c.args in
    writes_short (state_of a.s) a.locations.now a.out.now (c.in_ok-refusal.ensures (state_of a.s) (omega (arith, c.count.ensures))) (omega arith)

pub fill-requires : goal.fill-requires
fill-requires c = (sym (c.in_ok-refusal.ensures (state_of c.args.s) (omega (arith, c.count.ensures))), omega arith)

pub returns : goal.returns
returns c =
    let a = c.args in
    writes_all (state_of a.s) a.locations.now a.out.now (c.in_ok-refusal.ensures (state_of a.s) (omega (arith, c.count.ensures))) (omega arith) _ c.fill.ensures.out_after c.fill.ensures.all_right
