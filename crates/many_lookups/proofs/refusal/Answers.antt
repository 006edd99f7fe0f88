-- `refusal` meets its contract. The invariant: the first refusal of the lookups that are left is that of all.
use mathlib.Core.Path.{sym, ◌∙◌}
use native.Mathlib.Omega.{arith}
use borrow.Author.Tests.{ne_eqb}
use Rattle.refusal.specs.Numbered.{number_of}
use Rattle.refusal.proofs.Coded.{never_0, passed_on}
use Rattle.many_lookups.proofs.Turns.{counted_from, none_left}
use Rattle.many_lookups.proofs.refusal.Goals as goal

pub returns-in_err-of_lookup : goal.returns-in_err-of_lookup
returns-in_err-of_lookup c s e =
    let no = c.in_err-of_lookup.field-0.0 in
    let from = counted_from c.args.locations.now c.loop-i.i (omega arith) s c.coordinate-x.result c.coordinate-y.result c.coordinate-x.ensures c.coordinate-y.ensures
    (number_of no) (c.in_err-of_lookup.ensures s e) in
    passed_on _ no c.from_residual.ensures.1 ∙ sym (rw (ne_eqb (number_of no) 0 (never_0 no)) at from) ∙ c.loop-i.invariant s e

pub loop-i-preserved : goal.loop-i-preserved
loop-i-preserved c s e =
    let from = counted_from c.args.locations.now c.loop-i.i (omega arith) s c.coordinate-x.result c.coordinate-y.result c.coordinate-x.ensures c.coordinate-y.ensures
    0 (c.in_ok-of_lookup.ensures s e) in
    sym from ∙ c.loop-i.invariant s e

pub returns : goal.returns
returns c s e = sym (none_left c.args.locations.now c.loop-i.i s (omega arith)) ∙ c.loop-i.invariant s e
