use mathlib.Core.Path.{refl, sym, ◌∙◌}
use mir.Syntax.{w8}
use mir.Facts.{to_z-of_z}
use native.Mathlib.Omega.{arith}
use borrow.Author.Rules.{rules}
use Rattle.refusal.proofs.Coded.{never_0, passed_on}
use Rattle.read_points.proofs.Passed.{at_start, at_end, stops, goes_on}
use Rattle.read_points.proofs.read.Goals as goal

pub loop-i-init : goal.loop-i-init
loop-i-init c = at_start _ _ _ (search rules)

pub returns-in_err-record_fault : goal.returns-in_err-record_fault
returns-in_err-record_fault c =
    let e = c.in_err-record_fault.field-0.0 in
    let n = stops _ _ _ _ _ c.loop-i.invariant (omega arith) _ _ c.word_at-x.ensures.value c.word_at-y.ensures.value _ c.in_err-record_fault.ensures (never_0 e) in
    record {
      refusal = passed_on _ e c.from_residual.ensures.1 ∙ sym n;
      points = search rules;
    }

pub loop-i-preserved : goal.loop-i-preserved
loop-i-preserved c =
    goes_on _ _ _ _ _ c.loop-i.invariant (omega arith) _ _ c.word_at-x.ensures.value c.word_at-y.ensures.value (sym c.in_ok-record_fault.ensures) (omega arith) (omega arith) _ (to_z-of_z {w = w8} (record { sfits = c.signed.type_inv }) ∙ c.signed.ensures) _ refl refl refl

pub returns : goal.returns
returns c =
    let e = at_end _ _ _ _ _ c.loop-i.invariant (omega arith) (omega arith) in
    record {
      refusal = e.0;
      points = e.1;
    }
