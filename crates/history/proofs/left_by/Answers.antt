-- `left_by` meets its contract. The invariant: the survey holds some contents, from which the calls that are left lead to what all of them leave.
use mathlib.Core.Path.{◌≡◌, refl, sym, ap, ◌∙◌}
use Prim.Native.Nat.{◌+◌, ◌*◌, ◌-◌, ◌/◌, min}
use native.Mathlib.Omega.{arith}
use lib.ListN.{length, take, drop, get_or}
use Rattle.model.specs.Extent.{settled}
use Rattle.model.specs.Calls.{fresh, after}
use Rattle.history.specs.Encoding.{call_of}
use Rattle.history.proofs.Turns.{starts, turn, ends}
use Rattle.history.proofs.left_by.Goals as goal

pub loop-i-init : goal.loop-i-init
loop-i-init c =
    let a = c.args in
    (omega arith, fresh, c.fresh-t.ensures.0, starts a.records.now a.files.now (length a.records.now / 25) refl)

pub loop-i-preserved : goal.loop-i-preserved
loop-i-preserved c =
    let d = c in
    let f = d in
    let w = f.numbers_at-w in
    let l = f in
    let m = l.loop-i in
    let a = l.args in
    let j = a.records.now in
    let fs = a.files.now in
    let op = get_or j (25 * m.i) 0 in
    let size : d.min.result ≡ min d.file_length.result (length fs - m.start) = d.min.ensures in
    let end = m.start + d.min.result in
    let here : end ≡ min (m.start + f.file_length.result) (length fs) = omega (arith, size) in
    let q = m.invariant.1 in (
      omega arith,
      after (call_of op w.result (take (end - m.start) (drop m.start fs))) q,
      c.run_call-t.ensures q m.invariant.2,
      turn j fs (length j / 25) m.i m.start op w.result end q (omega arith) (omega arith) refl w.ensures (rw f.file_length.ensures at here) ∙ m.invariant.3,
    )

pub returns : goal.returns
returns c =
    let l = c in
    let a = l.args in
    let m = l.loop-i in
    m.invariant.2
    ∙ ap settled (sym (ends a.records.now a.files.now (length a.records.now / 25) m.i m.start m.invariant.1 (omega arith)) ∙ m.invariant.3)
