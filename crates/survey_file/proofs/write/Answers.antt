-- `write` meets its contract: the records are written to the front, the trailer after them, and both together are the file.
use mathlib.Core.Path.{sym, ◌∙◌, ap}
use mathlib.Core.List.{◌∷◌, ◌++◌, map}
use Prim.Native.Nat.{◌+◌, ◌-◌, ◌*◌, ◌≤◌}
use native.Mathlib.Omega.{arith}
use lib.ListN.{length, drop, length-append, length-drop}
use lib.Seq.{take_at}
use Rattle.model.specs.SurveyFile.{records, magic}
use Rattle.point_arrays.specs.PointArrays.{points_in, held, wrapped}
use Rattle.std.specs.Prelude.{Ok}
use Rattle.survey_file.proofs.Encoded.{length_records_held, file_in, length_file_in}
use Rattle.laws.proofs.Stores.{laid_after}
use Rattle.survey_file.proofs.Fitting.{too_long, fitting}
use Rattle.survey_file.proofs.write.Goals as goal

pub returns-then-out-end : goal.returns-then-out-end
returns-then-out-end c =
    let a = c.args in
    let f = length_file_in a.x.now a.y.now a.z.now c.clamped-n.result a.count c.clamped-n.ensures in
    let w = too_long (points_in a.x.now a.y.now a.z.now a.count) a.out.now (omega arith) in
    record {
      value = sym w.0;
      out_after = sym w.1;
    }

pub returns : goal.returns
returns c =
    let k = c.clamped-n in
    let a = c.args in
    let d = a.out.now in
    let end = 5 * k.result in
    let r = records (map wrapped (held a.x.now a.y.now a.z.now k.result)) in
    let sized = length_records_held a.x.now a.y.now a.z.now k.result in
    let long = length_file_in a.x.now a.y.now a.z.now k.result a.count k.ensures in
    let file = file_in a.x.now a.y.now a.z.now k.result a.count k.ensures in
    let o = fitting (points_in a.x.now a.y.now a.z.now a.count) d (omega arith) in
    let body = c.write.ensures in
    let sum = rw (body, take_at r (drop end d) end sized) at c.total-sum.ensures in
    let last = rw c.of_records-t.ensures at c.copy.ensures.laid in
    let lent : length d ≤ end + (length (r ++ drop end d) - end) = omega (arith, length-append r (drop end d), length-drop end d) in
    record {
      value = ap (λ n. Ok n) (sym long) ∙ sym o.0;
      out_after = rw (o.1, file, last, sum, body) (laid_after end (length (r ++ drop end d) - end) r (_ ∷ _ ∷ _ ∷ _ ∷ _ ∷ _ ∷ _ ∷ _ ∷ magic) d sized lent);
    }
