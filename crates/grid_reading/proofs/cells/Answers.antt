-- `cells` meets its contract: refused it changes nothing, and of an accepted file it decodes all that stands before the trailer.
use mathlib.Core.Path.{◌≡◌, sym, ap, ◌∙◌}
use Prim.Native.Nat.{ℕ, ◌-◌, ◌*◌}
use native.Mathlib.Omega.{arith}
use lib.ListN.{length, take}
use lib.Seq.{length-take-le}
use Rattle.model.specs.Grid.{Grid, cell_count}
use Rattle.model.specs.GridReading.{grid_of_file, cells_of, cells_of_file}
use Rattle.laws.proofs.GridReadLaws.{length_ends, readable_facts}
use Rattle.refusal.specs.Numbered.{number_of}
use Rattle.refusal.proofs.Coded.{never_0}
use Rattle.refusal.proofs.Told.{passed_number}
use Rattle.grid_reading.proofs.Answers.{file_refused, room_refused, filled}
use Rattle.grid_reading.proofs.cells.Goals as goal

pub returns-in_err-open : goal.returns-in_err-open
returns-in_err-open c =
    let a = c.args in
    let e = c.in_err-open.field-0.0 in
    let o = file_refused a.file.now a.out.now (number_of e) c.in_err-open.ensures.refusal (never_0 e) in
    rw (passed_number _ e c.from_residual.ensures.1) (record { value = o.0; out_after = o.1 })

pub returns-then-out-n : goal.returns-then-out-n
returns-then-out-n c =
    let a = c.args in
    let r = (readable_facts a.file.now 0 (sym c.in_ok-open.ensures.refusal)).0 in
    let n = c.cell_count-n.ensures.0 ∙ ap (λ (g : Grid). cell_count g) c.in_ok-open.ensures.grid in
    let o = room_refused a.file.now a.out.now r (omega (arith, c.if-out-n.true, n)) in
    record { value = o.0; out_after = o.1 }

pub slice_bounds-decode-end : goal.slice_bounds-decode-end
slice_bounds-decode-end c =
    let r = (readable_facts c.args.file.now 0 (sym c.in_ok-open.ensures.refusal)).0 in
    let n = c.cell_count-n.ensures.0 ∙ ap (λ (g : Grid). cell_count g) c.in_ok-open.ensures.grid in
    sym (length-take-le (2 * c.cell_count-n.result) c.args.file.now (omega (arith, n, r.size)))

pub decode-requires : goal.decode-requires
decode-requires c =
    let r = (readable_facts c.args.file.now 0 (sym c.in_ok-open.ensures.refusal)).0 in
    let n = c.cell_count-n.ensures.0 ∙ ap (λ (g : Grid). cell_count g) c.in_ok-open.ensures.grid in
    let e = length-take-le (2 * c.cell_count-n.result) c.args.file.now (omega (arith, n, r.size)) in
    let o = length-take-le c.cell_count-n.result c.args.out.now c.if-out-n.false in
    (omega (arith, e, o), omega (arith, o, n, r.size, length_ends _ r.some))

pub returns : goal.returns
unfolding cells_of_file
returns c =
    let a = c.args in
    let f = a.file.now in
    let r = (readable_facts f 0 (sym c.in_ok-open.ensures.refusal)).0 in
    let n = c.cell_count-n.ensures.0 ∙ ap (λ (g : Grid). cell_count g) c.in_ok-open.ensures.grid in
    let o = filled f a.out.now r (omega (arith, c.if-out-n.false, n)) in
    let end : 2 * cell_count (grid_of_file f) ≡ length f - 20 = omega (arith, r.size) in
    record {
      value = rw n o.0;
      out_after = rw (c.decode.ensures, n, end) o.1;
    }
