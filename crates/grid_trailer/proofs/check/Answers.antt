-- `check` meets its contract: each answer cites the law of the first check that fails, with the facts of those before it.
use mathlib.Core.Path.{sym, ap, ◌∙◌}
use mathlib.Core.Logic.{inl, inr}
use native.Mathlib.Omega.{arith}
use Prim.Native.Nat.{ℕ, ◌+◌, ◌*◌}
use Rattle.model.specs.GridFile.{grid_magic}
use Rattle.model.specs.GridReading.{grid_magic_in}
use Rattle.laws.proofs.TrailerLaws.{same_true}
use Rattle.laws.proofs.GridReadLaws.{length_ends, readable_check}
use Rattle.refusal.proofs.Coded.{never_0, passed_on}
use Rattle.grid_trailer.proofs.Checks.{seven, broken, kept, counted, check_seven, check_twelve}
use Rattle.grid_trailer.proofs.check.Goals.{then-long_at-cells-via-then-long_at-cells, then-long_at-cells-via-else-long_at-cells+then-len-cells}
use Rattle.grid_trailer.proofs.check.Goals as goal

pub overflow_sub-end : goal.overflow_sub-end
overflow_sub-end c = (length_ends _ (sym c.has_length.ensures ∙ c.if-not-has_length.false)).0

pub has_magic-requires : goal.has_magic-requires
has_magic-requires c = omega (arith, (length_ends _ (sym c.has_length.ensures ∙ c.if-not-has_length.false)).0)

pub returns-in_err-rules_refusal : goal.returns-in_err-rules_refusal
returns-in_err-rules_refusal c =
    let some = sym c.has_length.ensures ∙ c.if-not-has_length.false in
    let marked = sym c.has_magic.ensures ∙ c.if-not-has_magic.false in
    let e = c.in_err-rules_refusal.field-0.0 in
    let f = c.args.file.now in
    let n = c.in_err-rules_refusal.ensures in
    passed_on _ e c.from_residual.ensures.1 ∙ seven _ n (never_0 e) ∙ sym (check_seven f some marked (broken f _ c.grid_of-g.ensures _ n (never_0 e)))

pub returns-then-long_at-cells : goal.returns-then-long_at-cells
returns-then-long_at-cells c =
    let some = sym c.has_length.ensures ∙ c.if-not-has_length.false in
    let marked = sym c.has_magic.ensures ∙ c.if-not-has_magic.false in
    let rules = kept c.args.file.now _ c.grid_of-g.ensures (sym c.in_ok-rules_refusal.ensures) in
    let count = counted c.args.file.now _ c.grid_of-g.ensures _ c.cell_count-cells.ensures.0 in
    sym (check_twelve _ some marked rules (elim c.then-long_at-cells.branch [
      | then-long_at-cells-via-then-long_at-cells w ↦ inl (λ z. w.if-long_at-cells.true (c.long_at.ensures.value ∙ z ∙ ap (λ (n : ℕ). 2 * n) (sym count)))
      | then-long_at-cells-via-else-long_at-cells+then-len-cells w ↦ inr (λ z. w.if-len-cells.true (z ∙ ap (λ (n : ℕ). 2 * n + 20) (sym count)))
    ]))

pub returns : goal.returns
returns c =
    let some = sym c.has_length.ensures ∙ c.if-not-has_length.false in
    let marked = sym c.has_magic.ensures ∙ c.if-not-has_magic.false in
    let rules = kept c.args.file.now _ c.grid_of-g.ensures (sym c.in_ok-rules_refusal.ensures) in
    let count = counted c.args.file.now _ c.grid_of-g.ensures _ c.cell_count-cells.ensures.0 in
    let back = sym c.long_at.ensures.value ∙ c.if-long_at-cells.false ∙ ap (λ (n : ℕ). 2 * n) count in
    let size = c.if-len-cells.false ∙ ap (λ (n : ℕ). 2 * n + 20) count in
    sym (readable_check _ 0 (record { some = some; marked = same_true (grid_magic_in c.args.file.now) grid_magic marked; rules = rules; back = back; size = size }))
