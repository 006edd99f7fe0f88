-- `open` meets its contract: of an accepted file it gives the numbers of its trailer.
use mathlib.Core.Path.{sym, ap, ◌∙◌}
use Prim.Native.Nat.{◌-◌}
use native.Mathlib.Omega.{arith}
use lib.ListN.{length, length-drop}
use borrow.Author.Rules.{rules}
use Rattle.model.specs.GridFile.{grid_in}
use Rattle.laws.proofs.ListLaws.{rest_whole}
use Rattle.laws.proofs.GridReadLaws.{length_ends, readable_facts}
use Rattle.refusal.proofs.Coded.{passed_on}
use Rattle.grid_reading.proofs.open.Goals as goal

pub returns-in_err-check : goal.returns-in_err-check
returns-in_err-check c = record {
  refusal = passed_on _ c.in_err-check.field-0.0 c.from_residual.ensures.1 ∙ c.in_err-check.ensures;
  grid = search rules;
}

pub overflow_sub-end : goal.overflow_sub-end
overflow_sub-end c = (length_ends _ (readable_facts _ 0 (sym c.in_ok-check.ensures)).0.some).0

pub grid_of-requires : goal.grid_of-requires
grid_of-requires c =
    let f = c.args.file.now in
    let some = (readable_facts f 0 (sym c.in_ok-check.ensures)).0.some in
    rw (rest_whole (length f - 20) f, length-drop (length f - 20) f) (omega (arith, (length_ends _ some).0))

pub returns : goal.returns
returns c = record {
  refusal = c.in_ok-check.ensures;
  grid = c.grid_of.ensures ∙ ap grid_in (rest_whole (length c.args.file.now - 20) c.args.file.now);
}
