-- `read` meets its contract by what `load` ensures.
use mathlib.Core.Path.{refl, ◌∙◌}
use borrow.Author.Rules.{rules}
use Rattle.refusal.proofs.Coded.{passed_on}
use Rattle.survey.proofs.Replying.{load_number, load_state}
use Rattle.file_access.proofs.read.Goals as goal

pub returns-in_err-load : goal.returns-in_err-load
returns-in_err-load c = record {
  number = passed_on _ c.in_err-load.field-0.0 c.from_residual.ensures.1 ∙ load_number c.args.file.now _ _ _ c.in_err-load.ensures;
  state = search rules;
}

pub returns : goal.returns
returns c = record {
  number = load_number c.args.file.now _ _ _ c.in_ok-load.ensures;
  state = load_state c.args.file.now _ _ _ c.in_ok-load.ensures refl;
}
