-- `read` meets its contract: a file that is read gives the preamble's length by its count.
use mathlib.Core.Path.{refl, sym, ◌∙◌}
use native.Mathlib.Omega.{arith}
use borrow.Author.Rules.{rules}
use Rattle.refusal.proofs.Coded.{passed_on}
use Rattle.survey.proofs.Replying.{load_number, load_state}
use Rattle.grid_io.proofs.Reading.{file_refused, too_short, long_enough}
use Rattle.grid_io.proofs.read.Goals as goal

pub returns-in_err-load : goal.returns-in_err-load
returns-in_err-load c =
    let e = c.in_err-load.field-0.0 in
    record {
      number = passed_on _ e c.from_residual.ensures.1 ∙ file_refused c.args.input.now e (load_number c.args.input.now _ _ _ c.in_err-load.ensures);
      state = search rules;
      six = search rules;
    }

pub returns-then-input-count : goal.returns-then-input-count
returns-then-input-count c =
    let f = c.args.input.now in
    let l = c.in_ok-load in
    too_short f (sym (load_number f _ _ _ l.ensures)) _ (load_state f _ _ _ l.ensures refl) c.count.result c.count.ensures.0 (omega arith)

pub returns : goal.returns
returns c =
    let f = c.args.input.now in
    let l = c.in_ok-load in
    long_enough f (sym (load_number f _ _ _ l.ensures)) _ (load_state f _ _ _ l.ensures refl) c.count.result c.count.ensures.0 (omega arith)
