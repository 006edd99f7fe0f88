-- `run_calls_text` meets its contract: the text is that of what the calls leave.
use Rattle.model.specs.Calls.{present}
use Rattle.refusal.specs.Numbered.{numbered}
use Rattle.history.specs.Encoding.{calls}
use Rattle.grid_rules.specs.GridOf.{grid_of}
use Rattle.grid_history.proofs.ClaimLaws.{claim_text}
use Rattle.grid_history.proofs.run_calls_text.Goals as goal

pub returns : goal.returns
returns c =
    let a = c.args in
    let q = present (calls a.records.now a.files.now) in
    let e = rw c.left_by-left.ensures at c.write.ensures in
    record {
      value = e.value;
      out_after = e.out_after;
      claim_text = claim_text (grid_of a.g) q a.out.now (numbered c.write.result) c.write.new.out e.value e.out_after e.written_right;
    }
