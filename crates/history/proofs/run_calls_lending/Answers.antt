-- `run_calls_lending` meets its contract: the lookup is made in what the calls leave.
use Rattle.history.proofs.ClaimLaws.{claim_lending_of}
use Rattle.history.proofs.run_calls_lending.Goals as goal

pub returns : goal.returns
returns c =
    let a = c.args in
    let looked = rw c.left_by-t.ensures at c.lookup_lending.ensures in
    record {
      answer_value = looked.0;
      records_value = looked.2;
      claim_lent = claim_lending_of a.x a.y _ _ a.list _ a.n looked.0 looked.1 looked.2;
    }
