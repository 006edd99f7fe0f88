-- `run_calls` meets its contract: the lookup is made in what the calls leave.
use Rattle.history.proofs.ClaimLaws.{claim_of}
use Rattle.history.proofs.run_calls.Goals as goal

pub returns : goal.returns
returns c =
    let a = c.args in
    let value = rw c.left_by-t.ensures at c.lookup.ensures.value in
    let rounded = rw c.left_by-t.ensures at c.lookup.ensures.rounded in
    record { value = value; claim = claim_of a.x a.y _ _ value rounded }
