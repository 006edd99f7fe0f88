-- `lookup` meets its contract: a refused file decides, then the lookup.
use Rattle.model.specs.Point.{location}
use Rattle.model.specs.Refusals.{lookup_refusal}
use Rattle.refusal.specs.Numbered.{number_of, numbered}
use Rattle.refusal.proofs.Coded.{never_0}
use Rattle.survey.specs.LookedUp.{looked_up}
use Rattle.file_lookups.proofs.Finding.{finds_none, finds_answer}
use Rattle.file_lookups.proofs.lookup.Goals as goal

pub returns-in-Err : goal.returns-in-Err
returns-in-Err c =
    let a = c.args in
    let e = c.in-Err.e in
    rw c.number.ensures
    (finds_none a.file.now (number_of e) c.in-Err.ensures.number (never_0 e) (lookup_refusal a.x a.y) (location a.x a.y) a.answer.now a.count.now a.radius.now)

pub returns : goal.returns
unfolding looked_up
returns c =
    let a = c.args in
    finds_answer a.file.now _ c.in-Ok.ensures (lookup_refusal a.x a.y) (location a.x a.y) a.answer.now a.count.now a.radius.now
    (numbered c.lookup-found.result) c.lookup-found.ensures.value c.lookup-found.ensures.rounded _ _ _ _ c.tell_answer.ensures
