-- `tell_answer` meets its contract, by the cases of what is told.
use mathlib.Core.Path.{refl}
use mir.Syntax.{w16}
use mir.Val.{SFits}
use mir.Facts.{to_z-of_z}
use borrow.Author.Rules.{rules}
use Rattle.file_access.specs.Access.{AnswerTold}
use Rattle.file_access.proofs.tell_answer.Goals as goal

pub returns-in-Ok : goal.returns-in-Ok
unfolding AnswerTold
returns-in-Ok c =
    let f : SFits w16 c.in-Ok.f.answer = search rules in
    rw c.in-Ok.is (refl, to_z-of_z f, refl, refl)

pub returns-in-Err : goal.returns-in-Err
unfolding AnswerTold
returns-in-Err c = rw (c.in-Err.is, c.number.ensures) (refl, refl, refl, refl)
