-- `tell_length` meets its contract, by the cases of what is told.
use mathlib.Core.Path.{refl}
use Rattle.file_access.specs.Access.{LengthTold}
use Rattle.file_access.proofs.tell_length.Goals as goal

pub returns-in-Ok : goal.returns-in-Ok
unfolding LengthTold
returns-in-Ok c = rw c.in-Ok.is (refl, refl)

pub returns-in-Err : goal.returns-in-Err
unfolding LengthTold
returns-in-Err c = rw (c.in-Err.is, c.number.ensures) (refl, refl)
