-- That a struct holds the answer at a location and its neighbours. The answer's rounding, which the paper leaves free, is that of the definition; `right` says what holds of it.
use Rattle.std.specs.Prelude.{◌≡◌}
use Rattle.model.specs.Point.{Location, State}
use Rattle.model.specs.Mean.{Right}
use Rattle.model.specs.Answer.{answer}
use Rattle.neighbours.specs.Chose.{Chose}
use Rattle.lookup.specs.declared.Answered.{Answered}

pub record AnswersAs (s : State) (p : Location) (r : Answered) : Type 0 where
  pub answer : r.answer ≡ answer s p
  pub right : Right s p r.answer
  pub chosen : Chose s p r.chosen
