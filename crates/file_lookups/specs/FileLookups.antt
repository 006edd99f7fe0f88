-- What the functions give that look up in the points of a survey file.
use Rattle.std.specs.Prelude.{◌≡◌, ℕ, List, ℤ, length}
use Rattle.model.specs.Lists.{laid}
use Rattle.model.specs.Point.{Location, State}
use Rattle.model.specs.Choice.{choice}
use Rattle.model.specs.Mean.{Right}
use Rattle.model.specs.Answer as model
use Rattle.model.specs.Refusals.{or_else, afterwards}
use Rattle.model.specs.SurveyFile.{file_refusal}
use Rattle.model.specs.Program.{state_in}
use Rattle.many_lookups.specs.Locations.{locations_in}
use Rattle.many_lookups.specs.AnswersInto.{lookups_refusal, answers_bytes, AllRight}

-- a lookup at p in the points of the file f, into the lent numbers a, n and r: refused as the file is, then as `refusal` says of its points.
-- The answer's rounding, which the paper leaves free, is that of the definition; `right` holds of it
pub record Finds (refusal : State → ℕ) (f : List ℕ) (p : Location) (a : ℤ) (n r no : ℕ) (a' : ℤ) (n' r' : ℕ) : Type 0 where
  pub number : no ≡ or_else (file_refusal f) (refusal (state_in f))
  pub answer : a' ≡ afterwards no (model.answer (state_in f) p) a
  pub count : n' ≡ afterwards no (model.chosen_count (state_in f) p) n
  pub radius : r' ≡ afterwards no (choice (state_in f) p).radius r
  pub right : no ≡ 0 → Right (state_in f) p a'

-- lookups at the locations that the bytes b are, the answers into the lent bytes d
pub record ManyFound (f b d : List ℕ) (no : ℕ) (d' : List ℕ) : Type 0 where
  pub number : no ≡ or_else (file_refusal f) (lookups_refusal (state_in f) (locations_in b) (length d))
  pub bytes : d' ≡ afterwards no (laid (answers_bytes (state_in f) (locations_in b)) d) d
  pub right : no ≡ 0 → AllRight (state_in f) (locations_in b)
