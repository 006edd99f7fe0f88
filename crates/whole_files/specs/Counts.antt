-- What counting a file's points gives.
use Rattle.std.specs.Prelude.{◌≡◌, ℕ, List, length}
use Rattle.model.specs.Refusals.{afterwards}
use Rattle.model.specs.SurveyFile.{file_refusal, file_points}

-- how many points the file f has, into the lent number k, which holds k' after the call
pub record Counts (f : List ℕ) (k no k' : ℕ) : Type 0 where
  pub number : no ≡ file_refusal f
  pub count : k' ≡ afterwards no (length (file_points f)) k
