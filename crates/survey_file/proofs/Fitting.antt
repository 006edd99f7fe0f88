-- What writing answers and leaves, where the file fits the lent bytes and where it does not.
use mathlib.Core.Path.{◌≡◌}
use Prim.Native.Nat.{ℕ, ◌<◌, ◌≤◌}
use mathlib.Core.List.{List}
use lib.ListN.{length}
use borrow.Author.Tests.{lt-ltb, le-ltb}
use Rattle.std.specs.Prelude.{Ok, Err}
use Rattle.model.specs.Lists.{laid}
use Rattle.model.specs.Point.{Point}
use Rattle.model.specs.SurveyFile.{file_of, write_refusal, written_into}
use Rattle.survey_file.specs.Written.{written_as}

module _ (l : List Point) (d : List ℕ) where
  pub too_long : length d < length (file_of l) → (written_as l (length d) ≡ Err 8) × (written_into l d ≡ d)
  unfolding written_as written_into write_refusal
  too_long h = let t = lt-ltb (length d) (length (file_of l)) h in (rw t, rw t)

  pub fitting : length (file_of l) ≤ length d → (written_as l (length d) ≡ Ok (length (file_of l))) × (written_into l d ≡ laid (file_of l) d)
  unfolding written_as written_into write_refusal
  fitting h = let t = le-ltb (length d) (length (file_of l)) h in (rw t, rw t)
