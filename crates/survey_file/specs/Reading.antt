-- What reading a survey file gives: the paper's refusal, or the file's points as the arrays hold them.
-- What the arrays hold past the count is free.
use Rattle.std.specs.Prelude.{ℕ, ◌≡◌, List, length, Result, IfOk}
use Rattle.model.specs.Point.{Point}
use Rattle.model.specs.SurveyFile.{file_refusal, file_points}
use Rattle.point_arrays.specs.PointArrays.{held}
use Rattle.refusal.specs.declared.Refusal.{Refusal}
use Rattle.refusal.specs.Numbered.{code}
use Rattle.survey_file.specs.declared.Reading.{Reading}

abbrev pub points_held : Reading → List Point
points_held r = held r.x r.y r.z r.count

-- r holds the points l
pub record Holds (l : List Point) (r : Reading) : Type 0 where
  pub points : points_held r ≡ l
  pub count : r.count ≡ length l

-- it is refused with n, or, with n = 0, holds the points l
pub record Gives (n : ℕ) (l : List Point) (r : Result Reading Refusal) : Type 0 where
  pub refusal : code r ≡ n
  pub points : IfOk r (Holds l)

abbrev pub ReadsAs : List ℕ → Result Reading Refusal → Type 0
ReadsAs f r = Gives (file_refusal f) (file_points f) r
