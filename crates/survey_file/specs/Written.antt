-- What writing a survey file answers: the length of what it writes, or the paper's refusal.
use Rattle.std.specs.Prelude.{ℕ, List, length, Result}
use Rattle.model.specs.Point.{Point}
use Rattle.model.specs.SurveyFile.{file_of, write_refusal}
use Rattle.refusal.specs.Numbered.{told}

-- the file of these points written into n lent bytes
unfoldable pub written_as : List Point → ℕ → Result ℕ ℕ
unfolding file_of write_refusal
written_as l n = told (write_refusal l n) (length (file_of l))
