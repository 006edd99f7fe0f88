-- What comes of reading a survey file, of writing one, and of telling an answer: the number, 0 or the first refusal that applies, and what was lent.
-- Where d is lent, d' is what it holds after the call.
use Rattle.std.specs.Prelude.{◌≡◌, ℕ, List, ℤ, length, Result, Ok, Err, IfOk}
use Rattle.model.specs.Lists.{laid}
use Rattle.model.specs.Point.{Point}
use Rattle.model.specs.Refusals.{or_else, afterwards}
use Rattle.model.specs.SurveyFile.{file_refusal, file_of, write_refusal}
use Rattle.model.specs.Program.{state_in}
use Rattle.refusal.specs.declared.Refusal.{Refusal}
use Rattle.refusal.specs.Numbered.{code}
use Rattle.survey.specs.declared.Survey.{Survey}
use Rattle.survey.specs.declared.Found.{Found}
use Rattle.survey.specs.StateOf.{state_of}

-- f read: refused as the file is, or a survey of its points
pub record Reads (f : List ℕ) (r : Result Survey Refusal) : Type 0 where
  pub number : code r ≡ file_refusal f
  pub state : IfOk r (λ s. state_of s ≡ state_in f)

-- what is told of a written file: the number, and what a lent number k holds then
unfoldable pub LengthTold : Result ℕ ℕ → ℕ → ℕ → ℕ → Type 0
LengthTold (Ok n) k m k' = (m ≡ 0) × (k' ≡ n)
LengthTold (Err n) k m k' = (m ≡ n) × (k' ≡ k)

-- what is told of an answer: the number, and what the lent numbers a, n and r hold then
unfoldable pub AnswerTold : Result Found ℕ → ℤ → ℕ → ℕ → ℕ → ℤ → ℕ → ℕ → Type 0
AnswerTold (Ok f) a n r m a' n' r' = (m ≡ 0) × (a' ≡ f.answer) × (n' ≡ f.count) × (r' ≡ f.radius)
AnswerTold (Err u) a n r m a' n' r' = (m ≡ u) × (a' ≡ a) × (n' ≡ n) × (r' ≡ r)

-- the file of the points l into the lent bytes d, and its length into the lent number k: refused as what came before was, then with 8
pub record Writes (before : ℕ) (l : List Point) (d : List ℕ) (k no : ℕ) (d' : List ℕ) (k' : ℕ) : Type 0 where
  pub number : no ≡ or_else before (write_refusal l (length d))
  pub bytes : d' ≡ afterwards no (laid (file_of l) d) d
  pub length : k' ≡ afterwards no (length (file_of l)) k
