-- What writing an Esri ASCII grid answers: the text's length, or the paper's refusal; and how much room is enough for every text.
use Rattle.std.specs.Prelude.{◌≡◌, ℕ, ◌≤◌, List, length, Result}
use Rattle.model.specs.Lists.{laid}
use Rattle.model.specs.Point.{State}
use Rattle.model.specs.Refusals.{enough, afterwards}
use Rattle.model.specs.Grid.{Grid}
use Rattle.model.specs.Esri.{esri_text, esri_check, esri_refusal}
use Rattle.refusal.specs.Numbered.{told}

-- a text to the front of the lent bytes d, which are d' then: 8, or its length
pub record TextPut (text d : List ℕ) (r : Result ℕ ℕ) (d' : List ℕ) : Type 0 where
  pub answer : r ≡ told (enough (length d) (length text)) (length text)
  pub bytes : d' ≡ afterwards (enough (length d) (length text)) (laid text d) d
  pub fits : length text ≤ 57434

-- an Esri ASCII grid into n lent bytes
unfoldable pub esri_written_as : State → Grid → ℕ → Result ℕ ℕ
unfolding esri_refusal esri_text
esri_written_as s g n = told (esri_refusal g s n) (length (esri_text s g))

-- 57,434 bytes are enough for the text of every grid that 7, 16 and 6 let pass
abbrev pub TextFits : State → Grid → Type 0
TextFits s g = esri_check g s 0 ≡ 0 → length (esri_text s g) ≤ 57434
