-- Lists of calls that also begin grids and fill their rows, and which rows these are: document 02, §6.
use Rattle.std.specs.Prelude.{◌≡◌, ℕ, suc, ◌*◌, min, cond, ltb, ℤ, length, take}
use mathlib.Core.List.{List, [], ◌∷◌, ◌++◌, flat_map}
use Rattle.model.specs.Lists.{tabulate}
use Rattle.model.specs.Point.{Contents}
use Rattle.model.specs.Extent.{settled}
use Rattle.model.specs.Refusals.{afterwards}
use Rattle.model.specs.Calls.{Call, Ask, fresh, after}
use Rattle.model.specs.Grid.{Grid, cells}
use Rattle.model.specs.Filling.{Filling, NoGrid, GivenRow, begin_refusal, row_refusal, row_at, next_row, after_begin, after_row}

-- a call with what it is handed: one on the survey alone; a begin; the next row, into the lent cells
pub data RowCall : Type 0 where
  OnSurvey : Call → RowCall
  Begin : Grid → RowCall
  NextRow : List ℤ → RowCall

-- what calls determine: the survey's contents, and beside them the grid being filled
pub record Session : Type 0 where
  pub contents : Contents
  pub filling : Filling

abbrev pub session : Contents → Filling → Session
session q f = record { contents = q; filling = f }

-- a fresh survey, and no grid begun
abbrev pub fresh_session : Session
fresh_session = session fresh NoGrid

-- what a call leaves: one on the survey alters nothing of the grid being filled, a begin and a row nothing of the survey
unfoldable pub after_row_call : RowCall → Session → Session
unfolding after after_begin after_row
after_row_call (OnSurvey c) b = session (after c b.contents) b.filling
after_row_call (Begin g) b = session b.contents (after_begin g (settled b.contents) b.filling)
after_row_call (NextRow d) b = session b.contents (after_row b.filling (length d))

-- the row that a call gives: one or none
unfoldable pub given_by : RowCall → Session → List GivenRow
unfolding row_refusal next_row
given_by (OnSurvey c) b = []
given_by (Begin g) b = []
given_by (NextRow d) b = afterwards (row_refusal b.filling (length d)) (next_row b.filling ∷ []) []

-- what a list of calls leaves, and the rows that it gives, in order
unfoldable pub session_after : List RowCall → Session → Session
unfolding after_row_call
session_after [] b = b
session_after (c ∷ cs) b = session_after cs (after_row_call c b)

unfoldable pub rows_given : List RowCall → Session → List GivenRow
unfolding given_by after_row_call
rows_given [] b = []
rows_given (c ∷ cs) b = given_by c b ++ rows_given cs (after_row_call c b)

-- what the call is for the survey: a begin and a row only ask
abbrev pub survey_call : RowCall → Call
survey_call (OnSurvey c) = c
survey_call (Begin g) = Ask
survey_call (NextRow d) = Ask

-- where q is present before them, none of the calls is an accepted begin
abbrev pub NoneBegins : Contents → List RowCall → Type 0
NoneBegins q [] = Unit {0}
NoneBegins q (OnSurvey c ∷ cs) = NoneBegins (after c q) cs
NoneBegins q (Begin g ∷ cs) = (begin_refusal g (settled q) ≡ 0 → ⊥) × NoneBegins q cs
NoneBegins q (NextRow d ∷ cs) = NoneBegins q cs

-- how many of the calls ask for a row and lend n cells or more
abbrev pub rows_asked : ℕ → List RowCall → ℕ
rows_asked n [] = 0
rows_asked n (OnSurvey c ∷ cs) = rows_asked n cs
rows_asked n (Begin g ∷ cs) = rows_asked n cs
rows_asked n (NextRow d ∷ cs) = cond (ltb (length d) n) (rows_asked n cs) (suc (rows_asked n cs))

-- §6's sentence, of the rows accepted in the calls cs, which come after an accepted begin of g, where q is present, and before the next accepted one:
-- `rows-first` of the crate laws
pub record FirstRows (q : Contents) (g : Grid) (cs : List RowCall) (rows : List GivenRow) : Type 0 where
  -- they are the grid's first rows, in order, over what is present at the begin
  pub first : rows ≡ tabulate (row_at (settled q) g) (length rows)
  -- their cells are the first of the grid made in one go at the begin
  pub at_once : flat_map (λ (r : GivenRow). r.cells) rows ≡ take (g.columns * length rows) (cells (settled q) g)
  -- and every call that lends enough gives one, up to the last row
  pub all : length rows ≡ min (rows_asked g.columns cs) g.rows
