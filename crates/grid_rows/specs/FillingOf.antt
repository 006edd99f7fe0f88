-- The grid being filled as its struct is read, what a begin and a row leave of it, and what a row answers.
use Rattle.std.specs.Prelude.{◌≡◌, ℕ, cond, eqb, length, Result, Ok, Err}
use Rattle.model.specs.Filling.{NoGrid, Begun, begin_refusal, row_refusal, next_row, after_begin, after_row, Filling as Model-as-Filling}
use Rattle.refusal.specs.declared.Refusal.{Refusal}
use Rattle.refusal.specs.Numbered.{code, told}
use Rattle.survey.specs.declared.Survey.{Survey}
use Rattle.survey.specs.StateOf.{state_of}
use Rattle.grid_rules.specs.declared.Grid.{Grid}
use Rattle.grid_rules.specs.GridOf.{grid_of}
use Rattle.grid_cells.specs.CellsRight.{RowRight}
use Rattle.grid_rows.specs.declared.Filling.{Filling}
use Rattle.grid_rows.specs.declared.FilledRow.{FilledRow}

-- a grid that a begin would refuse is read as none begun
unfoldable pub filling_of : Filling → Model-as-Filling
filling_of f = cond (eqb (begin_refusal (grid_of f.grid) (state_of f.survey)) 0) (Begun (state_of f.survey) (grid_of f.grid) f.next) NoGrid

-- a begin of g over s answers r, and of f, which was being filled, leaves t: the paper's number; accepted, it keeps the very survey; refused, it leaves the very f
pub record Begins (f : Filling) (s : Survey) (g : Grid) (r : Result (Unit {0}) Refusal) (t : Filling) : Type 0 where
  pub number : code r ≡ begin_refusal (grid_of g) (state_of s)
  pub filling : filling_of t ≡ after_begin (grid_of g) (state_of s) (filling_of f)
  pub survey : begin_refusal (grid_of g) (state_of s) ≡ 0 → t.survey ≡ s
  pub unaltered : (begin_refusal (grid_of g) (state_of s) ≡ 0 → ⊥) → t ≡ f

-- after the next row of f, lent n cells, t is being filled: refused, the very f
pub record Advances (f : Filling) (n : ℕ) (t : Filling) : Type 0 where
  pub filling : filling_of t ≡ after_row (filling_of f) n
  pub survey : t.survey ≡ f.survey
  pub unaltered : (row_refusal (filling_of f) n ≡ 0 → ⊥) → t ≡ f

-- what the next row, lent n cells, answers
unfoldable pub rowed_as : Model-as-Filling → ℕ → Result FilledRow ℕ
unfolding row_refusal next_row
rowed_as f n = told (row_refusal f n) (record { index = (next_row f).index; cells = length (next_row f).cells })

-- the rounding of the cells' answers, which the paper leaves free, is that of the definition; this holds of it
unfoldable pub RowRounded : Model-as-Filling → Result FilledRow ℕ → Type 0
RowRounded NoGrid a = Unit {0}
RowRounded (Begun s g r) (Ok a) = RowRight s g r
RowRounded (Begun s g r) (Err n) = Unit {0}
