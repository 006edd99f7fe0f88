-- Lists of calls, begins and rows as any program can make them: each gets the survey and the grid being filled that the one before it left, and gives what its
-- function's contract says, as the check proved it of the code (`Post` of the function's generated module `Reads`). A run has the rows that were written to lent cells.
use Rattle.std.specs.Prelude.{List, [], ◌∷◌, ◌++◌, ℤ, ℕ, take, Result, Ok, Err}
use contract.Lifetimes.{Lfts}
use Rattle.std.specs.Borrow.{MutBor}
use Rattle.model.specs.Calls.{Call}
use Rattle.model.specs.Filling.{GivenRow}
use Rattle.model.specs.RowCalls.{RowCall, OnSurvey, Begin, NextRow}
use Rattle.refusal.specs.declared.Refusal.{Refusal}
use Rattle.refusal.specs.Numbered.{numbered}
use Rattle.survey.specs.declared.Survey.{Survey}
use Rattle.survey.proofs.fresh.Reads as fresh-of
use Rattle.history.specs.Runs.{Makes}
use Rattle.grid_rules.specs.declared.Grid.{Grid}
use Rattle.grid_rules.specs.GridOf.{grid_of}
use Rattle.grid_rows.specs.declared.Filling.{Filling}
use Rattle.grid_rows.specs.declared.FilledRow.{FilledRow}
use Rattle.grid_rows.proofs.none.Reads as none_of
use Rattle.grid_rows.proofs.begin.Reads as begin-of
use Rattle.grid_rows.proofs.row.Reads as row_of

-- the row that an answer tells of, as it stands at the front of the lent cells after the call
abbrev pub written : Result FilledRow ℕ → List ℤ → List GivenRow
written (Ok r) d = record { index = r.index; cells = take r.cells d } ∷ []
written (Err n) d = []

-- the call, made on a survey and the grid being filled beside it, left the two behind them, and wrote these rows
pub data MakesRow : RowCall → Survey → Filling → Survey → Filling → List GivenRow → Type 0 where
  calls : (c : Call) (s t : Survey) (f : Filling) → Makes c s t → MakesRow (OnSurvey c) s f t f []
  begins : (κs : Lfts 1) (f h : MutBor Filling) (s : Survey) (g : Grid) (r : Result (Unit {0}) Refusal) → begin-of.Post κs (f, (s, (g, tt))) r (h, (s, (g, tt)))
      → MakesRow (Begin (grid_of g)) s f.now s h.now []
  fills : (κs : Lfts 2) (s : Survey) (f h : MutBor Filling) (out left : MutBor (List ℤ)) (r : Result FilledRow Refusal) → row_of.Post κs (f, (out, tt)) r (h, (left, tt))
      → MakesRow (NextRow out.now) s f.now s h.now (written (numbered r) left.now)

-- the calls, made one after the other on the survey and the grid being filled in front, left the two behind, and wrote these rows, in order
pub data RowRuns : List RowCall → Survey → Filling → Survey → Filling → List GivenRow → Type 0 where
  done : (s : Survey) (f : Filling) → RowRuns [] s f s f []
  next : (c : RowCall) (cs : List RowCall) (s t u : Survey) (f h k : Filling) (row rows : List GivenRow)
      → MakesRow c s f t h row → RowRuns cs t h u k rows → RowRuns (c ∷ cs) s f u k (row ++ rows)

-- a fresh survey, and no grid begun
pub record Fresh (s : Survey) (f : Filling) : Type 0 where
  pub survey : fresh-of.Post tt tt s tt
  pub filling : none_of.Post tt tt f tt
