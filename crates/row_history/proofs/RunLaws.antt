-- What one call and a list of calls, begins and rows leave, and the rows that they write, are the model's; and a run of a list is a run of its front and one of the rest.
use mathlib.Core.Path.{◌≡◌, refl, sym, ap, ◌∙◌}
use mathlib.Core.Bool.{Bool, true, false, cond}
use mathlib.Core.List.{List, [], ◌∷◌, ◌++◌, append_assoc}
use lib.Dec.{eqb}
use lib.IntN.{ℤ}
use lib.ListN.{length}
use lib.Seq.{take-append_seam}
use Rattle.std.specs.Prelude.{Ok, Err}
use Rattle.model.specs.Lists.{laid}
use Rattle.model.specs.Point.{Contents, State}
use Rattle.model.specs.Extent.{settled}
use Rattle.model.specs.Grid.{Grid as Model-as-Grid}
use Rattle.model.specs.Filling.{GivenRow, row_refusal, next_row, row_into, after_begin, after_row, Filling as Model-as-Filling}
use Rattle.model.specs.RowCalls.{RowCall, NextRow, Session, session, after_row_call, given_by, session_after, rows_given}
use Rattle.survey.specs.declared.Survey.{Survey}
use Rattle.grid_rules.specs.GridOf.{grid_of}
use Rattle.survey.specs.StateOf.{state_of}
use Rattle.history.proofs.Runs.{made}
use Rattle.grid_rows.specs.declared.Filling.{Filling}
use Rattle.grid_rows.specs.FillingOf.{filling_of, rowed_as}
use Rattle.row_history.specs.RowRuns.{written, MakesRow, calls, begins, fills, RowRuns, done, next}

-- what a row wrote to lent cells is the row that the model gives
given_row : (q : Contents) (m : Model-as-Filling) (d : List ℤ) → written (rowed_as m (length d)) (row_into m d) ≡ given_by (NextRow d) (session q m)
unfolding rowed_as row_into given_by
given_row q m d = by_test (eqb (row_refusal m (length d)) 0)
  where
    by_test : (t : Bool) → written (cond t (Ok (record { index = (next_row m).index; cells = length (next_row m).cells })) (Err (row_refusal m (length d)))) (cond t (laid (next_row m).cells d) d) ≡ cond t (next_row m ∷ []) []
    by_test true = rw (take-append_seam (next_row m).cells _)
    by_test false = refl

-- the survey and the grid being filled are those of the model
pub record Agrees (b : Session) (s : Survey) (f : Filling) : Type 0 where
  pub survey : state_of s ≡ settled b.contents
  pub filling : filling_of f ≡ b.filling

begun_alike : (g : Model-as-Grid) {s t : State} {f h : Model-as-Filling} → s ≡ t → f ≡ h → after_begin g s f ≡ after_begin g t h
begun_alike g e k = rw (e, k)

-- one call leaves what the model says, and writes the row that the model gives
makes : {c : RowCall} {s t : Survey} {f h : Filling} {rows : List GivenRow} → MakesRow c s f t h rows → (b : Session) → Agrees b s f → Agrees (after_row_call c b) t h × (rows ≡ given_by c b)
unfolding after_row_call given_by
makes (calls c s t f m) b e = (record { survey = made m b.contents e.survey; filling = e.filling }, refl)
makes (begins κs f h s g r p) b e = (record { survey = e.survey; filling = p.filling ∙ begun_alike (grid_of g) e.survey e.filling }, refl)
makes (fills κs s f h out left r p) b e = (
  record { survey = e.survey; filling = p.1.0.filling ∙ ap (λ (m : Model-as-Filling). after_row m (length out.now)) e.filling },
  rw (p.0, p.1.1.0, e.filling) (given_row b.contents b.filling out.now),
)

-- a list of them does
pub leaves : {cs : List RowCall} {s t : Survey} {f h : Filling} {rows : List GivenRow} → RowRuns cs s f t h rows → (b : Session) → Agrees b s f → Agrees (session_after cs b) t h × (rows ≡ rows_given cs b)
unfolding session_after rows_given
leaves (done s f) b e = (e, refl)
leaves (next c cs s t u f h k row rows m run) b e =
    let i = makes m b e in
    let j = leaves run (after_row_call c b) i.0 in
    (j.0, rw (i.1, j.1))

-- where a run of cs ++ ds is cut: the survey and the grid being filled there, and the rows before and after
pub record Cut (cs ds : List RowCall) (s : Survey) (f : Filling) (u : Survey) (k : Filling) (rows : List GivenRow) : Type 0 where
  pub survey : Survey
  pub filling : Filling
  pub before : List GivenRow
  pub after : List GivenRow
  pub front : RowRuns cs s f survey filling before
  pub rest : RowRuns ds survey filling u k after
  pub joined : rows ≡ before ++ after

pub run_cut : (cs ds : List RowCall) {s u : Survey} {f k : Filling} {rows : List GivenRow} → RowRuns (cs ++ ds) s f u k rows → Cut cs ds s f u k rows
run_cut [] ds run = record { survey = _; filling = _; before = []; after = _; front = done _ _; rest = run; joined = refl }
run_cut (c ∷ cs) ds (next _ _ s t u f h k row rows m run) =
    let p = run_cut cs ds run in
    record {
      survey = p.survey;
      filling = p.filling;
      before = row ++ p.before;
      after = p.after;
      front = next c cs s t p.survey f h p.filling row p.before m p.front;
      rest = p.rest;
      joined = ap (λ (l : List GivenRow). row ++ l) p.joined ∙ sym (append_assoc row p.before p.after);
    }
