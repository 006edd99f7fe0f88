-- Demand 3, §1 and §4 of lists that also begin grids and fill rows: of the survey they are lists of calls in which begins and rows only ask.
use Prim.Native.Nat.{ℕ}
use mathlib.Core.List.{List, [], ◌∷◌, ◌++◌, map, append-nil, append_assoc}
use lib.ListN.{length, take}
use Rattle.std.specs.Prelude.{Result}
use Rattle.model.specs.Calls.{Call}
use Rattle.model.specs.RowCalls.{RowCall, survey_call}
use Rattle.model.specs.Filling.{GivenRow}
use Rattle.extent.specs.declared.Extent.{Extent}
use Rattle.extent.specs.Kept.{as_extent}
use Rattle.neighbour_records.specs.declared.Record.{Record}
use Rattle.refusal.specs.declared.Refusal.{Refusal}
use Rattle.refusal.specs.Numbered.{numbered}
use Rattle.survey.specs.declared.Survey.{Survey}
use Rattle.survey.specs.declared.Found.{Found}
use Rattle.survey.specs.StateOf.{state_of}
use Rattle.survey.proofs.extent.Reads as extent-of
use Rattle.survey.proofs.lookup.Reads as lookup-of
use Rattle.lending.specs.declared.AnswerWithRecords.{AnswerWithRecords}
use Rattle.lending.specs.LentAs.{LentAs}
use Rattle.lending.proofs.lookup_lending.Reads as lookup-lending-of
use Rattle.history.specs.Claim.{Claim, ClaimLent, ClaimKept}
use Rattle.history.specs.Runs.{Makes, asks, Runs, fresh, more}
use Rattle.history.proofs.Runs.{demand_3, demand_3_lent, demand_3_lending, ends_kept}
use Rattle.grid_rows.specs.declared.Filling.{Filling}
use Rattle.row_history.specs.RowRuns.{MakesRow, calls, begins, fills, RowRuns, done, next, Fresh}
use Rattle.row_history.specs.ClaimRows.{present_after}

survey_makes : {c : RowCall} {s t : Survey} {f h : Filling} {rows : List GivenRow} → MakesRow c s f t h rows → Makes (survey_call c) s t
survey_makes (calls c s t f m) = m
survey_makes (begins κs f h s g r p) = asks s
survey_makes (fills κs s f h out left r p) = asks s

-- a list that goes on where a list of calls left the survey
runs_on : {cs : List RowCall} {s t : Survey} {f h : Filling} {rows : List GivenRow} → RowRuns cs s f t h rows → (ds : List Call) → Runs ds s → Runs (ds ++ map survey_call cs) t
runs_on (done s f) ds run = rw append-nil run
runs_on (next c cs s t u f h k row rows m rest) ds run =
    rw (append_assoc ds (survey_call c ∷ []) (map survey_call cs)) at (runs_on rest (ds ++ survey_call c ∷ []) (more ds (survey_call c) s t run (survey_makes m)))

pub survey_runs : {cs : List RowCall} {s t : Survey} {f h : Filling} {rows : List GivenRow} → Fresh s f → RowRuns cs s f t h rows → Runs (map survey_call cs) t
survey_runs {s = s} new run = runs_on run [] (fresh s new.survey)

module _ {cs : List RowCall} {s t : Survey} {f h : Filling} {rows : List GivenRow} (new : Fresh s f) (run : RowRuns cs s f t h rows) where
  module _ (x y : ℕ) where
    pub rows_demand_3 : (a : Result Found Refusal) → lookup-of.Post tt (t, (x, (y, tt))) a (t, (x, (y, tt))) → Claim x y (present_after cs) (numbered a)
    rows_demand_3 = demand_3 (survey_runs new run) x y

    pub rows_demand_3_lent : (l k : List Record) (a : Result Found ℕ) → LentAs (state_of t) x y l a k → ClaimLent x y (length l) (present_after cs) a l k
    rows_demand_3_lent = demand_3_lent (survey_runs new run) x y

    pub rows_demand_3_lending : (l : List Record) (n : ℕ) (r : AnswerWithRecords) → lookup-lending-of.Post tt (t, (x, (y, (l, (n, tt))))) r (t, (x, (y, (l, (n, tt)))))
        → ClaimLent x y (length (take n l)) (present_after cs) (numbered r.answer) l r.records
    rows_demand_3_lending = demand_3_lending (survey_runs new run) x y

  pub rows_ends_kept : (e : Extent) → extent-of.Post tt (t, tt) e (t, tt) → ClaimKept (present_after cs) (as_extent e)
  rows_ends_kept = ends_kept (survey_runs new run)
