-- §6 of every program: whatever the calls, begins and rows, refused ones among them, the rows written after an accepted begin and before the next accepted one are, in order, the first
-- rows of the grid made in one go at that begin, over what the model says is present there.
use mathlib.Core.Path.{◌≡◌, sym, ap, ◌∙◌}
use Prim.Native.Nat.{ℕ, ◌*◌, ◌≤◌}
use native.Mathlib.Omega.{arith}
use native.Mathlib.Nat.{mul-le-mul_left, min-le_right}
use mathlib.Core.List.{List, [], ◌∷◌, ◌++◌, map, flat_map}
use lib.IntN.{ℤ}
use lib.ListN.{length, take, drop}
use lib.Seq.{take-append-le}
use contract.Lifetimes.{Lfts}
use denote.MutBor.{MutBor}
use Rattle.std.specs.Prelude.{Ok}
use Rattle.model.specs.Point.{Contents}
use Rattle.model.specs.Extent.{settled}
use Rattle.model.specs.Calls.{fresh}
use Rattle.model.specs.Grid.{cells, Grid as Model-as-Grid}
use Rattle.model.specs.Filling.{Begun, GivenRow, begin_refusal, after_begin, Filling as Model-as-Filling}
use Rattle.model.specs.RowCalls.{RowCall, Begin, Session, session, fresh_session, after_row_call, given_by, session_after, rows_given, survey_call, NoneBegins, rows_asked, FirstRows}
use Rattle.laws.proofs.GridLaws.{length_cells}
use Rattle.laws.proofs.HistoryInvariant.{history_invariant}
use Rattle.laws.proofs.FillingLaws.{begin_accepted, contents_present, rows_first, no_rows}
use Rattle.survey.specs.declared.Survey.{Survey}
use Rattle.grid_rules.specs.declared.Grid.{Grid}
use Rattle.grid_rules.specs.GridOf.{grid_of}
use Rattle.grid.proofs.FilledLaws.{filled_laid}
use Rattle.grid.proofs.cells.Reads as Cells-of
use Rattle.grid_rows.specs.declared.Filling.{Filling}
use Rattle.row_history.specs.RowRuns.{RowRuns, Fresh}
use Rattle.row_history.specs.ClaimRows.{present_after, ClaimRows}
use Rattle.row_history.proofs.CellsAreRight.{cells_right}
use Rattle.row_history.proofs.RunLaws.{Agrees, leaves, run_cut}

fresh_agrees : {s : Survey} {f : Filling} → Fresh s f → Agrees fresh_session s f
fresh_agrees h = record { survey = h.survey.0; filling = h.filling }

-- the rows that any list wrote are those that the model gives
module _ {cs : List RowCall} {s t : Survey} {f h : Filling} {rows : List GivenRow} (new : Fresh s f) (run : RowRuns cs s f t h rows) where
  pub rows_given_lem : rows ≡ rows_given cs fresh_session
  rows_given_lem = (leaves run fresh_session (fresh_agrees new)).1

  -- so with no begin accepted there is none
  pub rows_none : NoneBegins fresh cs → rows ≡ []
  rows_none none = rows_given_lem ∙ no_rows fresh cs none

-- any list cs from a fresh survey with no grid begun; then a begin of g that the model accepts; and any list ds from there on in which it accepts none
module _ {cs ds : List RowCall} {g : Model-as-Grid} {s₀ s u : Survey} {f₀ f k : Filling} {before rows : List GivenRow} (new : Fresh s₀ f₀) (run : RowRuns cs s₀ f₀ s f before)
    (on : RowRuns (Begin g ∷ ds) s f u k rows) (accepted : begin_refusal g (settled (present_after cs)) ≡ 0) (until : NoneBegins (present_after cs) ds) where
  abbrev q : Contents
  q = present_after cs

  abbrev reached : Session
  reached = session_after cs fresh_session

  there : Agrees reached s f
  there = (leaves run fresh_session (fresh_agrees new)).0

  from_begin : rows ≡ rows_given ds (session q (Begun (settled q) g 0))
  unfolding rows_given given_by after_row_call
  from_begin =
      (leaves on reached there).1
      ∙ ap (λ (r : Contents). rows_given ds (session r (after_begin g (settled r) reached.filling))) (contents_present cs)
      ∙ ap (λ (m : Model-as-Filling). rows_given ds (session q m)) (begin_accepted g (settled q) reached.filling accepted)

  first : FirstRows q g ds rows
  first = rw from_begin (rows_first q g ds until)

  few : length rows ≤ g.rows
  few = rw first.all (min-le_right (rows_asked g.columns ds) g.rows)

  -- the rows that were written are the first of the grid made in one go over what was present at the begin
  pub rows_claimed : ClaimRows q g ds rows
  rows_claimed = record { first_rows = first; right = λ r l. cells_right q (history_invariant (map survey_call cs)) g accepted r (omega (arith, few)) }

  -- and the front of what `grid::cells` writes in one go with the survey of the begin
  pub rows_at_once : (κs : Lfts 1) (b : Grid) (out left : MutBor (List ℤ)) (n : ℕ) → grid_of b ≡ g → Cells-of.Post κs (s, (b, (out, tt))) (Ok n) (s, (b, (left, tt)))
      → flat_map (λ (r : GivenRow). r.cells) rows ≡ take (g.columns * length rows) left.now
  rows_at_once κs b out left n e p =
      let w = rw (there.survey ∙ ap settled (contents_present cs), e) at p in
      let within : g.columns * length rows ≤ length (cells (settled q) g) = rw (length_cells (settled q) g) (mul-le-mul_left g.columns few) in
      first.at_once
      ∙ sym (rw (w.1.0, filled_laid (settled q) g out.now n (sym w.0)) (take-append-le (g.columns * length rows) (cells (settled q) g) (drop (length (cells (settled q) g)) out.now) within))

-- §6's sentence of one list: behind the rows that cs gives, those of ds are claimed
pub rows_of_list : (cs ds : List RowCall) (g : Model-as-Grid) {s u : Survey} {f k : Filling} {rows : List GivenRow} → Fresh s f → RowRuns (cs ++ Begin g ∷ ds) s f u k rows
    → begin_refusal g (settled (present_after cs)) ≡ 0 → NoneBegins (present_after cs) ds
    → (later : List GivenRow) × (rows ≡ rows_given cs fresh_session ++ later) × ClaimRows (present_after cs) g ds later
rows_of_list cs ds g new run accepted until =
    let p = run_cut cs (Begin g ∷ ds) run in
    (p.after, p.joined ∙ ap (λ (l : List GivenRow). l ++ p.after) (rows_given_lem new p.front), rows_claimed new p.front p.rest accepted until)
