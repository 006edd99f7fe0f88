-- The grid file of every program: whatever the calls, a grid file that is written after them is accepted, and read back as the grid's six numbers and its cells over what the model
-- says is present.
use mathlib.Core.Path.{◌≡◌, ap}
use Prim.Native.Nat.{ℕ}
use mathlib.Core.List.{List}
use lib.ListN.{length, take}
use contract.Lifetimes.{Lfts}
use denote.MutBor.{MutBor}
use Rattle.std.specs.Prelude.{Result, Ok}
use Rattle.model.specs.Point.{Contents}
use Rattle.model.specs.Extent.{settled}
use Rattle.model.specs.Calls.{Call, present}
use Rattle.model.specs.Invariant.{Invariant}
use Rattle.model.specs.Grid.{cells, Grid as Model-as-Grid}
use Rattle.model.specs.GridFile.{grid_file, grid_file_length, grid_file_refusal, grid_file_into}
use Rattle.model.specs.GridReading.{States, TwoBytes}
use Rattle.laws.proofs.HistoryInvariant.{history_invariant}
use Rattle.laws.proofs.GridLaws.{grid_fits}
use Rattle.laws.proofs.GridBack.{grid_file_read}
use Rattle.refusal.specs.declared.Refusal.{Refusal}
use Rattle.refusal.specs.Numbered.{numbered, told}
use Rattle.refusal.proofs.Told.{told_value}
use Rattle.survey_file.proofs.Told.{told_front}
use Rattle.survey.specs.declared.Survey.{Survey}
use Rattle.history.specs.Runs.{Runs}
use Rattle.history.proofs.Runs.{leaves}
use Rattle.grid_rules.specs.declared.Grid.{Grid}
use Rattle.grid_rules.specs.GridOf.{grid_of}
use Rattle.grid_cells.specs.CellsRight.{WrittenRight}
use Rattle.grid_cells.proofs.Told.{right_written}
use Rattle.grid.specs.FilledAs.{grid_written_as}
use Rattle.grid.proofs.write.Reads as write-of

-- from the contract of `grid::write`: its answer a, what it leaves in the lent bytes d, and what holds of the cells
module _ (g : Model-as-Grid) (q : Contents) (h : Invariant q.points) (d : List ℕ) (a : Result ℕ ℕ) (d' : List ℕ)
    (e : a ≡ grid_written_as (settled q) g (length d)) (b : d' ≡ grid_file_into (settled q) g d) (right : WrittenRight (settled q) g a) where
  abbrev no : ℕ
  no = grid_file_refusal g (settled q) (length d)

  abbrev file : List ℕ
  file = grid_file (settled q) g

  told_so : a ≡ told no (length file)
  unfolding grid_written_as
  told_so = e

  written_back : (n : ℕ) → a ≡ Ok n → TwoBytes g → States (take n d') g (cells (settled q) g)
  unfolding grid_file_into grid_file_refusal
  written_back n w small =
      let accepted = (told_value no (length file) a told_so n w).0 in
      let rules = (grid_fits g (settled q) (length d) (grid_file_length g) accepted).0 in
      let front : take n d' ≡ file = rw b (told_front no file a told_so n w d).0 in
      rw front (grid_file_read (settled q) g h.sound (right_written (settled q) g n a w right) rules small)

-- of `grid::write` after any list of calls, lent bytes that are `out` before it and `left` after it; a `Grid`'s numbers have two bytes each
pub file_claimed : {cs : List Call} {s : Survey} → Runs cs s → (κs : Lfts 1) (g : Grid) (out left : MutBor (List ℕ)) (a : Result ℕ Refusal)
    → write-of.Post κs (s, (g, (out, tt))) a (s, (g, (left, tt)))
    → (n : ℕ) → a ≡ Ok n → TwoBytes (grid_of g) → States (take n left.now) (grid_of g) (cells (settled (present cs)) (grid_of g))
file_claimed {cs} h κs g out left a p n e =
    let q = rw (leaves h) at p in
    written_back (grid_of g) (present cs) (history_invariant cs) out.now (numbered a) left.now q.0 q.1.0 q.1.1 n (ap numbered e)
