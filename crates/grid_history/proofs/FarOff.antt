-- §5 of the grids of every two programs: whatever the calls of each, where their surveys stand at the same locations, a cell is the same number wherever the values differ
-- only at points not chosen at its location.
use mathlib.Core.Path.{◌≡◌, refl, sym, ap, ◌∙◌}
use Prim.Native.Nat.{ℕ, ◌+◌, ◌-◌, ◌*◌, ◌<◌}
use native.Mathlib.Omega.{arith}
use mathlib.Core.Bool.{false}
use mathlib.Core.List.{List, [], map}
use mathlib.Core.Option.{none, some}
use lib.IntN.{ℤ, pos}
use lib.ListN.{length, take, drop, get_or, get_or-append}
use contract.Lifetimes.{Lfts}
use denote.MutBor.{MutBor}
use Rattle.std.specs.Prelude.{Result, Ok}
use Rattle.model.specs.Point.{Contents, State}
use Rattle.model.specs.Extent.{settled}
use Rattle.model.specs.Choice.{choice}
use Rattle.model.specs.Calls.{Call, Change, taken, present}
use Rattle.model.specs.FarOff.{Alike, Spared}
use Rattle.model.specs.Grid.{cell_count, cell_location, grid_refusal, cells, cells_into, Grid as Model-as-Grid}
use Rattle.model.specs.GridReading.{cells_of_file, TwoBytes}
use Rattle.model.specs.Esri.{rows_down, exact_cell, exact_row, cells_read}
use Rattle.laws.proofs.GridLaws.{cell_at, length_cells, row_within}
use Rattle.laws.proofs.EsriLaws.{cell_read}
use Rattle.laws.proofs.AlikeLaws.{alike_length, radius_alike}
use Rattle.laws.proofs.FarOffLaws.{answers_alike}
use Rattle.refusal.specs.declared.Refusal.{Refusal}
use Rattle.refusal.proofs.Told.{numbered_same}
use Rattle.survey.specs.declared.Survey.{Survey}
use Rattle.history.specs.Runs.{Makes, Runs, more}
use Rattle.history.proofs.Runs.{leaves}
use Rattle.history.proofs.FarOff.{mended_alike, mended_spares}
use Rattle.grid_rules.specs.declared.Grid.{Grid}
use Rattle.grid_rules.specs.GridOf.{grid_of}
use Rattle.grid.specs.FilledAs.{filled_as}
use Rattle.grid.proofs.FilledLaws.{filled_laid}
use Rattle.grid.proofs.cells.Reads as Cells-of
use Rattle.grid.proofs.write.Reads as write-of
use Rattle.esri.proofs.write.Reads as text_of
use Rattle.grid_history.proofs.Files.{file_claimed}
use Rattle.grid_history.proofs.Texts.{text_claimed}

-- a cell of two grids over contents at the same locations, where it stands among all
module _ (q r : Contents) (alike : Alike q r) (g : Model-as-Grid) (c k : ℕ) (column : c < g.columns) (row : k < g.rows) (spared : Spared (settled q) (cell_location g c k) r) where
  cell_same : (d : ℤ) → get_or (cells (settled q) g) (g.columns * k + c) d ≡ get_or (cells (settled r) g) (g.columns * k + c) d
  cell_same d =
      cell_at (settled q) g c k d column row
      ∙ (answers_alike (settled q) (settled r) alike (radius_alike q r alike) (cell_location g c k) spared).computed
      ∙ sym (cell_at (settled r) g c k d column row)

told_same : (q r : Contents) → Alike q r → (g : Model-as-Grid) (n : ℕ) → filled_as (settled q) g n ≡ filled_as (settled r) g n
unfolding filled_as grid_refusal
told_same q r alike g n = rw (alike_length q r alike)

-- what lent cells hold of a grid that was filled
module _ (s : State) (g : Model-as-Grid) (d : List ℤ) where
  filled_at : (n : ℕ) → filled_as s g (length d) ≡ Ok n → (i : ℕ) (z : ℤ) → i < cell_count g → get_or (cells_into s g d) i z ≡ get_or (cells s g) i z
  filled_at n h i z k = rw (filled_laid s g d n h) (get_or-append (cells s g) (drop (length (cells s g)) d) z i (omega (arith, length_cells s g)))

module _ {cs ds : List Call} {s t : Survey} (one : Runs cs s) (other : Runs ds t) (alike : Alike (present cs) (present ds)) (g : Grid) where
  -- of `grid::cells`, lent cells of one number: what is told
  pub fillings_same : (κs κs' : Lfts 1) (out left out' left' : MutBor (List ℤ)) (a b : Result ℕ Refusal)
      → Cells-of.Post κs (s, (g, (out, tt))) a (s, (g, (left, tt))) → Cells-of.Post κs' (t, (g, (out', tt))) b (t, (g, (left', tt)))
      → length out.now ≡ length out'.now → a ≡ b
  fillings_same κs κs' out left out' left' a b h k e =
      numbered_same a b
      (rw (leaves one) at h.0 ∙ told_same (present cs) (present ds) alike (grid_of g) (length out.now)
      ∙ ap (filled_as (settled (present ds)) (grid_of g)) e ∙ sym (rw (leaves other) at k.0))

  module _ (c r : ℕ) (column : c < (grid_of g).columns) (row : r < (grid_of g).rows) (spared : Spared (settled (present cs)) (cell_location (grid_of g) c r) (present ds)) where
    abbrev index : ℕ
    index = (grid_of g).columns * r + c

    inside : index < cell_count (grid_of g)
    inside = omega (arith, row_within (grid_of g) r row)

    -- of `grid::cells`: the cell in what was lent
    pub cells_same : (κs κs' : Lfts 1) (out left out' left' : MutBor (List ℤ)) (n m : ℕ)
        → Cells-of.Post κs (s, (g, (out, tt))) (Ok n) (s, (g, (left, tt))) → Cells-of.Post κs' (t, (g, (out', tt))) (Ok m) (t, (g, (left', tt)))
        → (z : ℤ) → get_or left.now index z ≡ get_or left'.now index z
    cells_same κs κs' out left out' left' n m h k z =
        let u = rw (leaves one) at h in
        let v = rw (leaves other) at k in
        rw (u.1.0, v.1.0)
        (filled_at (settled (present cs)) (grid_of g) out.now n (sym u.0) index z inside
        ∙ cell_same (present cs) (present ds) alike (grid_of g) c r column row spared z
        ∙ sym (filled_at (settled (present ds)) (grid_of g) out'.now m (sym v.0) index z inside))

    -- of `grid::write`: the cell as it is read from the file
    pub files_same : (κs κs' : Lfts 1) (out left out' left' : MutBor (List ℕ)) (n m : ℕ) → TwoBytes (grid_of g)
        → write-of.Post κs (s, (g, (out, tt))) (Ok n) (s, (g, (left, tt))) → write-of.Post κs' (t, (g, (out', tt))) (Ok m) (t, (g, (left', tt)))
        → (z : ℤ) → get_or (cells_of_file (take n left.now)) index z ≡ get_or (cells_of_file (take m left'.now)) index z
    files_same κs κs' out left out' left' n m small h k z =
        let u = file_claimed one κs g out left (Ok n) h n refl small in
        let v = file_claimed other κs' g out' left' (Ok m) k m refl small in
        rw (u.cells, v.cells) (cell_same (present cs) (present ds) alike (grid_of g) c r column row spared z)

    -- of `esri::write`: the cell as it is read from the text, whose rows go down
    pub texts_same : (κs κs' : Lfts 1) (out left out' left' : MutBor (List ℕ)) (n m : ℕ)
        → text_of.Post κs (s, (g, (out, tt))) (Ok n) (s, (g, (left, tt))) → text_of.Post κs' (t, (g, (out', tt))) (Ok m) (t, (g, (left', tt)))
        → let line : ℕ = (grid_of g).rows - 1 - r in get_or (get_or (cells_read (take n left.now)) line []) c none ≡ get_or (get_or (cells_read (take m left'.now)) line []) c none
    texts_same κs κs' out left out' left' n m h k =
        let u = (text_claimed one κs g out left (Ok n) h).read n refl in
        let v = (text_claimed other κs' g out' left' (Ok m) k).read m refl in
        rw (u, v)
        (read_at (settled (present cs)) ∙ ap (λ (a : ℤ). some (exact_cell a)) (cell_same (present cs) (present ds) alike (grid_of g) c r column row spared (pos 0))
        ∙ sym (read_at (settled (present ds))))
      where
        read_at : (u : State) → get_or (get_or (map exact_row (rows_down (grid_of g).columns (cells u (grid_of g)) (grid_of g).rows)) ((grid_of g).rows - 1 - r) []) c none
            ≡ some (exact_cell (get_or (cells u (grid_of g)) index (pos 0)))
        read_at u = cell_read (grid_of g).columns (cells u (grid_of g)) (grid_of g).rows c r (pos 0) column row (length_cells u (grid_of g))

-- the value at (u, v) is mended, or the change refused: a cell at whose location that point is not chosen is the number that it was
pub cells_mended : {cs : List Call} {s t : Survey} (u v : ℕ) (z : ℤ) → Runs cs s → Makes (Change u v z) s t
    → (g : Grid) (c r : ℕ) → c < (grid_of g).columns → r < (grid_of g).rows → taken u v (choice (settled (present cs)) (cell_location (grid_of g) c r)).points ≡ false
    → (κs κs' : Lfts 1) (out left out' left' : MutBor (List ℤ)) (n m : ℕ)
    → Cells-of.Post κs (s, (g, (out, tt))) (Ok n) (s, (g, (left, tt))) → Cells-of.Post κs' (t, (g, (out', tt))) (Ok m) (t, (g, (left', tt)))
    → (d : ℤ) → get_or left.now ((grid_of g).columns * r + c) d ≡ get_or left'.now ((grid_of g).columns * r + c) d
cells_mended {cs} {s} {t} u v z h m g c r column row unchosen =
    cells_same h (more cs (Change u v z) s t h m) (mended_alike cs u v z) g c r column row (mended_spares cs u v z (cell_location (grid_of g) c r) unchosen)
