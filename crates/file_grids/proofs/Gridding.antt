-- What comes of writing a grid, whichever bytes it is written as.
use mathlib.Core.Path.{◌≡◌, refl, sym, ◌∙◌}
use Prim.Native.Nat.{ℕ}
use mathlib.Core.List.{List}
use lib.ListN.{length}
use borrow.Author.Tests.{eq-eqb, ne_eqb}
use Rattle.std.specs.Prelude.{Result, Ok}
use Rattle.model.specs.Lists.{laid}
use Rattle.model.specs.Point.{State}
use Rattle.model.specs.Refusals.{afterwards}
use Rattle.model.specs.SurveyFile.{file_refusal}
use Rattle.model.specs.Grid.{Grid}
use Rattle.model.specs.Program.{state_in}
use Rattle.refusal.specs.Numbered.{told}
use Rattle.survey.specs.declared.Survey.{Survey}
use Rattle.survey.specs.StateOf.{state_of}
use Rattle.grid_cells.specs.CellsRight.{CellsRight, WrittenRight}
use Rattle.file_access.specs.Access.{Reads, LengthTold}
use Rattle.file_grids.specs.WritesGrid.{WritesCells}
use Rattle.file_access.proofs.FileLaws.{refused_file, accepted_file, told_written}

-- what a call that writes answers and leaves, as it is told
grid_told : (s : State) (g : Grid) (n : ℕ) (text d : List ℕ) (k : ℕ) (w : Result ℕ ℕ) (d' : List ℕ) (m k' : ℕ)
    → w ≡ told n (length text) → d' ≡ afterwards n (laid text d) d → WrittenRight s g w → LengthTold w k m k'
    → (m ≡ n) × (d' ≡ afterwards m (laid text d) d) × (k' ≡ afterwards m (length text) k) × (m ≡ 0 → CellsRight s g)
unfolding WrittenRight
grid_told s g n text d k w d' m k' e b right t =
    let o = told_written n (length text) k m k' (rw e at t) in
    (o.0, rw o.0 b, o.1, λ h. rw (e, ← o.0, eq-eqb m 0 h) at right)

module _ (f : List ℕ) (g : Grid) (d : List ℕ) (k : ℕ) where
  pub none_written : (e : ℕ) → e ≡ file_refusal f → (e ≡ 0 → ⊥) → (n : ℕ) (text : List ℕ) → WritesCells f g n text d k e d k
  none_written e q h n text =
      let z = ne_eqb e 0 h in
      record { number = refused_file f e q h n; bytes = rw z refl; length = rw z refl; right = λ v. absurd (h v) }

  -- n and text are the number and the bytes of any state and grid
  pub cells_written : (s : Survey) → Reads f (Ok s) → (n : State → Grid → ℕ) (text : State → Grid → List ℕ) → (h : Grid) → h ≡ g → (w : Result ℕ ℕ) (d' : List ℕ) (m k' : ℕ)
      → w ≡ told (n (state_of s) h) (length (text (state_of s) h)) → d' ≡ afterwards (n (state_of s) h) (laid (text (state_of s) h) d) d → WrittenRight (state_of s) h w → LengthTold w k m k'
      → WritesCells f g (n (state_in f) g) (text (state_in f) g) d k m d' k'
  cells_written s reads n text h same w d' m k' e b right t =
      let o = rw same at (grid_told (state_of s) h (n (state_of s) h) (text (state_of s) h) d k w d' m k' e b right t) in
      let state = reads.state in record {
        number = rw state at o.0 ∙ sym (accepted_file f s reads (n (state_in f) g));
        bytes = rw state at o.1;
        length = rw state at o.2;
        right = λ q. rw state at (o.3 q);
      }
