-- How a run ends: with the text of a refusal, or with what was written.
use mathlib.Core.Path.{◌≡◌, ◌∙◌}
use Prim.Native.Nat.{ℕ}
use mathlib.Core.List.{List}
use lib.ListN.{length}
use borrow.Author.Tests.{eq-eqb}
use Rattle.model.specs.Lists.{laid}
use Rattle.model.specs.Point.{State}
use Rattle.model.specs.Refusals.{or_else, afterwards}
use Rattle.model.specs.Grid.{Grid}
use Rattle.model.specs.GridFile.{grid_in}
use Rattle.model.specs.Program.{state_in, input_refusal, refused_text, put_out}
use Rattle.laws.proofs.ProgramLaws.{or_first, or_then, refused_output, accepted_output}
use Rattle.std.specs.Prelude.{Result, Ok, Err}
use Rattle.refusal.specs.Numbered.{told}
use Rattle.refusal.proofs.Told.{told_refused, told_value}
use Rattle.survey_file.proofs.Told.{told_front}
use Rattle.grid_cells.specs.CellsRight.{WrittenRight}
use Rattle.grid_cells.proofs.Told.{right_written}
use Rattle.grid_io.specs.declared.Output.{Output}
use Rattle.grid_io.specs.Output.{Puts, RunsAs}

-- what is put out, by the answer of the call that writes
module _ (no : ℕ) (text was : List ℕ) (a : Result ℕ ℕ) (e : a ≡ told no (length text)) (k : ℕ) (r : Output) where
  pub puts_written : a ≡ Ok k → r.bytes ≡ afterwards no (laid text was) was → r.length ≡ k → Puts (put_out no text) r
  puts_written h bytes size =
      let front = told_front no text a e k h was in
      rw (accepted_output no text (told_value no (length text) a e k h).0) (record { front = rw (size, bytes) front.0; room = rw (size, bytes) front.1 })

  pub puts_refusal : a ≡ Err k → Puts (refused_text k) r → Puts (put_out no text) r
  puts_refusal h p =
      let t = told_refused no (length text) a e k h in
      rw (refused_output no text (λ z. t.1 (t.0 ∙ z)), ← t.0) p

-- a program that puts out a text of a state and a grid, or why there is none: as its input is refused, and then as `check` says
module _ (f : List ℕ) (check : State → Grid → ℕ) (text : State → Grid → List ℕ) (r : Output) where
  abbrev number : ℕ
  number = check (state_in f) (grid_in f)

  abbrev whole : List ℕ
  whole = text (state_in f) (grid_in f)

  abbrev Ends : Type 0
  Ends = RunsAs (put_out (or_else (input_refusal f) number) whole) (or_else (input_refusal f) number) f r

  pub input_refused : (n : ℕ) → n ≡ input_refusal f → (n ≡ 0 → ⊥) → Puts (refused_text n) r → Ends
  input_refused n e h p =
      let z : input_refusal f ≡ 0 → ⊥ = λ k. h (e ∙ k) in
      rw (or_first (input_refusal f) number z, refused_output (input_refusal f) whole z, ← e) (record { output = p; right = λ k. absurd (h k) })

  pub input_accepted : input_refusal f ≡ 0 → (s : State) → s ≡ state_in f → (g : Grid) → g ≡ grid_in f
      → Puts (put_out (check s g) (text s g)) r → (a : Result ℕ ℕ) → a ≡ told (check s g) (length (text s g)) → WrittenRight s g a → Ends
  input_accepted e s state g six p a t right =
      let told_so = rw (state, six) at t in
      let right_so = rw (state, six) at right in
      rw (or_then (input_refusal f) number e)
      (record { output = rw (state, six) at p; right = λ z. right_written (state_in f) (grid_in f) (length whole) a (told_so ∙ rw (eq-eqb number 0 z)) right_so })
