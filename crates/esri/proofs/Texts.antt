-- What writing an Esri ASCII grid answers and leaves: where 7, 16 or 6 refuses it, and where the text's length decides.
use mathlib.Core.Path.{◌≡◌, refl, ◌∙◌}
use Prim.Native.Nat.{ℕ, ◌≤◌, ◌<◌}
use mathlib.Core.List.{List, ◌++◌}
use lib.ListN.{length, drop}
use borrow.Author.Tests.{lt-ltb, le-ltb, ne_eqb}
use Rattle.std.specs.Prelude.{Result, Ok, Err}
use Rattle.model.specs.Point.{State}
use Rattle.model.specs.Refusals.{enough}
use Rattle.model.specs.Grid.{Grid}
use Rattle.model.specs.Esri.{esri_text, esri_check, esri_refusal, esri_into}
use Rattle.laws.proofs.EsriChecks.{esri_stops, esri_passes}
use Rattle.grid_cells.specs.CellsRight.{CellsRight, WrittenRight}
use Rattle.grid_cells.proofs.Told.{all_right}
use Rattle.esri.specs.EsriWritten.{TextPut, esri_written_as, TextFits}

-- a text of n bytes that does not fit the lent ones, and one that does
module _ (text d : List ℕ) (n : ℕ) (size : n ≡ length text) (few : n ≤ 57434) where
  pub text_short : length d < n → TextPut text d (Err 8) d
  text_short h = let t = lt-ltb (length d) (length text) (rw size at h) in record { answer = rw t; bytes = rw t; fits = rw size at few }

  pub text_put : n ≤ length d → TextPut text d (Ok n) (text ++ drop n d)
  text_put h = let t = le-ltb (length d) (length text) (rw size at h) in record { answer = rw (t, size); bytes = rw (t, size); fits = rw size at few }

module _ (s : State) (g : Grid) (d : List ℕ) where
  -- what the contract of `write` says of the answer a, where d is d' after it
  abbrev pub Writes : Result ℕ ℕ → List ℕ → Type 0
  Writes a d' = (a ≡ esri_written_as s g (length d)) × ((d' ≡ esri_into s g d) × (WrittenRight s g a × TextFits s g))

  pub text_refused : (n : ℕ) → n ≡ esri_check g s 0 → (n ≡ 0 → ⊥) → Writes (Err n) d
  unfolding esri_written_as esri_into esri_refusal WrittenRight
  text_refused n e h =
      let stops = esri_stops g s (enough (length d) (length (esri_text s g))) (λ z. h (e ∙ z)) in
      rw (stops, ← e, ne_eqb n 0 h) (refl, (refl, (tt, λ z. absurd (h z))))

  pub text_decides : esri_check g s 0 ≡ 0 → CellsRight s g → (a : Result ℕ ℕ) (d' : List ℕ) → TextPut (esri_text s g) d a d' → Writes a d'
  unfolding esri_written_as esri_into esri_refusal
  text_decides e right a d' p =
      rw ((esri_passes g s 0 e).then (enough (length d) (length (esri_text s g)))) (p.answer, (p.bytes, (all_right s g right a, λ _. p.fits)))
