-- What the equations of `esri::write` and the fact about its cells say of §2.
use mathlib.Core.Path.{◌≡◌, refl, sym, ◌∙◌}
use Prim.Native.Nat.{ℕ, ◌<◌}
use native.Mathlib.Omega.{arith}
use mathlib.Core.Bool.{Bool, true, false, cond}
use mathlib.Core.Logic.{◌↔◌}
use mathlib.Core.List.{List, [], ◌∷◌}
use lib.Dec.{ltb, eqb}
use lib.ListN.{length, take, drop}
use lib.Seq.{take-append_seam, drop_at}
use borrow.Author.Tests.{eqb-true, eq-eqb, ne_eqb}
use Rattle.std.specs.Prelude.{Result, Ok, Err}
use Rattle.model.specs.Lists.{laid}
use Rattle.model.specs.Point.{Contents, Point}
use Rattle.model.specs.Extent.{settled}
use Rattle.model.specs.Refusals.{enough}
use Rattle.model.specs.Grid.{Grid, proper}
use Rattle.model.specs.Esri.{esri_text, esri_refusal, esri_into}
use Rattle.laws.proofs.GridLaws.{proper_axes}
use Rattle.laws.proofs.EsriLaws.{cells_back}
use Rattle.laws.proofs.EsriChecks.{esri_passes}
use Rattle.refusal.specs.Numbered.{told}
use Rattle.refusal.proofs.Told.{told_refused, told_value}
use Rattle.grid_cells.specs.CellsRight.{WrittenRight}
use Rattle.grid_cells.proofs.Told.{right_written}
use Rattle.esri.specs.EsriWritten.{esri_written_as}
use Rattle.grid_history.specs.ClaimText.{ClaimText}

-- a list of no length
no_points : (l : List Point) → length l ≡ 0 → l ≡ []
no_points [] h = refl
no_points (p ∷ l) h = absurd (omega arith)

not_six : (m n : ℕ) → enough m n ≡ 6 → ⊥
not_six m n h = by_test (ltb m n) h
  where
    by_test : (t : Bool) → ◌≡◌ {A = ℕ} (cond t 8 0) 6 → ⊥
    by_test true e = absurd (omega arith)
    by_test false e = absurd (omega arith)

module _ (g : Grid) (q : Contents) (d : List ℕ) where
  abbrev size : ℕ
  size = length (esri_text (settled q) g)

  -- where the rules hold and the steps are alike, the points decide, and then the room
  six_exactly : proper g ≡ true → g.step_x ≡ g.step_y → (esri_refusal g (settled q) (length d) ≡ 6) ↔ (q.points ≡ [])
  unfolding esri_refusal
  six_exactly rules steps =
      (λ h. by_test (eqb (length q.points) 0) refl (rw (rules, eq-eqb g.step_x g.step_y steps) at h), λ h. rw (rules, eq-eqb g.step_x g.step_y steps, h))
    where
      by_test : (t : Bool) → eqb (length q.points) 0 ≡ t → cond t 6 (enough (length d) size) ≡ 6 → q.points ≡ []
      by_test true e h = no_points q.points (eqb-true (length q.points) 0 e)
      by_test false e h = absurd (not_six (length d) size h)

  -- from the contract of `esri::write`: its answer a, what it leaves in the lent bytes, and what holds of the cells
  module _ (a : Result ℕ ℕ) (d' : List ℕ) (e : a ≡ esri_written_as (settled q) g (length d)) (b : d' ≡ esri_into (settled q) g d) (right : WrittenRight (settled q) g a) where
    abbrev no : ℕ
    no = esri_refusal g (settled q) (length d)

    abbrev text : List ℕ
    text = esri_text (settled q) g

    told_so : a ≡ told no (length text)
    unfolding esri_written_as
    told_so = e

    six_told : (a ≡ Err 6) ↔ (no ≡ 6)
    six_told = (λ h. sym (told_refused no (length text) a told_so 6 h).0, λ h. told_so ∙ rw h)

    left : (n : ℕ) → a ≡ Err n → d' ≡ d
    unfolding esri_into
    left n h = let t = told_refused no (length text) a told_so n h in b ∙ rw (ne_eqb no 0 (λ z. t.1 (t.0 ∙ z)))

    module _ (n : ℕ) (h : a ≡ Ok n) where
      accepted : no ≡ 0
      accepted = (told_value no (length text) a told_so n h).0

      put : d' ≡ laid text d
      unfolding esri_into
      put = b ∙ rw (eq-eqb no 0 accepted)

      some_columns : 0 < g.columns
      unfolding esri_refusal
      some_columns = let p = (esri_passes g (settled q) (enough (length d) size) accepted).rules in omega (arith, (proper_axes g p).0.some)

      front : take n d' ≡ text
      front = rw (put, (told_value no (length text) a told_so n h).1) (take-append_seam text (drop (length text) d))

      behind : drop n d' ≡ drop n d
      behind = rw (put, (told_value no (length text) a told_so n h).1) (drop_at text (drop (length text) d) (length text) refl)

    pub claim_text : ClaimText g q d a d'
    claim_text =
        record {
          six = λ rules steps. let w = six_exactly rules steps in (λ h. w.0 (six_told.0 h), λ h. six_told.1 (w.1 h));
          refused = left;
          read = λ n h. rw (front n h) (cells_back (settled q) g (some_columns n h));
          behind = behind;
          right = λ n h. right_written (settled q) g n a h right;
        }
