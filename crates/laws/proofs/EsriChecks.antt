-- What 7, 16 and 6 let pass of an Esri ASCII grid, and what decides then.
use mathlib.Core.Path.{◌≡◌, refl}
use Prim.Native.Nat.{ℕ, ◌≤◌, ◌<◌}
use native.Mathlib.Omega.{arith}
use mathlib.Core.Bool.{Bool, true, false, cond}
use lib.Dec.{eqb}
use lib.ListN.{length}
use borrow.Author.Tests.{eqb-true, eqb-false, le-ltb}
use Rattle.model.specs.Point.{State}
use Rattle.model.specs.Refusals.{enough}
use Rattle.model.specs.Grid.{Grid, proper}
use Rattle.model.specs.Esri.{esri_text, esri_check, esri_refusal}

-- the order of the three numbers, by their tests, and what follows them
abbrev in_order : Bool → Bool → Bool → ℕ → ℕ
in_order rules alike none n = cond rules (cond alike (cond none 6 n) 16) 7

module _ (g : Grid) (s : State) where
  abbrev alike : Bool
  alike = eqb g.step_x g.step_y

  abbrev none : Bool
  none = eqb (length s.contents.points) 0

  -- one of the three, whatever follows
  pub esri_stops : (n : ℕ) → (esri_check g s 0 ≡ 0 → ⊥) → esri_check g s n ≡ esri_check g s 0
  esri_stops n h = by_tests (proper g) alike none h
    where
      by_tests : (t u v : Bool) → (in_order t u v 0 ≡ 0 → ⊥) → in_order t u v n ≡ in_order t u v 0
      by_tests true true true h = refl
      by_tests true true false h = absurd (h refl)
      by_tests true false v h = refl
      by_tests false u v h = refl

  -- none of them
  pub record Passed : Type 0 where
    pub rules : proper g ≡ true
    pub steps : g.step_x ≡ g.step_y
    pub some : 0 < length s.contents.points
    pub then : (n : ℕ) → esri_check g s n ≡ n

  pub esri_passes : (n : ℕ) → esri_check g s n ≡ 0 → Passed
  esri_passes n h = by_tests (proper g) alike none refl refl refl h
    where
      by_tests : (t u v : Bool) → proper g ≡ t → alike ≡ u → none ≡ v → in_order t u v n ≡ 0 → Passed
      by_tests true true false e f k h =
          record { rules = e; steps = eqb-true g.step_x g.step_y f; some = omega (arith, eqb-false (length s.contents.points) 0 k); then = λ m. rw (e, f, k) }
      by_tests true true true e f k h = absurd (omega arith)
      by_tests true false v e f k h = absurd (omega arith)
      by_tests false u v e f k h = absurd (omega arith)

  -- where there is room for the text, 8 does not come
  pub esri_room : (n : ℕ) → (esri_check g s 0 ≡ 0 → length (esri_text s g) ≤ n) → esri_refusal g s n ≡ esri_check g s 0
  unfolding esri_refusal
  esri_room n h = by_tests (proper g) alike none h
    where
      size : ℕ
      size = length (esri_text s g)

      by_tests : (t u v : Bool) → (in_order t u v 0 ≡ 0 → size ≤ n) → in_order t u v (enough n size) ≡ in_order t u v 0
      by_tests true true true h = refl
      by_tests true true false h = rw (le-ltb n size (h refl))
      by_tests true false v h = refl
      by_tests false u v h = refl
