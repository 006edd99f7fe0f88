-- 7, 6 and 8 in their order, and 7, 16 and 6.
use mathlib.Core.Path.{◌≡◌, refl}
use Prim.Native.Nat.{ℕ}
use mathlib.Core.Bool.{Bool, true, false, cond}
use lib.Dec.{eqb}
use lib.ListN.{length}
use Rattle.model.specs.Point.{State}
use Rattle.model.specs.Refusals.{or_else}
use Rattle.model.specs.Grid.{Grid, proper, grid_check}
use Rattle.model.specs.Esri.{esri_check}

pub in_order : (g : Grid) (s : State) (n : ℕ) → or_else (or_else (cond (proper g) 0 7) (cond (eqb (length s.contents.points) 0) 6 0)) n ≡ grid_check g s n
in_order g s n = by_rules (proper g) (eqb (length s.contents.points) 0)
  where
    by_rules : (t u : Bool) → or_else (or_else (cond t 0 7) (cond u 6 0)) n ≡ cond t (cond u 6 n) 7
    by_rules true true = refl
    by_rules true false = refl
    by_rules false u = refl

pub in_esri_order : (g : Grid) (s : State)
    → or_else (or_else (cond (proper g) 0 7) (cond (eqb g.step_x g.step_y) 0 16)) (cond (eqb (length s.contents.points) 0) 6 0) ≡ esri_check g s 0
in_esri_order g s = by_rules (proper g) (eqb g.step_x g.step_y) (cond (eqb (length s.contents.points) 0) 6 0)
  where
    by_rules : (t u : Bool) (n : ℕ) → or_else (or_else (cond t 0 7) (cond u 0 16)) n ≡ cond t (cond u n 16) 7
    by_rules true true n = refl
    by_rules true false n = refl
    by_rules false u n = refl
