-- Squared distances of the points that arrays hold, one more at a time.
use mathlib.Core.Path.{◌≡◌, refl, sym, ap, ◌∙◌}
use Prim.Native.Nat.{ℕ, ◌+◌, ◌%◌, ◌<◌, min}
use native.Mathlib.Numerals.{add-one}
use mathlib.Core.List.{List, [], ◌∷◌, map, map-append}
use lib.IntN.{ℤ}
use lib.ListN.{length, take, get_or, set}
use lib.Seq.{take-suc-set, take-length}
use Rattle.model.specs.Lists.{tabulate}
use Rattle.model.specs.Point.{Location, Point, State}
use Rattle.model.specs.Distance.{squared}
use Rattle.laws.proofs.ListLaws.{tabulate_more}
use Rattle.point_arrays.specs.PointArrays.{held, wrapped, points_in, HoldsPoints}
use Rattle.metric.specs.declared.Viewpoint.{Viewpoint}
use Rattle.metric.specs.From.{Sees, squared_from}
use Rattle.metric.proofs.FromLaws.{squared_seen}
use Rattle.squares.specs.Squares.{HoldsSquares}

module _ (xs ys : List ℕ) (v : Viewpoint) where
  -- d² of a point
  abbrev square_of : Point → ℕ
  square_of a = squared_from v a.x a.y

  -- the first i of a list are the squared distances of the points at the first i indices, whatever their values are
  abbrev pub Filled : ℕ → List ℕ → Type 0
  Filled i l = (zs : List ℤ) → take i l ≡ map square_of (map wrapped (held xs ys zs i))

  pub filled_none : (l : List ℕ) → Filled 0 l
  unfolding held tabulate
  filled_none l zs = refl

  pub filled_more : (i d : ℕ) (l : List ℕ) → i < length l → Filled i l → d ≡ squared_from v (get_or xs i 0 % 4096) (get_or ys i 0 % 4096) → Filled (i + 1) (set l i d)
  unfolding held
  filled_more i d l h was e zs = rw (tabulate_more, map-append, map-append, add-one, take-suc-set l i d h, was zs, e)

  seen_all : (s : State) (p : Location) → Sees s p v → (l : List Point) → map square_of l ≡ map (squared s p) l
  seen_all s p h [] = refl
  seen_all s p h (a ∷ l) = rw (squared_seen s p v h a, seen_all s p h l)

  pub filled_all : (s : State) (p : Location) (zs : List ℤ) (n : ℕ) (l : List ℕ) → HoldsPoints s xs ys zs n → Sees s p v → length l ≡ min n 256
      → Filled (length l) l → HoldsSquares s p l
  unfolding points_in
  filled_all s p zs n l e h k was =
      sym (take-length l) ∙ was zs ∙ seen_all s p h (map wrapped (held xs ys zs (length l))) ∙ ap (map (squared s p)) (ap (λ (m : ℕ). map wrapped (held xs ys zs m)) k ∙ sym e)
