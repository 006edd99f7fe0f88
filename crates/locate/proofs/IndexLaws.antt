-- What the calls do to the points, by the index of the location.
use mathlib.Core.Path.{◌≡◌, refl, sym, ap, ◌∙◌}
use Prim.Native.Nat.{ℕ, suc, ◌<◌}
use native.Mathlib.Numerals.{add-one}
use native.Mathlib.Omega.{arith}
use mathlib.Core.Bool.{Bool, true, false, cond, not, ◌||◌}
use mathlib.Core.List.{List, [], ◌∷◌}
use lib.Dec.{ltb, leb-suc-suc}
use lib.IntN.{ℤ}
use lib.ListN.{length, set}
use borrow.Author.Tests.{lt-ltb, ltb-true}
use Rattle.model.specs.Point.{Point, point, at, precedes}
use Rattle.model.specs.Order.{insert}
use Rattle.model.specs.Calls.{taken, remove, revalue}
use Rattle.laws.proofs.Insertions.{put_in, cut_out}
use Rattle.locate.specs.Leading.{leading, elsewhere, not_after}

module _ (x y : ℕ) where
  pub taken_is : (l : List Point) → taken x y l ≡ ltb (leading (elsewhere x y) l) (length l)
  unfolding leading
  taken_is [] = refl
  taken_is (a ∷ l) = go (at x y a) (taken_is l)
    where
      go : (t : Bool) → taken x y l ≡ ltb (leading (elsewhere x y) l) (length l)
          → t || taken x y l ≡ ltb (cond (not t) (suc (leading (elsewhere x y) l)) 0) (suc (length l))
      go true ih = sym (lt-ltb 0 (suc (length l)) (omega arith))
      go false ih = ih ∙ sym (leb-suc-suc (suc (leading (elsewhere x y) l)) (length l))

  pub taken_below : (l : List Point) → taken x y l ≡ true → leading (elsewhere x y) l < length l
  taken_below l h = ltb-true (leading (elsewhere x y) l) (length l) (sym (taken_is l) ∙ h)

  pub remove_is : (l : List Point) → remove x y l ≡ cut_out (leading (elsewhere x y) l) l
  unfolding leading
  remove_is [] = refl
  remove_is (a ∷ l) = go (at x y a) (remove_is l)
    where
      go : (t : Bool) → remove x y l ≡ cut_out (leading (elsewhere x y) l) l
          → cond t l (a ∷ remove x y l) ≡ cut_out (cond (not t) (suc (leading (elsewhere x y) l)) 0) (a ∷ l)
      go true ih = refl
      go false ih = simp add-one (ap {B = List Point} (λ r. a ∷ r) (simp add-one at ih))

  pub revalue_is : (z : ℤ) (l : List Point) → revalue x y z l ≡ set l (leading (elsewhere x y) l) (point x y z)
  unfolding leading
  revalue_is z [] = refl
  revalue_is z (a ∷ l) = go (at x y a) (revalue_is z l)
    where
      go : (t : Bool) → revalue x y z l ≡ set l (leading (elsewhere x y) l) (point x y z)
          → cond t (point x y z ∷ l) (a ∷ revalue x y z l) ≡ set (a ∷ l) (cond (not t) (suc (leading (elsewhere x y) l)) 0) (point x y z)
      go true ih = refl
      go false ih = ap {B = List Point} (λ r. a ∷ r) ih

  pub insert_is : (z : ℤ) (l : List Point) → insert precedes (point x y z) l ≡ put_in (leading (not_after x y) l) (point x y z) l
  unfolding leading insert
  insert_is z [] = refl
  insert_is z (a ∷ l) = go (precedes (point x y z) a) (insert_is z l)
    where
      go : (t : Bool) → insert precedes (point x y z) l ≡ put_in (leading (not_after x y) l) (point x y z) l
          → cond t (point x y z ∷ a ∷ l) (a ∷ insert precedes (point x y z) l) ≡ put_in (cond (not t) (suc (leading (not_after x y) l)) 0) (point x y z) (a ∷ l)
      go true ih = refl
      go false ih = ap {B = List Point} (λ r. a ∷ r) ih
