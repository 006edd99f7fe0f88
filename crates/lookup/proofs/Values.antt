-- Values: the least of the first i, and one more taken in.
use mathlib.Core.Path.{◌≡◌, refl, sym, ap, ap₂, ◌∙◌}
use Prim.Native.Nat.{ℕ, ◌+◌, ◌-◌, ◌≤◌, ◌<◌}
use native.Mathlib.Nat.{not-suc-le-zero}
use native.Mathlib.Numerals.{add-one}
use native.Mathlib.Omega.{arith}
use mathlib.Core.Bool.{Bool, true, false, cond}
use mathlib.Core.List.{List, [], ◌∷◌, map, map-append}
use lib.Dec.{leb, ltb}
use lib.IntN.{ℤ, pos, negsuc}
use lib.ListN.{length, take, drop, get_or, length-map, length-take}
use lib.Seq.{take-suc, get_or-take}
use borrow.Author.Tests.{leb-true, leb-false, lt-ltb, le-ltb}
use Rattle.std.specs.Int.{int_min}
use Rattle.std.proofs.lemmas.List.{get_or-drop, length-drop}
use Rattle.model.specs.Extent.{values_by, lesser}
use Rattle.laws.proofs.ValueLaws.{values_last}
use Rattle.neighbours.specs.declared.Neighbour.{Neighbour}
use Rattle.weights.specs.Seen.{no_neighbour, point_of}

pub least_first : (l : List Neighbour) → 0 < length l → (get_or l 0 no_neighbour).z ≡ values_by lesser (map point_of (take 1 l))
unfolding values_by
least_first [] h = absurd (not-suc-le-zero h)
least_first (a ∷ l) h = refl

pub least_more : (l : List Neighbour) (i : ℕ) → 1 ≤ i → i < length l
    → values_by lesser (map point_of (take (i + 1) l)) ≡ lesser (values_by lesser (map point_of (take i l))) (get_or l i no_neighbour).z
least_more l i h g =
    let n : 0 < length (map point_of (take i l)) = simp (length-map, length-take) (omega arith) in
    rw (add-one i, take-suc l i no_neighbour g, map-append point_of (take i l) (get_or l i no_neighbour ∷ [])) (values_last lesser (map point_of (take i l)) (point_of (get_or l i no_neighbour)) n)

-- the lesser of two as std works it out
flipped : (m n : ℕ) (x y : ℤ) → cond (ltb n m) y x ≡ cond (leb m n) x y
flipped m n x y = go (leb m n) refl
  where
    go : (t : Bool) → leb m n ≡ t → cond (ltb n m) y x ≡ cond t x y
    go true e = rw (le-ltb n m (leb-true m n e))
    go false e = rw (lt-ltb n m (leb-false m n e))

min_lesser : (a b : ℤ) → int_min a b ≡ lesser a b
min_lesser (pos m) (pos n) = flipped m n (pos m) (pos n)
min_lesser (pos m) (negsuc n) = refl
min_lesser (negsuc m) (pos n) = refl
min_lesser (negsuc m) (negsuc n) = flipped n m (negsuc m) (negsuc n)

-- the first n but the first one
module _ (l : List Neighbour) (n i : ℕ) (h : i < length (take (n - 1) (drop 1 l))) where
  rest_within : i + 1 < length l
  rest_within = omega (arith, length-take (n - 1) (drop 1 l), length-drop 1 l)

  rest_at : get_or (take (n - 1) (drop 1 l)) i no_neighbour ≡ get_or l (i + 1) no_neighbour
  rest_at =
      let k : i < n - 1 = omega (arith, length-take (n - 1) (drop 1 l)) in
      let e : 1 + i ≡ i + 1 = omega arith in
      get_or-take (n - 1) (drop 1 l) i no_neighbour k ∙ get_or-drop 1 l i no_neighbour ∙ ap (λ (j : ℕ). get_or l j no_neighbour) e

  pub least_further : (least : ℤ) → least ≡ values_by lesser (map point_of (take (i + 1) l))
      → int_min least (get_or (take (n - 1) (drop 1 l)) i no_neighbour).z ≡ values_by lesser (map point_of (take (i + 1 + 1) l))
  least_further least e =
      min_lesser least (get_or (take (n - 1) (drop 1 l)) i no_neighbour).z
      ∙ ap₂ (λ (v : ℤ) (a : Neighbour). lesser v a.z) e rest_at
      ∙ sym (least_more l (i + 1) (omega arith) rest_within)
