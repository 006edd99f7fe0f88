-- How much locations can enclose, in whatever order they stand: `enclosed-most`.
use Prim.Native.Nat.{ℕ, suc, ◌+◌, ◌*◌, ◌≤◌}
use mathlib.Core.Path.{refl}
use mathlib.Core.Logic.{inl, inr}
use mathlib.Core.Bool.{Bool, true, false, cond}
use mathlib.Core.List.{List, [], ◌∷◌}
use native.Mathlib.Omega.{arith}
use native.Mathlib.Nat.{mul-le-mul, mul-le-mul_right}
use lib.ListN.{length, drop, length-drop, length-reverse_aux}
use Rattle.model.specs.Lists.{Among}
use Rattle.model.specs.Point.{Location}
use Rattle.model.specs.Polygon.{trim, extend, turns_left, turns_right, lower, upper, polygon, shoelace_plus, enclosed}
use Rattle.laws.proofs.RingLaws.{corners_among}

module _ (f : Location → Location → Location → Bool) where
  length_trim : (p : Location) (s : List Location) → length (trim f s p) ≤ length s
  unfolding trim
  length_trim p [] = omega arith
  length_trim p (b ∷ []) = omega arith
  length_trim p (b ∷ a ∷ r) = go (f a b p) (length_trim p (a ∷ r))
    where
      go : (t : Bool) → length (trim f (a ∷ r) p) ≤ suc (length r) → length (cond t (b ∷ a ∷ r) (trim f (a ∷ r) p)) ≤ suc (suc (length r))
      go true h = omega arith
      go false h = omega arith

  length_extend : (l s : List Location) → length (extend f s l) ≤ length s + length l
  unfolding extend
  length_extend [] s = omega arith
  length_extend (p ∷ l) s = let h = length_extend l (p ∷ trim f s p) in let k = length_trim p s in omega arith

length_polygon : (l : List Location) → length (polygon l) ≤ 2 * length l
unfolding polygon lower upper
length_polygon l =
    let a = length-reverse_aux (drop 1 (lower l)) (upper l) in
    let b = length-drop 1 (lower l) in
    let c : length (lower l) ≤ 0 + length l = length_extend turns_left l [] in
    let d : length (upper l) ≤ 0 + length l = length_extend turns_right l [] in
    omega arith

plus_bound : (m : ℕ) (w : List Location) → ((q : Location) → Among q w → (q.x ≤ m) × (q.y ≤ m)) → shoelace_plus w ≤ length w * (m * m)
unfolding shoelace_plus
plus_bound m [] h = omega arith
plus_bound m (a ∷ []) h = omega arith
plus_bound m (a ∷ b ∷ l) h =
    let k : a.x * b.y ≤ m * m = mul-le-mul (h a (inl refl)).0 (h b (inr (inl refl))).1 in
    let ih : shoelace_plus (b ∷ l) ≤ length (b ∷ l) * (m * m) = plus_bound m (b ∷ l) (λ q n. h q (inr n)) in
    step (length l) (m * m) (a.x * b.y) (shoelace_plus (b ∷ l)) k ih
  where
    step : (n s u v : ℕ) → u ≤ s → v ≤ suc n * s → u + v ≤ suc (suc n) * s
    step n s u v g k = omega arith

-- of coordinates up to m
pub enclosed_most : (m : ℕ) (l : List Location) → ((q : Location) → Among q l → (q.x ≤ m) × (q.y ≤ m)) → enclosed l ≤ 2 * length l * (m * m)
unfolding enclosed
enclosed_most m l h =
    let k = plus_bound m (polygon l) (λ q n. h q (corners_among l q n)) in
    let n : length (polygon l) * (m * m) ≤ 2 * length l * (m * m) = mul-le-mul_right (m * m) (length_polygon l) in
    omega arith
