-- Points put into arrays, taken out of them and written over: what is done to the three arrays is done to the points.
use mathlib.Core.Path.{◌≡◌, refl, sym, ap, ◌∙◌}
use Prim.Native.Nat.{ℕ, zero, suc, ◌+◌, ◌-◌, ◌≤◌, ◌<◌, min}
use native.Mathlib.Numerals.{add-one}
use native.Mathlib.Omega.{arith}
use mathlib.Core.List.{List, map}
use lib.IntN.{ℤ, pos}
use lib.ListN.{length, take, get_or, set}
use lib.Seq.{get_or-take, set-get_or}
use Rattle.model.specs.Point.{point}
use Rattle.laws.proofs.ListLaws.{tabulate_same}
use Rattle.laws.proofs.MapLaws.{map_set}
use Rattle.laws.proofs.Insertions.{put_in, cut_out, shifted, get_or_put, tabulate_put, cut_put, put_cut, map_put, map_cut}
use Rattle.point_arrays.specs.PointArrays.{held, wrapped, points_in, AsHeld}
use Rattle.point_arrays.proofs.HeldLaws.{length_held, wrapped_one}
use Rattle.point_arrays.proofs.ReadLaws.{length_points}

-- three arrays of 256 elements each
pub record Sized (xs ys : List ℕ) (zs : List ℤ) : Type 0 where
  pub x : length xs ≡ 256
  pub y : length ys ≡ 256
  pub z : length zs ≡ 256

shifted_point : (i k x y : ℕ) (z : ℤ) (f g : ℕ → ℕ) (h : ℕ → ℤ)
    → point (shifted i x f k) (shifted i y g k) (shifted i z h k) ≡ shifted i (point x y z) (λ j. point (f j) (g j) (h j)) k
shifted_point zero zero x y z f g h = refl
shifted_point zero (suc k) x y z f g h = refl
shifted_point (suc i) zero x y z f g h = refl
shifted_point (suc i) (suc k) x y z f g h = shifted_point i k x y z (λ j. f (suc j)) (λ j. g (suc j)) (λ j. h (suc j))

module _ (xs ys : List ℕ) (zs : List ℤ) where
  -- the first n points are those of the first k elements
  held_take : (k n : ℕ) → n ≤ k → held (take k xs) (take k ys) (take k zs) n ≡ held xs ys zs n
  unfolding held
  held_take k n h = tabulate_same _ _ n (λ i l. let g : i < k = omega arith in rw (get_or-take k xs i 0 g, get_or-take k ys i 0 g, get_or-take k zs i (pos 0) g))

  held_put : (n i x y : ℕ) (z : ℤ) → i ≤ length xs → i ≤ length ys → i ≤ length zs → i ≤ n
      → held (put_in i x xs) (put_in i y ys) (put_in i z zs) (suc n) ≡ put_in i (point x y z) (held xs ys zs n)
  unfolding held
  held_put n i x y z a b c h =
      tabulate_same _ _ (suc n) (λ k l. rw (get_or_put i k x 0 xs, get_or_put i k y 0 ys, get_or_put i k z (pos 0) zs) (shifted_point i k x y z _ _ _))
      ∙ tabulate_put i n (point x y z) _ h

module _ (xs ys : List ℕ) (zs : List ℤ) (e : Sized xs ys zs) (i n : ℕ) (l : i < 256) (h : i < n) where
  -- a point written over is one put in where the old one was taken out
  held_put_cut : (x y : ℕ) (z : ℤ)
      → held (set xs i x) (set ys i y) (set zs i z) n ≡ put_in i (point x y z) (held (cut_out i xs) (cut_out i ys) (cut_out i zs) (n - 1))
  held_put_cut x y z =
      let k : suc (n - 1) ≡ n = omega arith in
      let p = put_cut i x xs (omega arith) in
      let q = put_cut i y ys (omega arith) in
      let r = put_cut i z zs (omega arith) in
      rw (p.0, q.0, r.0, k) at (held_put (cut_out i xs) (cut_out i ys) (cut_out i zs) (n - 1) i x y z p.1 q.1 r.1 (omega arith))

  held_cut : held (cut_out i xs) (cut_out i ys) (cut_out i zs) (n - 1) ≡ cut_out i (held xs ys zs n)
  held_cut =
      let rest = held (cut_out i xs) (cut_out i ys) (cut_out i zs) (n - 1) in
      let g = held_put_cut (get_or xs i 0) (get_or ys i 0) (get_or zs i (pos 0)) in
      sym (cut_put i _ rest (omega (arith, length_held (cut_out i xs) (cut_out i ys) (cut_out i zs) (n - 1))))
      ∙ ap (cut_out i) (sym (rw (set-get_or xs i 0, set-get_or ys i 0, set-get_or zs i (pos 0)) at g))

  held_over : (x y : ℕ) (z : ℤ) → held (set xs i x) (set ys i y) (set zs i z) n ≡ set (held xs ys zs n) i (point x y z)
  held_over x y z =
      held_put_cut x y z ∙ ap (put_in i (point x y z)) held_cut ∙ (put_cut i (point x y z) (held xs ys zs n) (omega (arith, length_held xs ys zs n))).0

points_are : (xs ys : List ℕ) (zs : List ℤ) (n m : ℕ) → min n 256 ≡ m → points_in xs ys zs n ≡ map wrapped (held xs ys zs m)
unfolding points_in
points_are xs ys zs n m e = rw e

module _ (xs ys : List ℕ) (zs : List ℤ) (n : ℕ) (e : Sized xs ys zs) where
  -- a point put in
  pub points_put : (i x y : ℕ) (z : ℤ) (xs' ys' : List ℕ) (zs' : List ℤ) → i ≤ n → n < 256 → x < 4096 → y < 4096
      → xs' ≡ take 256 (put_in i x xs) → ys' ≡ take 256 (put_in i y ys) → zs' ≡ take 256 (put_in i z zs)
      → (points_in xs' ys' zs' (n + 1) ≡ put_in i (point x y z) (points_in xs ys zs n)) × (AsHeld xs ys zs n → AsHeld xs' ys' zs' (n + 1))
  points_put i x y z xs' ys' zs' l m hx hy ex ey ez = (read, λ a. read ∙ ap (put_in i (point x y z)) a ∙ sym stored)
    where
      stored : held xs' ys' zs' (n + 1) ≡ put_in i (point x y z) (held xs ys zs n)
      stored =
          rw (ex, ey, ez, held_take (put_in i x xs) (put_in i y ys) (put_in i z zs) 256 (n + 1) (omega arith), add-one)
          (held_put xs ys zs n i x y z (omega arith) (omega arith) (omega arith) l)

      read : points_in xs' ys' zs' (n + 1) ≡ put_in i (point x y z) (points_in xs ys zs n)
      read =
          rw (points_are xs' ys' zs' (n + 1) (n + 1) (omega arith), points_are xs ys zs n n (omega arith), stored, map_put, wrapped_one (point x y z))

  -- a point taken out
  pub points_cut : (i : ℕ) (xs' ys' : List ℕ) (zs' : List ℤ) → i < min n 256
      → take 255 xs' ≡ take 255 (cut_out i xs) → take 255 ys' ≡ take 255 (cut_out i ys) → take 255 zs' ≡ take 255 (cut_out i zs)
      → (points_in xs' ys' zs' (min n 256 - 1) ≡ cut_out i (points_in xs ys zs n)) × (AsHeld xs ys zs n → AsHeld xs' ys' zs' (min n 256 - 1))
  points_cut i xs' ys' zs' l ex ey ez = (read, λ a. read ∙ ap (cut_out i) (a ∙ ap (held xs ys zs) (counted a)) ∙ sym stored)
    where
      stored : held xs' ys' zs' (min n 256 - 1) ≡ cut_out i (held xs ys zs (min n 256))
      stored =
          sym (held_take xs' ys' zs' 255 (min n 256 - 1) (omega arith))
          ∙ rw (ex, ey, ez, held_take (cut_out i xs) (cut_out i ys) (cut_out i zs) 255 (min n 256 - 1) (omega arith))
          (held_cut xs ys zs e i (min n 256) (omega arith) l)

      read : points_in xs' ys' zs' (min n 256 - 1) ≡ cut_out i (points_in xs ys zs n)
      read =
          rw (points_are xs' ys' zs' (min n 256 - 1) (min n 256 - 1) (omega arith), points_are xs ys zs n (min n 256) refl, stored, map_cut)

      counted : AsHeld xs ys zs n → n ≡ min n 256
      counted a = sym (length_held xs ys zs n) ∙ ap length (sym a) ∙ length_points xs ys zs n

  -- a point written over
  pub points_over : (i x y : ℕ) (z : ℤ) → i < min n 256 → x < 4096 → y < 4096
      → (points_in (set xs i x) (set ys i y) (set zs i z) n ≡ set (points_in xs ys zs n) i (point x y z))
      × (AsHeld xs ys zs n → AsHeld (set xs i x) (set ys i y) (set zs i z) n)
  points_over i x y z l hx hy = (read, λ a. read ∙ ap (λ t. set t i (point x y z)) a ∙ sym (stored n (omega arith)))
    where
      stored : (m : ℕ) → i < m → held (set xs i x) (set ys i y) (set zs i z) m ≡ set (held xs ys zs m) i (point x y z)
      stored m h = held_over xs ys zs e i m (omega arith) h x y z

      read : points_in (set xs i x) (set ys i y) (set zs i z) n ≡ set (points_in xs ys zs n) i (point x y z)
      read =
          rw (points_are (set xs i x) (set ys i y) (set zs i z) n (min n 256) refl, points_are xs ys zs n (min n 256) refl)
          (rw (stored (min n 256) l, map_set, wrapped_one (point x y z)))
