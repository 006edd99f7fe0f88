-- Laws of the points that arrays hold: how many there are, one more stored behind them, and that those in the domain are read as they stand.
use mathlib.Core.Path.{◌≡◌, refl}
use Prim.Native.Nat.{ℕ, ◌+◌, ◌%◌, ◌<◌}
use native.Mathlib.Nat.{lt_irrefl}
use native.Mathlib.Omega.{arith}
use mathlib.Core.List.{List, [], ◌∷◌, ◌++◌, map}
use lib.IntN.{ℤ, pos}
use lib.ListN.{length, get_or, set}
use lib.Seq.{get_or-set_same, get_or-set_other}
use Rattle.model.specs.Lists.{All}
use Rattle.model.specs.Point.{Point, point}
use Rattle.laws.proofs.ListLaws.{tabulate_same, tabulate_more, length_tabulate}
use Rattle.point_arrays.specs.PointArrays.{held, wrapped}

pub length_held : (xs ys : List ℕ) (zs : List ℤ) (n : ℕ) → length (held xs ys zs n) ≡ n
unfolding held
length_held xs ys zs n = length_tabulate (λ i. point (get_or xs i 0) (get_or ys i 0) (get_or zs i (pos 0))) n

-- a point stored behind the first i
pub held_set : (xs ys : List ℕ) (zs : List ℤ) (i x y : ℕ) (z : ℤ) → i < length xs → i < length ys → i < length zs
    → held (set xs i x) (set ys i y) (set zs i z) (i + 1) ≡ held xs ys zs i ++ (point x y z ∷ [])
unfolding held
held_set xs ys zs i x y z a b c =
    rw (
      tabulate_more,
      get_or-set_same xs i x 0 a,
      get_or-set_same ys i y 0 b,
      get_or-set_same zs i z (pos 0) c,
      tabulate_same
          (λ k. point (get_or (set xs i x) k 0) (get_or (set ys i y) k 0) (get_or (set zs i z) k (pos 0)))
          (λ k. point (get_or xs k 0) (get_or ys k 0) (get_or zs k (pos 0)))
          i
          (λ k l. kept k (λ e. lt_irrefl i (rw e at l))),
    )
  where
    kept : (k : ℕ) → (k ≡ i → ⊥) → point (get_or (set xs i x) k 0) (get_or (set ys i y) k 0) (get_or (set zs i z) k (pos 0)) ≡ point (get_or xs k 0) (get_or ys k 0) (get_or zs k (pos 0))
    kept k n = rw (get_or-set_other xs i k x 0 n, get_or-set_other ys i k y 0 n, get_or-set_other zs i k z (pos 0) n)

-- points in the domain are read as they stand
pub wrapped_one : (a : Point) → a.x < 4096 → a.y < 4096 → wrapped a ≡ a
wrapped_one a h g =
    let p : a.x % 4096 ≡ a.x = omega arith in
    let q : a.y % 4096 ≡ a.y = omega arith in
    rw (p, q)

pub wrapped_same : (l : List Point) → All (λ a. (a.x < 4096) × (a.y < 4096)) l → map wrapped l ≡ l
wrapped_same [] h = refl
wrapped_same (a ∷ l) h = rw (wrapped_one a h.0.0 h.0.1, wrapped_same l h.1)
