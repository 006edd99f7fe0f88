-- Points as arrays are read: as many as the count says, at most 256, and in the domain whatever the arrays hold.
use mathlib.Core.Path.{◌≡◌, ◌∙◌}
use Prim.Native.Nat.{ℕ, ◌+◌, ◌%◌, ◌<◌, min}
use native.Mathlib.Omega.{arith}
use mathlib.Core.Bool.{true, and-eq-true_iff}
use mathlib.Core.List.{List, [], ◌∷◌, ◌++◌, map-append}
use lib.Dec.{ltb}
use lib.IntN.{ℤ, pos}
use lib.ListN.{length, get_or, length-map}
use borrow.Author.Tests.{lt-ltb}
use Rattle.model.specs.Lists.{All}
use Rattle.model.specs.Point.{Point, location, point, in_domain}
use Rattle.model.specs.Radius.{locations}
use Rattle.laws.proofs.ListLaws.{all_any, all_imp, all_map, get_d_tabulate, tabulate_more}
use Rattle.laws.proofs.MapLaws.{map_tabulate}
use Rattle.laws.proofs.RecordLaws.{domain_bounds}
use Rattle.point_arrays.specs.PointArrays.{held, wrapped, points_in, locations_in}
use Rattle.point_arrays.proofs.HeldLaws.{length_held}

pub length_points : (xs ys : List ℕ) (zs : List ℤ) (n : ℕ) → length (points_in xs ys zs n) ≡ min n 256
unfolding points_in
length_points xs ys zs n = length-map (held xs ys zs (min n 256)) wrapped ∙ length_held xs ys zs (min n 256)

-- a point as it is read
pub points_at : (xs ys : List ℕ) (zs : List ℤ) (n i : ℕ) (d : Point) → i < min n 256
    → get_or (points_in xs ys zs n) i d ≡ wrapped (point (get_or xs i 0) (get_or ys i 0) (get_or zs i (pos 0)))
unfolding points_in held
points_at xs ys zs n i d h = rw (map_tabulate, get_d_tabulate)

pub points_more : (xs ys : List ℕ) (zs : List ℤ) (i : ℕ) → i < 256
    → points_in xs ys zs (i + 1) ≡ points_in xs ys zs i ++ (wrapped (point (get_or xs i 0) (get_or ys i 0) (get_or zs i (pos 0))) ∷ [])
unfolding points_in held
points_more xs ys zs i h =
    let e : min (i + 1) 256 ≡ i + 1 = omega arith in
    let f : min i 256 ≡ i = omega arith in
    rw (e, f, tabulate_more) (map-append wrapped (held xs ys zs i) (point (get_or xs i 0) (get_or ys i 0) (get_or zs i (pos 0)) ∷ []))

wrapped_location : (a : Point) → in_domain (wrapped a).x (wrapped a).y ≡ true
wrapped_location a =
    (and-eq-true_iff (ltb (a.x % 4096) 4096) (ltb (a.y % 4096) 4096)).1
    (lt-ltb (a.x % 4096) 4096 (omega arith), lt-ltb (a.y % 4096) 4096 (omega arith))

pub points_inside : (xs ys : List ℕ) (zs : List ℤ) (n : ℕ) → All (λ (a : Point). in_domain a.x a.y ≡ true) (points_in xs ys zs n)
unfolding points_in
points_inside xs ys zs n =
    all_map (λ (a : Point). in_domain a.x a.y ≡ true) wrapped (held xs ys zs (min n 256)) (all_any _ wrapped_location (held xs ys zs (min n 256)))

pub points_below : (xs ys : List ℕ) (zs : List ℤ) (n : ℕ) → All (λ (a : Point). (a.x < 4096) × (a.y < 4096)) (points_in xs ys zs n)
points_below xs ys zs n =
    all_imp (λ (a : Point). in_domain a.x a.y ≡ true) (λ (a : Point). (a.x < 4096) × (a.y < 4096)) (λ a h. domain_bounds a.x a.y h) (points_in xs ys zs n)
    (points_inside xs ys zs n)

-- where they are
pub locations_read : (xs ys : List ℕ) (zs : List ℤ) (n : ℕ) → locations (points_in xs ys zs n) ≡ locations_in xs ys n
unfolding points_in held locations_in
locations_read xs ys zs n = rw (map_tabulate, map_tabulate)

pub locations_more : (xs ys : List ℕ) (i : ℕ) → i < 256
    → locations_in xs ys (i + 1) ≡ locations_in xs ys i ++ (location (get_or xs i 0 % 4096) (get_or ys i 0 % 4096) ∷ [])
unfolding locations_in
locations_more xs ys i h =
    let e : min (i + 1) 256 ≡ i + 1 = omega arith in
    let f : min i 256 ≡ i = omega arith in
    rw (e, f, tabulate_more)
