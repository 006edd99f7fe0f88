-- A survey whose arrays were edited holds the edited points.
use mathlib.Core.Path.{◌≡◌, refl, ap}
use Prim.Native.Nat.{ℕ, ◌+◌, ◌-◌, ◌^◌, ◌≤◌, ◌<◌, min}
use native.Mathlib.Omega.{arith}
use lib.IntN.{ℤ}
use lib.ListN.{length, take, set}
use Rattle.model.specs.Point.{point, contents_of}
use Rattle.model.specs.Extent.{extent_of}
use Rattle.laws.proofs.Insertions.{put_in, cut_out}
use Rattle.point_arrays.specs.PointArrays.{HoldsPoints}
use Rattle.point_arrays.proofs.ReadLaws.{length_points}
use Rattle.point_arrays.proofs.EditLaws.{Sized, points_put, points_cut, points_over}
use Rattle.extent.specs.declared.Extent.{Extent}
use Rattle.extent.specs.Kept.{as_extent}
use Rattle.survey.specs.declared.Survey.{Survey}
use Rattle.survey.specs.StateOf.{contents_in, state_of, Plain, Becomes, Settles}

-- the arrays hold the points of the state
pub holds : (s : Survey) → HoldsPoints (state_of s) s.x s.y s.z s.count
unfolding contents_in
holds s = refl

pub points_held : (s : Survey) → length (contents_in s).points ≡ min s.count 256
unfolding contents_in
points_held s = length_points s.x s.y s.z s.count

module _ (s t : Survey) (e : Sized s.x s.y s.z) (i : ℕ) where
  pub becomes_put : (x y : ℕ) (z : ℤ) → i ≤ length (contents_in s).points → length (contents_in s).points < 256 → x < 4096 → y < 4096
      → t.x ≡ take 256 (put_in i x s.x) → t.y ≡ take 256 (put_in i y s.y) → t.z ≡ take 256 (put_in i z s.z) → t.count ≡ s.count + 1
      → Becomes s (put_in i (point x y z) (contents_in s).points) t
  unfolding contents_in
  becomes_put x y z h room hx hy ex ey ez ec =
      let k = points_held s in
      let p = points_put s.x s.y s.z s.count e i x y z t.x t.y t.z (omega arith) (omega arith) hx hy ex ey ez in
      record { contents = rw ec (ap contents_of p.0); plain = rw ec p.1 }

  pub becomes_cut : i < length (contents_in s).points
      → take 255 t.x ≡ take 255 (cut_out i s.x) → take 255 t.y ≡ take 255 (cut_out i s.y) → take 255 t.z ≡ take 255 (cut_out i s.z)
      → t.count ≡ min s.count 256 - 1 → Becomes s (cut_out i (contents_in s).points) t
  unfolding contents_in
  becomes_cut h ex ey ez ec =
      let k = points_held s in
      let p = points_cut s.x s.y s.z s.count e i t.x t.y t.z (omega arith) ex ey ez in
      record { contents = rw ec (ap contents_of p.0); plain = rw ec p.1 }

  pub becomes_over : (x y : ℕ) (z : ℤ) → i < length (contents_in s).points → x < 4096 → y < 4096
      → t.x ≡ set s.x i x → t.y ≡ set s.y i y → t.z ≡ set s.z i z → t.count ≡ s.count
      → Becomes s (set (contents_in s).points i (point x y z)) t
  unfolding contents_in
  becomes_over x y z h hx hy ex ey ez ec =
      let k = points_held s in
      let p = points_over s.x s.y s.z s.count e i x y z (omega arith) hx hy in
      record { contents = rw (ex, ey, ez, ec) (ap contents_of p.0); plain = rw (ex, ey, ez, ec) p.1 }

-- what is kept, worked out anew
pub settles : (s : Survey) (e : Extent) → as_extent e ≡ extent_of (contents_in s) → e.radius ≤ 2 ^ 24
    → Settles s (record { x = s.x; y = s.y; z = s.z; count = s.count; extent = e })
unfolding contents_in Plain
settles s e h k =
    let same : min e.radius (2 ^ 24) ≡ e.radius = omega arith in
    record { state = rw (same, h); plain = λ p. (p, k) }
