-- The survey file's theorems, in the words of the contracts of `read` and `write`: what is written and read again is the same survey, an accepted
-- file ends in the very bytes that writing its points gives, and what is accepted is ascending, in range, at most 256 points.
use mathlib.Core.Path.{◌≡◌, refl, sym, ap, ◌∙◌}
use Prim.Native.Nat.{ℕ, ◌≤◌, ◌<◌}
use native.Mathlib.Nat.{min-eq_left}
use native.Mathlib.Decide.{dec_le}
use native.Mathlib.Omega.{arith}
use mathlib.Core.List.{List, []}
use lib.IntN.{ℤ}
use lib.ListN.{length, take, drop}
use lib.Seq.{take-append_seam}
use Rattle.std.specs.Prelude.{Result, Ok, Err}
use Rattle.model.specs.Lists.{Bytes}
use Rattle.model.specs.Point.{Point}
use Rattle.model.specs.Invariant.{Invariant, Sound}
use Rattle.model.specs.SurveyFile.{file_of, file_points, file_refusal, record_start, written_into}
use Rattle.laws.proofs.ListLaws.{all_imp}
use Rattle.laws.proofs.RecordLaws.{domain_bounds}
use Rattle.laws.proofs.RoundTrip.{file_length, written_read, written_accepted, accepted_ends, accepted_invariant}
use Rattle.point_arrays.specs.PointArrays.{held, points_in}
use Rattle.point_arrays.proofs.HeldLaws.{length_held, wrapped_same}
use Rattle.refusal.specs.declared.Refusal.{Refusal}
use Rattle.refusal.proofs.Coded.{never_0}
use Rattle.survey_file.specs.declared.Reading.{Reading}
use Rattle.survey_file.specs.Reading.{points_held, ReadsAs}
use Rattle.survey_file.specs.Written.{written_as}
use Rattle.survey_file.proofs.Fitting.{too_long, fitting}

-- the points of an accepted file, as the arrays hold them
pub accepted_points : (f : List ℕ) (r : Reading) → ReadsAs f (Ok r) → (file_refusal f ≡ 0) × (points_held r ≡ file_points f)
accepted_points f r h = (sym h.refusal, h.points.points)

-- what is accepted is ascending, in range, at most 256
pub read_invariant : (f : List ℕ) (r : Reading) → ReadsAs f (Ok r) → Invariant (points_held r)
read_invariant f r h = let p = accepted_points f r h in rw p.1 (accepted_invariant f p.0)

-- a survey in arrays is read as it stands
pub read_as_held : (xs ys : List ℕ) (zs : List ℤ) (n : ℕ) → Invariant (held xs ys zs n) → points_in xs ys zs n ≡ held xs ys zs n
unfolding points_in
read_as_held xs ys zs n i =
    let few : n ≤ 256 = omega (arith, i.count, length_held xs ys zs n) in
    rw (min-eq_left few)
    (wrapped_same (held xs ys zs n) (all_imp Sound (λ a. (a.x < 4096) × (a.y < 4096)) (λ a s. domain_bounds a.x a.y s.location) (held xs ys zs n) i.sound))

-- an accepted file ends in the bytes that writing what was read gives
pub read_written : (f : List ℕ) (r : Reading) → Bytes f → ReadsAs f (Ok r)
    → drop (record_start f) f ≡ file_of (points_in r.x r.y r.z r.count)
read_written f r b h =
    let p = accepted_points f r h in
    accepted_ends f b p.0 ∙ ap file_of (sym p.1 ∙ sym (read_as_held r.x r.y r.z r.count (read_invariant f r h)))

-- the length that writing to d lent bytes answers is that of the file which they then begin with
pub written_file : (l : List Point) (d : List ℕ) (n : ℕ) → written_as l (length d) ≡ Ok n → take n (written_into l d) ≡ file_of l
written_file l d n w = elim (dec_le (length (file_of l)) (length d)) [
  | yes fits ↦
      let o = fitting l d fits in
      let size : n ≡ length (file_of l) = cc in
      rw (o.1, size) (take-append_seam (file_of l) (drop (length (file_of l)) d))
  | no short ↦
      let o = too_long l d (omega arith) in
      let z : ◌≡◌ {A = ℕ} 0 1 = cc in
      absurd (omega arith)
]

-- what is written to d lent bytes, and read again, is accepted and gives the same points
pub written_then_read : (l : List Point) (d : List ℕ) (n : ℕ) (q : Result Reading Refusal) → Invariant l
    → written_as l (length d) ≡ Ok n → ReadsAs (take n (written_into l d)) q → (r : Reading) × (q ≡ Ok r) × (points_held r ≡ l)
written_then_read l d n (Ok r) i w h =
    let again : ReadsAs (file_of l) (Ok r) = rw (written_file l d n w) at h in
    (r, refl, (accepted_points (file_of l) r again).1 ∙ written_read [] l i)
written_then_read l d n (Err e) i w h =
    let again : ReadsAs (file_of l) (Err e) = rw (written_file l d n w) at h in
    absurd (never_0 e (again.refusal ∙ written_accepted [] l i (omega (arith, file_length l, i.count))))
