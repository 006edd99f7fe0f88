-- What reading has shown of the records passed, and what that gives at the end.
use mathlib.Core.Path.{◌≡◌, refl, sym, ap, ◌∙◌}
use Prim.Native.Nat.{ℕ, ◌+◌, ◌*◌, ◌≤◌, ◌<◌}
use native.Mathlib.Omega.{arith}
use mathlib.Core.Bool.{Bool, true, false, cond}
use mathlib.Core.List.{List, [], ◌++◌, append-nil, append_assoc}
use lib.Dec.{ltb}
use lib.IntN.{ℤ}
use lib.ListN.{length, drop, get_or, set, length-set}
use Rattle.model.specs.Lists.{tabulate}
use Rattle.model.specs.Point.{in_domain}
use Rattle.model.specs.Bytes.{word_at, signed}
use Rattle.model.specs.SurveyFile.{points_of, fault}
use Rattle.point_arrays.specs.PointArrays.{held}
use Rattle.point_arrays.proofs.HeldLaws.{held_set}
use Rattle.point_arrays.proofs.EditLaws.{Sized}
use Rattle.read_points.specs.declared.Points.{Points}
use Rattle.read_points.specs.Rank.{rank, fault_by, fault_from}
use Rattle.read_points.proofs.RankLaws.{fault_rank}
use Rattle.read_points.proofs.Records.{points_step, points_end}

-- the first i of `count` records are in the arrays, and what is left decides on the fault
pub record Passed (s : List ℕ) (count : ℕ) (r : Points) (least i : ℕ) : Type 0 where
  pub within : i ≤ count
  pub sized : Sized r.x r.y r.z
  pub left : fault (points_of s) ≡ fault_from least (points_of (drop (5 * i) s))
  pub so_far : held r.x r.y r.z i ++ points_of (drop (5 * i) s) ≡ points_of s

pub at_start : (s : List ℕ) (count : ℕ) (r : Points) → Sized r.x r.y r.z → Passed s count r 0 0
unfolding held tabulate
at_start s count r z = record { within = omega arith; sized = z; left = fault_rank (points_of s); so_far = refl }

-- a record's fault is the list's, and with none the next record decides
abbrev by : Bool → Bool → ℕ → ℕ
by inside behind n = cond inside (cond behind 15 n) 14

stops_here : (a b : Bool) (n : ℕ) → (by a b 0 ≡ 0 → ⊥) → by a b n ≡ by a b 0
stops_here true true n k = refl
stops_here true false n k = absurd (k refl)
stops_here false b n k = refl

passes_on : (a b : Bool) (n : ℕ) → by a b 0 ≡ 0 → by a b n ≡ n
passes_on true true n k = let z : ◌≡◌ {A = ℕ} 15 0 = k in absurd (omega arith)
passes_on true false n k = refl
passes_on false b n k = let z : ◌≡◌ {A = ℕ} 14 0 = k in absurd (omega arith)

module _ (s : List ℕ) (count : ℕ) (r : Points) (least i : ℕ) (p : Passed s count r least i) where
  pub at_end : length s ≡ 5 * count → count ≤ i → (0 ≡ fault (points_of s)) × (held r.x r.y r.z count ≡ points_of s)
  unfolding fault_from
  at_end len h =
      let e : i ≡ count = omega (arith, p.within) in
      let none : points_of (drop (5 * i) s) ≡ [] = points_end s (5 * i) (omega arith) in (
        sym (p.left ∙ ap (fault_from least) none),
        sym (append-nil (held r.x r.y r.z count)) ∙ (rw (none, e) at p.so_far),
      )

  module _ (room : 5 * i + 5 ≤ length s) (x y : ℕ) (ex : x ≡ word_at s (5 * i)) (ey : y ≡ word_at s (5 * i + 2)) where
    -- the fault at record i
    here : fault (points_of s) ≡ fault_by least x y (fault_from (rank x y + 1) (points_of (drop (5 * i + 5) s)))
    unfolding fault_from
    here = p.left ∙ rw (points_step s (5 * i) room, ex, ey)

    pub stops : (n : ℕ) → n ≡ fault_by least x y 0 → (n ≡ 0 → ⊥) → fault (points_of s) ≡ n
    stops n e h = here ∙ stops_here (in_domain x y) (ltb (rank x y) least) _ (λ q. h (e ∙ q)) ∙ sym e

    pub goes_on : fault_by least x y 0 ≡ 0 → i < count → count ≤ 256 → (z : ℤ) → z ≡ signed 128 (get_or s (5 * i + 4) 0)
        → (t : Points) → t.x ≡ set r.x i x → t.y ≡ set r.y i y → t.z ≡ set r.z i z
        → Passed s count t (rank x y + 1) (i + 1)
    goes_on none more few z ez t tx ty tz =
        let sized = p.sized in
        let next : 5 * (i + 1) ≡ 5 * i + 5 = omega arith in
        record {
          within = omega arith;
          sized = record {
            x = rw (tx, length-set) sized.x;
            y = rw (ty, length-set) sized.y;
            z = rw (tz, length-set) sized.z;
          };
          left = rw next (here ∙ passes_on (in_domain x y) (ltb (rank x y) least) _ none);
          so_far =
              rw (next, tx, ty, tz, held_set r.x r.y r.z i x y z (omega arith) (omega arith) (omega arith), append_assoc)
              (rw (ex, ey, ez, ← points_step s (5 * i) room) p.so_far);
        }
