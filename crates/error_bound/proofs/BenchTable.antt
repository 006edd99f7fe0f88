-- The starred rows of document 01's bench table, as one theorem.
use mathlib.Core.Path.{◌≡◌, refl}
use Prim.Native.Nat.{ℕ}
use native.Mathlib.Omega.{arith}
use mathlib.Core.Bool.{true}
use mathlib.Core.List.{[], ◌∷◌}
use lib.IntN.{negsuc}
use Rattle.model.specs.Point.{Location, State, point, in_domain, in_range}
use Rattle.model.specs.Extent.{survey_of}
use Rattle.model.specs.Mean.{mean}
use Rattle.model.specs.Answer.{answer}
use Rattle.model.specs.Fraction.{Is}
use Rattle.model.specs.Examples.{StarredRows}
use Rattle.model.proofs.Examples.{closed_rows}
use Rattle.laws.proofs.RecordLaws.{domain_bounds}
use Rattle.laws.proofs.ChosenLaws.{chosen_all}
use Rattle.laws.proofs.ExtentLaws.{kept_most}
use Rattle.laws.proofs.OnePoint.{one_point_mean, one_point}
use Rattle.error_bound.proofs.InRange.{LookupInRange}
use Rattle.error_bound.proofs.AnswerRight.{answer_right}

-- one point, z = -7, wherever it is
abbrev alone : ℕ → ℕ → State
alone x y = survey_of (point x y (negsuc 6) ∷ [])

-- of one point, every location: the exact mean is -7, and the answer -1,792
abbrev pub OnePointRow : Type 0
OnePointRow = (x y : ℕ) (p : Location) → in_domain x y ≡ true → in_domain p.x p.y ≡ true → Is (mean (alone x y) p) (negsuc 6) 1 × (answer (alone x y) p ≡ negsuc 1791)

one_point_row : OnePointRow
one_point_row x y p h g =
    let asked : LookupInRange (alone x y) p = record {
      domain = domain_bounds p.x p.y g;
      some = omega arith;
      inside = (domain_bounds x y h, tt);
      kept = kept_most (alone x y).contents (domain_bounds x y h, tt);
      values = chosen_all (alone x y) p (λ a. in_range a.z ≡ true) (refl, tt);
    } in
    let right = answer_right (alone x y) p asked in
    (one_point_mean x y p, one_point x y p (answer (alone x y) p) right.near)

pub starred : OnePointRow × StarredRows
starred = (one_point_row, closed_rows)
