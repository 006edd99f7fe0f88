-- The part of a file before the trailer that the records stand in, as a program that knows the back distance takes it.
use mathlib.Core.Path.{◌≡◌}
use Prim.Native.Nat.{ℕ, ◌-◌, ◌≤◌}
use mathlib.Core.List.{List}
use native.Mathlib.Omega.{arith}
use lib.ListN.{take, drop}
use Rattle.model.specs.SurveyFile.{trailer_start, back_in, records_in}

pub part_is : (f : List ℕ) (back : ℕ) → back ≡ back_in f → back_in f ≤ trailer_start f
    → take (trailer_start f - (trailer_start f - back)) (drop (trailer_start f - back) f) ≡ records_in f
part_is f back e h =
    let k : trailer_start f - (trailer_start f - back_in f) ≡ back_in f = omega arith in
    rw (e, k)
