-- The records of a list of bytes, one more at a time.
use mathlib.Core.Path.{◌≡◌}
use Prim.Native.Nat.{ℕ, suc, ◌+◌, ◌≤◌}
use native.Mathlib.Numerals.{towards_suc}
use native.Mathlib.Omega.{arith}
use mathlib.Core.List.{List, [], ◌∷◌}
use lib.ListN.{length, drop, get_or, drop_of_length-le}
use lib.Seq.{drop-cons}
use Rattle.model.specs.Point.{Point, point}
use Rattle.model.specs.Bytes.{word_at, signed}
use Rattle.model.specs.SurveyFile.{points_of}

-- the record from byte k on
abbrev pub point_at : List ℕ → ℕ → Point
point_at s k = point (word_at s k) (word_at s (k + 2)) (signed 128 (get_or s (k + 4) 0))

pub points_step : (s : List ℕ) (k : ℕ) → k + 5 ≤ length s → points_of (drop k s) ≡ point_at s k ∷ points_of (drop (k + 5) s)
unfolding points_of
points_step s k h =
    simp towards_suc
    (rw (drop-cons s k 0 (omega arith), drop-cons s (suc k) 0 (omega arith), drop-cons s (suc (suc k)) 0 (omega arith), drop-cons s (suc (suc (suc k))) 0 (omega arith), drop-cons s (suc (suc (suc (suc k)))) 0 (omega arith)))

pub points_end : (s : List ℕ) (k : ℕ) → length s ≤ k → points_of (drop k s) ≡ []
unfolding points_of
points_end s k h = rw (drop_of_length-le s h)
