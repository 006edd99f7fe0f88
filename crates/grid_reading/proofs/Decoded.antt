-- The cells of a list of bytes, one more at a time.
use mathlib.Core.Path.{◌≡◌, refl, ap, ◌∙◌}
use Prim.Native.Nat.{ℕ, suc, ◌+◌, ◌≤◌}
use native.Mathlib.Numerals.{towards_suc}
use native.Mathlib.Omega.{arith}
use mathlib.Core.List.{List, [], ◌∷◌}
use lib.ListN.{length, drop, drop_of_length-le}
use lib.Seq.{drop-cons}
use Rattle.std.specs.Int.{w16, from_be_bytes, cast_signed}
use Rattle.model.specs.Bytes.{word, word_at, signed}
use Rattle.model.specs.GridReading.{cells_of}

pub word_read : (a b : ℕ) → cast_signed w16 (from_be_bytes w16 (a ∷ b ∷ [])) ≡ signed 32768 (word a b)
word_read a b =
    let e : from_be_bytes w16 (a ∷ b ∷ []) ≡ word a b = omega arith in
    ap (cast_signed w16) e ∙ refl

pub cells_step : (s : List ℕ) (k : ℕ) → k + 2 ≤ length s → cells_of (drop k s) ≡ signed 32768 (word_at s k) ∷ cells_of (drop (k + 2) s)
unfolding cells_of
cells_step s k h = simp towards_suc (rw (drop-cons s k 0 (omega arith), drop-cons s (suc k) 0 (omega arith)))

pub cells_end : (s : List ℕ) (k : ℕ) → length s ≤ k → cells_of (drop k s) ≡ []
unfolding cells_of
cells_end s k h = rw (drop_of_length-le s h)
