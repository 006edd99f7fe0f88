-- Those within a limit, one more at a time: how many they are, and where.
use mathlib.Core.Path.{◌≡◌, refl, sym, ap}
use Prim.Native.Nat.{ℕ, suc, ◌+◌, ◌≤◌, ◌<◌}
use native.Mathlib.Numerals.{add-one}
use native.Mathlib.Omega.{arith}
use mathlib.Core.Bool.{Bool, true, false, cond}
use mathlib.Core.List.{List, [], ◌∷◌, ◌++◌, append-nil}
use mir.Val.{bool_byte}
use lib.ListN.{length, take, get_or, set}
use lib.Seq.{take-suc, take-suc-set, take-set-le}
use borrow.Author.Tests.{le-leb}
use Rattle.model.specs.Lists.{count}
use Rattle.laws.proofs.MapLaws.{count_last}
use Rattle.squares.specs.Squares.{within, count_within, indices_of, Words}

pub byte_most : (t : Bool) → bool_byte t ≤ 1
byte_most true = omega arith
byte_most false = omega arith

pub counted_more : (limit k i : ℕ) (l : List ℕ) → i < length l → k ≡ count_within limit (take i l) → k ≤ i
    → (k + bool_byte (within limit (get_or l i 0)) ≡ count_within limit (take (i + 1) l)) × (k + bool_byte (within limit (get_or l i 0)) ≤ i + 1)
counted_more limit k i l h e m = (
  rw (add-one i, take-suc l i 0 h, count_last) (go (within limit (get_or l i 0))),
  omega (arith, byte_most (within limit (get_or l i 0))),
)
  where
    go : (t : Bool) → k + bool_byte t ≡ cond t (count_within limit (take i l) + 1) (count_within limit (take i l))
    go true = omega arith
    go false = omega arith

-- an index stored behind the first k stays there where it passes
pub indices_more : (t : ℕ → Bool) (at : List ℕ) (k i : ℕ) → k < length at → take k at ≡ indices_of t i → take (k + bool_byte (t i)) (set at k i) ≡ indices_of t (i + 1)
unfolding indices_of
indices_more t at k i h e = rw (add-one i) (go (t i))
  where
    go : (u : Bool) → take (k + bool_byte u) (set at k i) ≡ indices_of t i ++ cond u (i ∷ []) []
    go true = rw (add-one k, take-suc-set at k i h, e)
    go false = let z : k + 0 ≡ k = omega arith in rw (z, take-set-le k at k i (omega arith), e) (sym (append-nil (indices_of t i)))

-- a number of 32 bits is within the greatest
pub all_within : (l : List ℕ) → Words l → count_within 4294967295 l ≡ length l
unfolding count
all_within [] h = refl
all_within (a ∷ l) h = rw (le-leb a 4294967295 (omega (arith, h 0 (omega arith)))) (ap suc (all_within l (λ i g. h (suc i) (omega arith))))
