-- Sums of n parts: one part more, the same parts, and the error of a sum of close floats.
use mathlib.Core.Path.{◌≡◌, refl, sym, ap, ap₂, ◌∙◌}
use Prim.Native.Nat.{ℕ, zero, suc, ◌+◌, ◌≤◌, ◌<◌}
use native.Mathlib.Nat.{le_refl, le-add_right}
use native.Mathlib.Numerals.{add-one}
use native.Mathlib.Omega.{arith}
use lib.Dec.{lit≤}
use lib.Ieee.{Float, binary64, add, of_bits, of_int}
use Rattle.model.specs.Fraction.{Fraction, whole, sum}
use Rattle.relative_error.specs.Close.{Close}
use Rattle.model.specs.Computed.{float, zero_f, sum_f}
use Rattle.relative_error.proofs.Laws.{is_small, weaken, add_like, int_close}

-- the code's i + 1
pub sum_f_more : (g : ℕ → Float) (i : ℕ) → sum_f g (i + 1) ≡ add binary64 (sum_f g i) (g i)
unfolding sum_f
sum_f_more g i = ap (λ (n : ℕ). sum_f g n) (add-one i)

-- so a loop's sum S and its next part x give the sum of one part more
pub sum_f_step : (g : ℕ → Float) (i : ℕ) {S x : Float} → S ≡ sum_f g i → x ≡ g i → add binary64 S x ≡ sum_f g (i + 1)
sum_f_step g i {S} {x} e h = ap (λ (z : Float). add binary64 z x) e ∙ ap (λ (z : Float). add binary64 (sum_f g i) z) h ∙ sym (sum_f_more g i)

-- sums of the same parts
pub sum_f_same : (g h : ℕ → Float) (n : ℕ) → ((i : ℕ) → i < n → g i ≡ h i) → sum_f g n ≡ sum_f h n
unfolding sum_f
sum_f_same g h zero e = refl
sum_f_same g h (suc n) e = ap₂ (add binary64) (sum_f_same g h n (λ i l. e i (omega arith))) (e n (omega arith))

pub sum_f_zero : (g : ℕ → Float) → sum_f g 0 ≡ zero_f
unfolding sum_f
sum_f_zero g = refl

pub zero_close : Close 0 0 0 zero_f (whole 0)
unfolding of_bits of_int zero_f float
zero_close = int_close 0 0 (lit≤ tt) (lit≤ tt)

-- n floats, each with k roundings, have k + n when summed
pub sum_close : (k d u : ℕ) (g : ℕ → Float) (h : ℕ → Fraction) (n : ℕ) → k + n ≤ 256 → d ≤ 899 → u + n ≤ 899 → ((i : ℕ) → i < n → Close k d u (g i) (h i))
    → Close (k + n) d (u + n) (sum_f g n) (sum h n)
unfolding sum_f sum
sum_close k d u g h zero K D U c = weaken (omega arith) (omega arith) (omega arith) zero_close
sum_close k d u g h (suc n) K D U c =
    let a = sum_close k d u g h n (omega arith) D (omega arith) (λ i l. c i (omega arith)) in
    let b = weaken (le-add_right k n) (le_refl d) (le-add_right u n) (c n (omega arith)) in
    weaken (omega arith) (le_refl d) (omega arith) (add_like a b (is_small (k + n) d (u + n + 1) (omega arith) D (omega arith)))
