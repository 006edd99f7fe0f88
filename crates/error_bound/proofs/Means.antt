-- The exact mean of any numbers that are not negative, what is asked of weights and numbers, and how near a whole number of parts lies to a fraction.
use Prim.Native.Nat.{ℕ, ◌+◌, ◌*◌, ◌≤◌, ◌<◌}
use lib.Ieee.{Float}
use Rattle.model.specs.Fraction.{Fraction, times, over, sum}
use Rattle.relative_error.specs.Close.{Close}

-- number i by its weight
abbrev pub times_at : (ℕ → Fraction) → (ℕ → Fraction) → ℕ → Fraction
times_at p f i = times (p i) (f i)

-- the mean of the first n numbers f, weighed by p
unfoldable pub mean_of : ℕ → (ℕ → Fraction) → (ℕ → Fraction) → Fraction
unfolding times over sum
mean_of n p f = over (sum (times_at p f) n) (sum p n)

-- at most ten floats w, each close to an exact weight p, of which one is above zero
pub record Weights (n : ℕ) (w : ℕ → Float) (p : ℕ → Fraction) : Type 0 where
  pub most : n ≤ 10
  pub close : (i : ℕ) → i < n → Close 50 333 297 (w i) (p i)
  pub index : ℕ
  pub chosen : index < n
  pub above : 0 < (p index).top

-- floats x, each close to a fraction f that is at most 511
pub record Numbers (n : ℕ) (x : ℕ → Float) (f : ℕ → Fraction) : Type 0 where
  pub close : (i : ℕ) → i < n → Close 1 48 53 (x i) (f i)
  pub most : (i : ℕ) → i < n → (f i).top ≤ (f i).bot * 511

-- a whole number a of h-ths and the fraction f differ by at most half of one and 2 ^ -23 of one
pub record Nearest (h a : ℕ) (f : Fraction) : Type 0 where
  pub not_more : a * f.bot * 8388608 ≤ f.top * h * 8388608 + f.bot * 4194305
  pub not_less : f.top * h * 8388608 ≤ a * f.bot * 8388608 + f.bot * 4194305

-- a whole number a of 256ths lies within 129 / 65,536 of f
pub record Answers (a : ℕ) (f : Fraction) : Type 0 where
  pub not_more : a * 256 * f.bot ≤ f.top * 65536 + f.bot * 129
  pub not_less : f.top * 65536 ≤ a * 256 * f.bot + f.bot * 129
