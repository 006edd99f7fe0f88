-- A float that is not negative, and how near it lies to an exact fraction after some roundings.
-- With B = 2 ^ 53, one rounding of an f64 changes a value by a factor from (B - 1) / B to B / (B - 1). `Close k d u x f` says that
-- the float x is the fraction f but for k such factors, and that f is zero or lies from 2 ^ -d to 2 ^ u.
-- Products and quotients add the k's, sums take the larger, and each operation adds one for its own rounding.
use Rattle.std.specs.Prelude.{ℕ, ◌+◌, ◌-◌, ◌*◌, ◌^◌, ◌≤◌, ◌<◌, Bool, true, false, T, Float}
use Rattle.std.specs.Float.{nan, inf, fin}
use Rattle.std.specs.Float.Ieee.Positive.{num, den}
use Rattle.model.specs.Fraction.{Fraction}

-- f is zero, or lies from 2 ^ -d to 2 ^ u
pub record Range (d u : ℕ) (f : Fraction) : Type 0 where
  pub most : f.top ≤ f.bot * 2 ^ u
  pub least : 0 < f.top → f.bot ≤ f.top * 2 ^ d

-- B ^ k and (B - 1) ^ k
unfoldable pub hi : ℕ → ℕ
hi k = (2 ^ 53) ^ k

unfoldable pub lo : ℕ → ℕ
lo k = (2 ^ 53 - 1) ^ k

-- a / b is at most (B / (B - 1)) ^ k times p / q
abbrev pub Under : ℕ → ℕ → ℕ → ℕ → ℕ → Type 0
Under k a b p q = a * q * lo k ≤ p * b * hi k

-- finite, and with no minus sign; +0 is in, and -0 is not
abbrev pub plain : Float → Bool
plain nan = false
plain (inf s) = false
plain (fin true m e) = false
plain (fin false m e) = true

pub record Close (k d u : ℕ) (x : Float) (f : Fraction) : Type 0 where
  pub finite : T (plain x)
  pub proper : 0 < f.bot
  pub above : Under k f.top f.bot (num x) (den x)
  pub below : Under k (num x) (den x) f.top f.bot
  pub range : Range d u f

-- the float x, which is not negative, and the fraction f differ by at most 1 / e
pub record Within (e : ℕ) (x : Float) (f : Fraction) : Type 0 where
  pub not_more : num x * f.bot * e ≤ f.top * den x * e + f.bot * den x
  pub not_less : f.top * den x * e ≤ num x * f.bot * e + f.bot * den x
