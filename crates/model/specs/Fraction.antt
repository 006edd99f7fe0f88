-- Fractions of whole numbers, a numerator over a denominator, never reduced: the exact values of document 01.
-- In order: fractions that are not negative, their operations and sums; fractions with a sign.
use Rattle.std.specs.Prelude.{◌≡◌, ℕ, zero, suc, ◌+◌, ◌*◌, ◌<◌, ℤ, pos, ◌+ℤ◌, ◌*ℤ◌}

pub record Fraction : Type 0 where
  pub top : ℕ
  pub bot : ℕ

unfoldable pub whole : ℕ → Fraction
whole n = record { top = n; bot = 1 }

unfoldable pub plus : Fraction → Fraction → Fraction
plus f g = record { top = f.top * g.bot + g.top * f.bot; bot = f.bot * g.bot }

unfoldable pub times : Fraction → Fraction → Fraction
times f g = record { top = f.top * g.top; bot = f.bot * g.bot }

-- f / g, for a g above 0
unfoldable pub over : Fraction → Fraction → Fraction
over f g = record { top = f.top * g.bot; bot = f.bot * g.top }

-- the sum of f 0 to f (n - 1)
unfoldable pub sum : (ℕ → Fraction) → ℕ → Fraction
unfolding whole plus
sum f zero = whole 0
sum f (suc n) = plus (sum f n) (f n)

-- a fraction with a sign, its numerator's
pub record Signed : Type 0 where
  pub top : ℤ
  pub bot : ℕ

-- f times a whole number with a sign
unfoldable pub times_z : Fraction → ℤ → Signed
times_z f z = record { top = pos f.top *ℤ z; bot = f.bot }

unfoldable pub plus_z : Signed → Signed → Signed
plus_z f g = record { top = (f.top *ℤ pos g.bot) +ℤ (g.top *ℤ pos f.bot); bot = f.bot * g.bot }

unfoldable pub sum_z : (ℕ → Signed) → ℕ → Signed
unfolding plus_z
sum_z f zero = record { top = pos 0; bot = 1 }
sum_z f (suc n) = plus_z (sum_z f n) (f n)

-- f / g, for a g above 0
unfoldable pub over_z : Signed → Fraction → Signed
over_z f g = record { top = f.top *ℤ pos g.bot; bot = f.bot * g.top }

-- f is a / b
abbrev pub Is : Signed → ℤ → ℕ → Type 0
Is f a b = (f.top *ℤ pos b ≡ a *ℤ pos f.bot) × (0 < f.bot)
