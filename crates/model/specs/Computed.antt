-- Factors, weights and mean as 64-bit floats work them out, each operation rounded once: document 01, "Pull and mean".
-- Each name is the exact one with F. The sums go through the chosen points in order of choice.
use Rattle.std.specs.Prelude.{ℕ, zero, suc, ◌-◌, cond, eqb, ℤ, pos, ◌-ℤ◌, nat_abs, Float}
use Rattle.std.specs.Float.{binary64}
use Rattle.std.specs.Float.Ieee.{add, mul, div, of_int, of_bits}
use Rattle.model.specs.Influence.{Influence, coincident, inverse, tapered, edge}
use Rattle.model.specs.Weight.{Neighbourhood, all_edge}

-- a whole number as a float
unfoldable pub float : ℕ → Float
unfolding of_int
float n = of_int binary64 (pos n)

-- +0 and 1, by their bits
unfoldable pub zero_f : Float
unfolding of_bits
zero_f = of_bits binary64 0

unfoldable pub one_f : Float
unfolding of_bits
one_f = of_bits binary64 0x3ff0_0000_0000_0000

-- 27 (r - d)² / (4 r³)
unfoldable pub taper_f : ℕ → ℕ → Float
unfolding float mul div
taper_f r d =
    div binary64 (mul binary64 (float 27) (mul binary64 (float (r - d)) (float (r - d))))
    (mul binary64 (float 4) (mul binary64 (float r) (mul binary64 (float r) (float r))))

unfoldable pub factor_f : Influence → Float
unfolding float zero_f one_f taper_f div
factor_f coincident = one_f
factor_f (inverse d) = div binary64 (float 1) (float d)
factor_f (tapered r d) = taper_f r d
factor_f edge = zero_f

-- the sum of f 0 to f (n - 1), from +0 on
unfoldable pub sum_f : (ℕ → Float) → ℕ → Float
unfolding zero_f add
sum_f f zero = zero_f
sum_f f (suc n) = add binary64 (sum_f f n) (f n)

abbrev pub factor_at_f : Neighbourhood → ℕ → Float
factor_at_f h i = factor_f (h.influence i)

unfoldable pub term_f : Neighbourhood → ℕ → ℕ → Float
unfolding factor_f zero_f float mul div
term_f h i j = cond (eqb j i) zero_f (mul binary64 (factor_at_f h j) (div binary64 (float (h.excess i j)) (float (h.product i j))))

-- s² (1 + terms / factors), from the sums of the terms and of the factors
unfoldable pub product_f : Float → Float → Float → Float
unfolding one_f add mul div
product_f s terms factors = mul binary64 (mul binary64 s s) (add binary64 one_f (div binary64 terms factors))

unfoldable pub weight_f : Neighbourhood → ℕ → Float
unfolding all_edge one_f factor_f term_f sum_f product_f
weight_f h i =
    cond (all_edge h.influence h.count) one_f
    (product_f (factor_at_f h i) (sum_f (term_f h i) h.count) (sum_f (factor_at_f h) h.count))

-- k times the mean of the first n numbers x, weighed by w
unfoldable pub scaled_mean_f : ℕ → ℕ → (ℕ → Float) → (ℕ → Float) → Float
unfolding float mul div sum_f
scaled_mean_f k n w x = mul binary64 (float k) (div binary64 (sum_f (λ i. mul binary64 (w i) (x i)) n) (sum_f w n))

-- a value less the least one, as a float
unfoldable pub lessened_f : ℤ → ℤ → Float
unfolding float
lessened_f least z = float (nat_abs (z -ℤ least))

-- 512 times the mean of the values, each less the least chosen one
unfoldable pub mean_f : Neighbourhood → ℤ → Float
unfolding weight_f lessened_f scaled_mean_f
mean_f h least = scaled_mean_f 512 h.count (weight_f h) (λ i. lessened_f least (h.value i))
