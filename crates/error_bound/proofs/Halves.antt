-- From a float y near 2 h f to the nearest h-th of f, for any h: half of y's whole part, rounded up.
use mathlib.Core.Path.{◌≡◌, ap, ◌∙◌}
use Prim.Native.Nat.{ℕ, ◌+◌, ◌*◌, ◌/◌, ◌%◌, ◌≤◌, ◌<◌}
use native.Mathlib.Nat.{le_trans, le_of_eq, one-mul, add-mul, mul_assoc, mul_comm, mul_left_comm, mul-le-mul_right, le_of_mul-le-mul_right, div-add-mod', mod-lt}
use native.Mathlib.Omega.{arith}
use lib.Ieee.{Float}
use lib.Ieee.Positive.{num, den, den_pos}
use Rattle.model.specs.Fraction.{Fraction, whole, times}
use Rattle.model.specs.Answer.{nearest_half}
use Rattle.relative_error.specs.Close.{Within}
use Rattle.error_bound.proofs.Means.{Nearest, Answers}

halved : (k : ℕ) → ((k + 1) / 2 * 2 ≤ k + 1) × (k ≤ (k + 1) / 2 * 2)
halved k = (omega arith, omega arith)

-- 2 k and y differ by at most 1
half_near : (y : Float) → (nearest_half y * 2 * den y ≤ num y + den y) × (num y ≤ nearest_half y * 2 * den y + den y)
unfolding nearest_half
half_near y =
    let t = den y in
    let k = num y / den y in
    let a = (num y / den y + 1) / 2 in
    let d : k * t + num y % t ≡ num y = div-add-mod' (num y) t in
    let m : num y % t < t = mod-lt (num y) (den_pos y) in
    let u : a * 2 * t ≤ k * t + t = le_trans (mul-le-mul_right t (halved k).0) (le_of_eq (add-mul k 1 t ∙ ap (λ (z : ℕ). k * t + z) (one-mul t))) in
    let l : k * t ≤ a * 2 * t = mul-le-mul_right t (halved k).1 in
    (omega arith, omega arith)

-- y is n / t, f is p / q: N = n q, P = h p t, Z = q t, A = a q t
above : (N P Z A : ℕ) → A * 2 ≤ N + Z → N * 4194304 ≤ 2 * P * 4194304 + Z → A * 8388608 ≤ P * 8388608 + Z * 4194305
above N P Z A h k = omega arith

below : (N P Z A : ℕ) → N ≤ A * 2 + Z → 2 * P * 4194304 ≤ N * 4194304 + Z → P * 8388608 ≤ A * 8388608 + Z * 4194305
below N P Z A h k = omega arith

module _ (h a n t p q e r : ℕ) (C : 0 < t) where
  divide_above : a * q * t * e ≤ h * p * t * e + q * t * r → a * q * e ≤ p * h * e + q * r
  divide_above x =
      let l : a * q * e * t ≡ a * q * t * e = simp (mul_assoc, mul_comm, mul_left_comm) in
      let g : h * p * t * e + q * t * r ≡ (p * h * e + q * r) * t = simp (add-mul, mul_assoc, mul_comm, mul_left_comm) in
      le_of_mul-le-mul_right (le_trans (le_of_eq l) (le_trans x (le_of_eq g))) C

  divide_below : h * p * t * e ≤ a * q * t * e + q * t * r → p * h * e ≤ a * q * e + q * r
  divide_below x =
      let l : p * h * e * t ≡ h * p * t * e = simp (mul_assoc, mul_comm, mul_left_comm) in
      let g : a * q * t * e + q * t * r ≡ (a * q * e + q * r) * t = simp (add-mul, mul_assoc, mul_comm, mul_left_comm) in
      le_of_mul-le-mul_right (le_trans (le_of_eq l) (le_trans x (le_of_eq g))) C

two_more : (a t n q : ℕ) → a * 2 * t ≤ n + t → a * q * t * 2 ≤ n * q + q * t
two_more a t n q h =
    let u : a * 2 * t * q ≤ (n + t) * q = mul-le-mul_right q h in
    omega (arith, mul_comm q t, mul_comm q a)

two_less : (a t n q : ℕ) → n ≤ a * 2 * t + t → n * q ≤ a * q * t * 2 + q * t
two_less a t n q h =
    let u : n * q ≤ (a * 2 * t + t) * q = mul-le-mul_right q h in
    omega (arith, mul_comm q t, mul_comm q a)

pub half_nearest : (h : ℕ) (y : Float) (f : Fraction) → Within 4194304 y (times (whole (2 * h)) f) → Nearest h (nearest_half y) f
unfolding times whole
half_nearest h y f w =
    let a = nearest_half y in
    let n = num y in
    let t = den y in
    let p = f.top in
    let q = f.bot in
    let o : 1 * q ≡ q = one-mul q in
    let g : 2 * h * p * t ≡ 2 * (h * p * t) = simp (mul_assoc) in
    let m : n * q * 4194304 ≤ 2 * (h * p * t) * 4194304 + q * t = rw (← g) (rw o at w.not_more) in
    let l : 2 * (h * p * t) * 4194304 ≤ n * q * 4194304 + q * t = rw (← g) (rw o at w.not_less) in
    record {
      not_more = divide_above h a n t p q 8388608 4194305 (den_pos y) (above (n * q) (h * p * t) (q * t) (a * q * t) (two_more a t n q (half_near y).0) m);
      not_less = divide_below h a n t p q 8388608 4194305 (den_pos y) (below (n * q) (h * p * t) (q * t) (a * q * t) (two_less a t n q (half_near y).1) l);
    }

-- the nearest 256th is within 129 / 65,536
answer_above : (A P q : ℕ) → A * 8388608 ≤ P * 256 * 8388608 + q * 4194305 → A * 256 ≤ P * 65536 + q * 129
answer_above A P q h = omega arith

answer_below : (A P q : ℕ) → P * 256 * 8388608 ≤ A * 8388608 + q * 4194305 → P * 65536 ≤ A * 256 + q * 129
answer_below A P q h = omega arith

turned : (a q : ℕ) → a * 256 * q ≡ a * q * 256
turned a q = omega arith

pub nearest_answers : (a : ℕ) (f : Fraction) → Nearest 256 a f → Answers a f
nearest_answers a f n = record {
  not_more = rw (turned a f.bot) (answer_above (a * f.bot) f.top f.bot n.not_more);
  not_less = rw (turned a f.bot) (answer_below (a * f.bot) f.top f.bot n.not_less);
}
