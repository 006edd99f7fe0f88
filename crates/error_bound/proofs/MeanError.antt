-- The error of a mean: 124 roundings at most, so y = 2 h times the mean is off by at most 2 ^ -22 for h up to 4,096, and its nearest half by 1 / 2 and 2 ^ -23.
use mathlib.Core.Path.{ap, ◌∙◌, subst}
use Prim.Native.Nat.{ℕ, ◌+◌, ◌*◌, ◌≤◌, ◌<◌}
use native.Mathlib.Nat.{le_trans, le_of_eq, mul_comm, mul_assoc, mul_left_comm, mul_right_comm, mul-pos, lt_of_mul-lt-mul_right, mul-le-mul, mul-le-mul_left, mul-le-mul_right}
use native.Mathlib.Omega.{arith}
use lib.Dec.{T, lit≤}
use lib.Ieee.{Float, binary64, mul}
use lib.Ieee.Positive.{num, den, den_pos}
use Rattle.model.specs.Fraction.{Fraction, whole, times, over, sum}
use Rattle.model.specs.Computed.{scaled_mean_f}
use Rattle.model.specs.Answer.{nearest_half}
use Rattle.relative_error.specs.Close.{Close, Within, plain}
use Rattle.relative_error.proofs.Laws.{mul_close, div_close, int_close}
use Rattle.relative_error.proofs.Bounds.{sum_pos, AtMost, sum_at_most}
use Rattle.relative_error.proofs.Absolute.{close_near}
use Rattle.error_bound.proofs.Weights.{ten}
use Rattle.error_bound.proofs.Means.{times_at, mean_of, Weights, Numbers, Nearest}
use Rattle.error_bound.proofs.Halves.{half_nearest}

-- y = N / t is near p / q, which is at most 8,192 times 511
low : (X P Z : ℕ) → X * 4194304 ≤ P * 4194304 + Z → P ≤ Z * 4186112 → 0 < Z → X < Z * 4194304
low X P Z h k l = omega arith

reach : (N t p q : ℕ) → 0 < t → 0 < q → N * q * 4194304 ≤ p * t * 4194304 + q * t → p ≤ q * 4186112 → N < 4194304 * t
reach N t p q C Q h k =
    let r : N * q < q * t * 4194304 = low (N * q) (p * t) (q * t) h (le_trans (mul-le-mul_right t k) (le_of_eq (mul_right_comm q 4186112 t))) (mul-pos Q C) in
    lt_of_mul-lt-mul_right q (subst (λ (z : ℕ). N * q < z) (mul_assoc q t 4194304 ∙ mul_comm q (t * 4194304) ∙ ap (λ (z : ℕ). z * q) (mul_comm t 4194304)) r)

in_reach : (y : Float) (f : Fraction) → 0 < f.bot → f.top ≤ f.bot * 4186112 → Within 4194304 y f → num y < 4194304 * den y
in_reach y f Q h w = reach (num y) (den y) f.top f.bot (den_pos y) Q w.not_more h

-- 2 h times at most 511, for h up to 4,096
scaled_most : (h p q : ℕ) → h ≤ 4096 → p ≤ q * 511 → 2 * h * p ≤ 1 * q * 4186112
scaled_most h p q H P =
    let u : 2 * h * p ≤ 8192 * (q * 511) = mul-le-mul (mul-le-mul_left 2 H) P in
    omega arith

pub weights_pos : (n : ℕ) (w : ℕ → Float) (p : ℕ → Fraction) → Weights n w p → 0 < (sum p n).top
weights_pos n w p W = sum_pos p n W.index (λ i l. (W.close i l).proper) W.chosen W.above

-- a mean is at most m where each number is
module _ (n : ℕ) (p f : ℕ → Fraction) (m : ℕ) (F : (i : ℕ) → i < n → (f i).top ≤ (f i).bot * m) where
  times_most : (i : ℕ) → i < n → AtMost m (times_at p f i) (p i)
  unfolding times
  times_most i l =
      let a = p i in
      le_trans (mul-le-mul_right a.bot (mul-le-mul_left a.top (F i l)))
      (le_of_eq (simp (mul_assoc, mul_comm, mul_left_comm)))

  pub mean_most : (mean_of n p f).top ≤ (mean_of n p f).bot * m
  unfolding mean_of over
  mean_most =
      let G = sum (times_at p f) n in
      let S = sum p n in
      let h : G.top * S.bot ≤ S.top * G.bot * m = sum_at_most m (times_at p f) p n times_most in
      le_trans h (le_of_eq (ap (λ (z : ℕ). z * m) (mul_comm S.top G.bot)))

module _ (n : ℕ) (w : ℕ → Float) (p : ℕ → Fraction) (W : Weights n w p) (x : ℕ → Float) (f : ℕ → Fraction) (X : Numbers n x f) where
  times_close : (i : ℕ) → i < n → Close 52 381 350 (mul binary64 (w i) (x i)) (times_at p f i)
  times_close i l = mul_close (W.close i l) (X.close i l) tt

  module _ (h : ℕ) (H : h ≤ 4096) where
    scaled_close : Close 124 688 706 (scaled_mean_f (2 * h) n w x) (times (whole (2 * h)) (mean_of n p f))
    unfolding scaled_mean_f mean_of
    scaled_close =
        mul_close (int_close (2 * h) 13 (omega arith) (omega arith))
        (div_close (weights_pos n w p W)
        (ten 52 381 350 n (λ i. mul binary64 (w i) (x i)) (times_at p f) W.most (lit≤ tt) (lit≤ tt) (lit≤ tt) times_close)
        (ten 50 333 297 n w p W.most (lit≤ tt) (lit≤ tt) (lit≤ tt) W.close)
        tt) tt

    scaled_at_most : (times (whole (2 * h)) (mean_of n p f)).top ≤ (times (whole (2 * h)) (mean_of n p f)).bot * 4186112
    unfolding times whole
    scaled_at_most = scaled_most h (mean_of n p f).top (mean_of n p f).bot H (mean_most n p f 511 X.most)

    scaled_within : Within 4194304 (scaled_mean_f (2 * h) n w x) (times (whole (2 * h)) (mean_of n p f))
    scaled_within = close_near 4186112 4194304 (lit≤ tt) scaled_at_most (lit≤ tt) scaled_close

    -- what `floats::nearest_half` asks
    pub scaled_reach : T (plain (scaled_mean_f (2 * h) n w x)) × (num (scaled_mean_f (2 * h) n w x) < 4194304 * den (scaled_mean_f (2 * h) n w x))
    scaled_reach = (scaled_close.finite, in_reach (scaled_mean_f (2 * h) n w x) (times (whole (2 * h)) (mean_of n p f)) scaled_close.proper scaled_at_most scaled_within)

    pub scaled_nearest : Nearest h (nearest_half (scaled_mean_f (2 * h) n w x)) (mean_of n p f)
    scaled_nearest = half_nearest h (scaled_mean_f (2 * h) n w x) (mean_of n p f) scaled_within
