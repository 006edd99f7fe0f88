-- One rounding to an f64: of a fraction that is zero, or lies from 2 ^ -900 to 2 ^ 900, `round` gives a finite value but for one factor.
-- In units of the smallest f64 the fraction is n / c. `round` keeps K units of size 2 ^ d, so K * u is near n for u = c * 2 ^ d, to within half of u, and u is at most n / 2 ^ 52.
use mathlib.Core.Path.{◌≡◌, sym, ap, ◌∙◌, subst}
use mathlib.Core.Logic.{◌⊎◌, inl, inr, ⊎_elim}
use mathlib.Core.Bool.{true, false, not, true≢false}
use Prim.Native.Nat.{ℕ, zero, suc, ◌+◌, ◌-◌, ◌*◌, ◌/◌, ◌%◌, ◌^◌, ◌≤◌, ◌<◌, compare, Ordering}
use native.Mathlib.Nat.{le_trans, le_of_eq, lt_of_le_of_lt, eq-zero-or-pos, zero-mul, suc-mul, mul_assoc, mul_comm, mul_left_comm, mul_right_comm, mul-pos, mul-le-mul_left, mul-le-mul_right, le_of_mul-le-mul_right, div-add-mod', mod-lt, mul-suc, add-mul, le-div_iff_mul-le}
use native.Mathlib.Omega.{arith}
use lib.Arith.{lt_of_le-ne}
use lib.Dec.{T, is_le, compare_is_eq, eqb, leb→le, nleb→lt, eqb→eq, eqb_refl, lit<, lit≤}
use lib.Pow.{pow-add, pow_pos}
use lib.Ieee.{Float, nan, inf, fin, binary64, low, nearest, round, size}
use lib.Ieee.Digits.{size_reaches}
use lib.Ieee.Fits.{nearest-le}
use lib.Ieee.Exact.{HasValue}
use lib.Ieee.Nearest.{closest, nearest-ge}
use lib.Ieee.Order.{drop, kept}
use lib.Ieee.Scale.{grid, overflow, round_val, normal_of_fraction}
use lib.Ieee.Positive.{num, den, value→cross}
use Rattle.model.specs.Fraction.{Fraction}
use Rattle.relative_error.specs.Close.{Range, hi, lo, plain, Close}
use Rattle.relative_error.proofs.Ratio.{left, right}

-- the nearest whole number K to n / u lies within a half of it
abbrev Cmp : Ordering → ℕ → ℕ → Type 0
Cmp Ordering.lt a b = a < b
Cmp Ordering.eq a b = a ≡ b
Cmp Ordering.gt a b = b < a

cmp : (a b : ℕ) → Cmp (compare a b) a b
cmp a b = go (compare a b) (leb→le a b) (nleb→lt a b) (eqb→eq a b) (λ (e : a ≡ b). subst (λ (x : ℕ). T (eqb a x)) e (eqb_refl a))
  where
    go : (o : Ordering) → (T (is_le o) → a ≤ b) → (T (not (is_le o)) → b < a) → (T (compare_is_eq o) → a ≡ b) → (a ≡ b → T (compare_is_eq o)) → Cmp o a b
    go Ordering.lt h k e n = lt_of_le-ne (h tt) n
    go Ordering.eq h k e n = e tt
    go Ordering.gt h k e n = k tt

abbrev Half : ℕ → ℕ → ℕ → Type 0
Half K u n = (K * u * 2 ≤ n * 2 + u) × (n * 2 ≤ K * u * 2 + u)

half : (n u : ℕ) → 0 < u → Half (closest n u) u n
half n u U = go (compare (n % u * 2) u) (cmp (n % u * 2) u)
  where
    go : (o : Ordering) → Cmp o (n % u * 2) u → Half (nearest (n / u) o) u n
    go Ordering.lt h = let e : n / u * u + n % u ≡ n = div-add-mod' n u in (omega arith, omega arith)
    go Ordering.eq h =
        let e : n / u * u + n % u ≡ n = div-add-mod' n u in
        let l : n / u * u ≤ nearest (n / u) Ordering.eq * u = mul-le-mul_right u (nearest-ge (n / u) Ordering.eq) in
        let m : nearest (n / u) Ordering.eq * u ≤ n / u * u + u = le_trans (mul-le-mul_right u (nearest-le (n / u) Ordering.eq)) (le_of_eq (suc-mul (n / u) u)) in
        (omega arith, omega arith)
    go Ordering.gt h =
        let e : n / u * u + n % u ≡ n = div-add-mod' n u in
        let s : suc (n / u) * u ≡ n / u * u + u = suc-mul (n / u) u in
        let r : n % u < u = mod-lt n U in
        (omega arith, omega arith)

-- half of u is at most n / 2 ^ 53, or n is zero and so is K
abbrev Small : ℕ → ℕ → Type 0
Small u n = (n ≡ 0) ⊎ (4503599627370496 * u ≤ n)

none : (K u : ℕ) → 0 < u → K * u * 2 ≤ u → K * u ≡ 0
none zero u U h = zero-mul u
none (suc K) u U h = let s : suc K * u ≡ K * u + u = suc-mul K u in omega arith

-- over b = 2 ^ 53 - 1 as a variable, since omega does not carry products of numerals this long
at_most : (X u n b : ℕ) → X * 2 ≤ n * 2 + u → suc b * u ≤ n * 2 → X * b ≤ n * suc b
at_most X u n b h s =
    let p : X * 2 * b ≤ (n * 2 + u) * b = mul-le-mul_right b h in
    omega (arith, mul_right_comm X 2 b, mul_right_comm n 2 b, add-mul (n * 2) u b, suc-mul b u, mul_comm b u, mul-suc n b)

at_least : (X u n b : ℕ) → n * 2 ≤ X * 2 + u → suc b * u ≤ n * 2 → n * b ≤ X * suc b
at_least X u n b h s =
    let p : n * 2 * suc b ≤ (X * 2 + u) * suc b = mul-le-mul_right (suc b) h in
    omega (arith, mul_right_comm X 2 (suc b), mul_right_comm n 2 (suc b), add-mul (X * 2) u (suc b), mul_comm (suc b) u, mul-suc n b)

abbrev Near : ℕ → ℕ → Type 0
Near X n = (X * 9007199254740991 ≤ n * 9007199254740992) × (n * 9007199254740991 ≤ X * 9007199254740992) × (X ≤ n * 2)

near : (K u n : ℕ) → 0 < u → Half K u n → Small u n → Near (K * u) n
near K u n U h (inl z) = let e : K * u ≡ 0 = none K u U (omega arith) in (omega arith, omega arith, omega arith)
near K u n U h (inr s) =
    let t : suc 9007199254740991 * u ≤ n * 2 = omega arith in
    (at_most (K * u) u n 9007199254740991 h.0 t, at_least (K * u) u n 9007199254740991 h.1 t, omega arith)

-- in the normal range the 53 kept digits are all in use
digits : (z : ℕ) → 53 ≤ z → 52 + (z - 53) < z
digits z h = omega arith

unit_small : (n c : ℕ) → 0 < c → 53 ≤ size (n / c) → 4503599627370496 * (c * 2 ^ drop 53 n c) ≤ n
unit_small n c C N =
    let d = drop 53 n c in
    let r : 2 ^ (52 + d) * c ≤ n = (le-div_iff_mul-le C).0 (size_reaches (n / c) (52 + d) (digits (size (n / c)) N)) in
    let e : 2 ^ (52 + d) ≡ 4503599627370496 * 2 ^ d = pow-add 2 52 d in
    le_trans (le_of_eq (ap (λ (z : ℕ). 4503599627370496 * z) (mul_comm c (2 ^ d)) ∙ sym (mul_assoc 4503599627370496 (2 ^ d) c) ∙ ap (λ (z : ℕ). z * c) (sym e))) r

-- the rounded value, in units
last : (c p l t : ℕ) → c * p * l * t ≡ p * l * t * c
last c p l t = simp (mul_assoc, mul_comm, mul_left_comm)

module _ (a c : ℕ) (C : 0 < c) (R : Range 900 900 (record { top = a; bot = c })) where
  normal : 0 < a → 2 ^ 52 * c ≤ a * 2 ^ low binary64
  normal A =
      le_trans (le_of_eq (mul_comm (2 ^ 52) c))
      (le_trans (mul-le-mul_right (2 ^ 52) (R.least A))
      (le_trans (le_of_eq (mul_assoc a (2 ^ 900) (2 ^ 52))) (mul-le-mul_left a (lit≤ tt))))

  small : Small (c * 2 ^ drop 53 (a * 2 ^ low binary64) c) (a * 2 ^ low binary64)
  small = ⊎_elim (λ z. inl (ap (λ (x : ℕ). x * 2 ^ low binary64) z ∙ zero-mul (2 ^ low binary64))) (λ A. inr (unit_small (a * 2 ^ low binary64) c C (normal_of_fraction binary64 a c C (normal A)))) (eq-zero-or-pos a)

  is_near : Near (grid binary64 a c * c) (a * 2 ^ low binary64)
  is_near =
      let n = a * 2 ^ low binary64 in
      let d = drop 53 n c in
      let u = c * 2 ^ d in
      let U : 0 < u = mul-pos C (pow_pos d) in
      subst (λ (x : ℕ). Near x n) (ap (λ (z : ℕ). kept 53 n c * z) (mul_comm c (2 ^ d)) ∙ sym (mul_assoc (kept 53 n c) (2 ^ d) c)) (near (kept 53 n c) u n U (half n u U) small)

  no_overflow : grid binary64 a c < overflow binary64
  no_overflow =
      let l = 2 ^ low binary64 in
      let b : a * l * 2 ≤ 2 ^ 900 * l * 2 * c =
      le_trans (mul-le-mul_right 2 (mul-le-mul_right l R.most)) (le_of_eq (last c (2 ^ 900) l 2)) in
      lt_of_le_of_lt (le_of_mul-le-mul_right (le_trans is_near.2 b) C) (lit< tt)

pub plain_of_value : (x : Float) (a c : ℕ) → HasValue x false a c → T (plain x)
plain_of_value nan a c h = absurd h
plain_of_value (inf s) a c h = absurd h
plain_of_value (fin true m e) a c h = absurd (true≢false h.0)
plain_of_value (fin false m e) a c h = tt

pub rounded : (f : Fraction) → 0 < f.bot → Range 900 900 f → Close 1 900 900 (round binary64 false f.top f.bot) f
unfolding hi lo
rounded f C R =
    let a = f.top in
    let c = f.bot in
    let l = 2 ^ low binary64 in
    let x = round binary64 false a c in
    let g = grid binary64 a c in
    let v = round_val binary64 a c (no_overflow a c C R) in
    let e : num x * l ≡ g * den x = value→cross x g l v in
    record {
      finite = plain_of_value x g l v;
      proper = C;
      above = right 1 a c g l (num x) (den x) (pow_pos (low binary64)) (sym e) (is_near a c C R).1;
      below = left 1 (num x) (den x) g l a c (pow_pos (low binary64)) e (is_near a c C R).0;
      range = R;
    }
