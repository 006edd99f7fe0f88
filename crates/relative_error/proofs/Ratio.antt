-- How `Under`, the bound on one side of a relative error, goes through products, sums, quotients and chains; and how large the factor is for at most 256 roundings.
-- Nothing here is about floats.
use mathlib.Core.Path.{◌≡◌, sym, ap, ◌∙◌, subst}
use Prim.Native.Nat.{ℕ, ◌+◌, ◌-◌, ◌*◌, ◌≤◌, ◌<◌}
use native.Mathlib.Nat.{le_trans, le_of_eq, lt_of_lt_of_le, lt_of_le_of_lt, lt_of_mul-lt-mul_right, zero-mul, zero-add, add-zero, add-le-add, add-mul, add-sub_of_le, mul_assoc, mul_comm, mul_left_comm, mul-pos, mul-le-mul, mul-le-mul_left, mul-le-mul_right, le_of_mul-le-mul_right, pow-le-pow_left, one-le-pow}
use native.Mathlib.Omega.{arith}
use lib.Dec.{lit<, lit≤}
use lib.Pow.{pow-add}
use Rattle.relative_error.specs.Close.{hi, lo, Under}

-- the powers
pub hi_add : (j k : ℕ) → hi (j + k) ≡ hi j * hi k
unfolding hi
hi_add j k = pow-add 9007199254740992 j k

pub lo_add : (j k : ℕ) → lo (j + k) ≡ lo j * lo k
unfolding lo
lo_add j k = pow-add 9007199254740991 j k

pub lo≤hi : (k : ℕ) → lo k ≤ hi k
unfolding lo hi
lo≤hi k = pow-le-pow_left (lit≤ tt) k

pub lo_pos : (k : ℕ) → 0 < lo k
unfolding lo
lo_pos k = one-le-pow k 9007199254740991 (lit< tt)

-- a / b ≤ p / q ≤ r / s, each but for some factors
pub chain : (j k a b p q r s : ℕ) → 0 < q → Under j a b p q → Under k p q r s → Under (j + k) a b r s
chain j k a b p q r s Q x y =
    let u : a * q * lo j * (s * lo k) ≤ p * b * hi j * (s * lo k) = mul-le-mul_right (s * lo k) x in
    let v : p * s * lo k * (b * hi j) ≤ r * q * hi k * (b * hi j) = mul-le-mul_right (b * hi j) y in
    let w : p * b * hi j * (s * lo k) ≡ p * s * lo k * (b * hi j) = simp (mul_assoc, mul_comm, mul_left_comm) in
    let l : a * s * lo (j + k) * q ≡ a * q * lo j * (s * lo k) = simp (lo_add, mul_assoc, mul_comm, mul_left_comm) in
    let e : r * q * hi k * (b * hi j) ≡ r * b * hi (j + k) * q = simp (hi_add, mul_assoc, mul_comm, mul_left_comm) in
    le_of_mul-le-mul_right (le_trans (le_of_eq l) (le_trans u (le_trans (le_of_eq w) (le_trans v (le_of_eq e))))) Q

-- equal fractions on either side
unit : (a b p q : ℕ) → a * q ≡ p * b → Under 0 a b p q
unfolding lo hi
unit a b p q e = le_of_eq (ap (λ (z : ℕ). z * 1) e)

pub left : (k a b a' b' p q : ℕ) → 0 < b' → a * b' ≡ a' * b → Under k a' b' p q → Under k a b p q
left k a b a' b' p q B e x = subst (λ (i : ℕ). Under i a b p q) (zero-add k) (chain 0 k a b a' b' p q B (unit a b a' b' e) x)

pub right : (k a b p q p' q' : ℕ) → 0 < q → p * q' ≡ p' * q → Under k a b p q → Under k a b p' q'
right k a b p q p' q' Q e x = subst (λ (i : ℕ). Under i a b p' q') (add-zero k) (chain k 0 a b p q p' q' Q x (unit p q p' q' e))

-- the factor of fewer roundings is no larger
pub more : (j k a b p q : ℕ) → j ≤ k → Under j a b p q → Under k a b p q
more j k a b p q h x =
    subst (λ (i : ℕ). Under i a b p q) (add-sub_of_le h)
    (le_trans (le_of_eq (ap (λ (z : ℕ). a * q * z) (lo_add j (k - j)) ∙ sym (mul_assoc (a * q) (lo j) (lo (k - j)))))
    (le_trans (mul-le-mul x (lo≤hi (k - j)))
    (le_of_eq (mul_assoc (p * b) (hi j) (hi (k - j)) ∙ ap (λ (z : ℕ). p * b * z) (sym (hi_add j (k - j)))))))

pub product : (j k a b p q a' b' p' q' : ℕ) → Under j a b p q → Under k a' b' p' q' → Under (j + k) (a * a') (b * b') (p * p') (q * q')
product j k a b p q a' b' p' q' x y =
    let l : a * a' * (q * q') * lo (j + k) ≡ a * q * lo j * (a' * q' * lo k) = simp (lo_add, mul_assoc, mul_left_comm) in
    let r : p * b * hi j * (p' * b' * hi k) ≡ p * p' * (b * b') * hi (j + k) = simp (hi_add, mul_assoc, mul_comm, mul_left_comm) in
    le_trans (le_of_eq l) (le_trans (mul-le-mul x y) (le_of_eq r))

-- the bound on one side is the bound on the other side of what is turned over
pub turned : (k a b p q : ℕ) → Under k a b p q → Under k q p b a
turned k a b p q x = le_trans (le_of_eq (ap (λ (z : ℕ). z * lo k) (mul_comm q a))) (le_trans x (le_of_eq (ap (λ (z : ℕ). z * hi k) (mul_comm p b))))

pub total : (k a b p q a' b' p' q' : ℕ) → Under k a b p q → Under k a' b' p' q' → Under k (a * b' + a' * b) (b * b') (p * q' + p' * q) (q * q')
total k a b p q a' b' p' q' x y =
    let u : a * q * lo k * (b' * q') + a' * q' * lo k * (b * q) ≤ p * b * hi k * (b' * q') + p' * b' * hi k * (b * q) = add-le-add (mul-le-mul_right (b' * q') x) (mul-le-mul_right (b * q) y) in
    let l : (a * b' + a' * b) * (q * q') * lo k ≡ a * q * lo k * (b' * q') + a' * q' * lo k * (b * q) = simp (add-mul, mul_assoc, mul_comm, mul_left_comm) in
    let r : p * b * hi k * (b' * q') + p' * b' * hi k * (b * q) ≡ (p * q' + p' * q) * (b * b') * hi k = simp (add-mul, mul_assoc, mul_comm, mul_left_comm) in
    le_trans (le_of_eq l) (le_trans u (le_of_eq r))

-- 256 roundings change a value by less than 2 ^ -44 of it
at_256 : hi 256 * 17592186044416 ≤ lo 256 * 17592186044417
unfolding hi lo
at_256 = lit≤ tt

pub tight : (k : ℕ) → k ≤ 256 → hi k * 17592186044416 ≤ lo k * 17592186044417
tight k h =
    let j = 256 - k in
    let e : k + j ≡ 256 = add-sub_of_le h in
    let u : hi k * 17592186044416 * lo j ≤ hi (k + j) * 17592186044416 =
    le_trans (mul-le-mul_left (hi k * 17592186044416) (lo≤hi j)) (le_of_eq (simp (hi_add, mul_assoc, mul_comm, mul_left_comm))) in
    let v : hi (k + j) * 17592186044416 ≤ lo (k + j) * 17592186044417 = subst (λ (i : ℕ). hi i * 17592186044416 ≤ lo i * 17592186044417) (sym e) at_256 in
    let w : lo (k + j) * 17592186044417 ≡ lo k * 17592186044417 * lo j = simp (lo_add, mul_assoc, mul_comm, mul_left_comm) in
    le_of_mul-le-mul_right (le_trans u (le_trans v (le_of_eq w))) (lo_pos j)

-- so a / b exceeds p / q by at most 2 ^ -44 of p / q
pub within : (k a b p q : ℕ) → k ≤ 256 → Under k a b p q → a * q * 17592186044416 ≤ p * b * 17592186044417
within k a b p q h x =
    let u : a * q * lo k * 17592186044416 ≤ p * b * hi k * 17592186044416 = mul-le-mul_right 17592186044416 x in
    let v : p * b * (hi k * 17592186044416) ≤ p * b * (lo k * 17592186044417) = mul-le-mul_left (p * b) (tight k h) in
    let l : a * q * 17592186044416 * lo k ≡ a * q * lo k * 17592186044416 = simp (mul_assoc, mul_comm, mul_left_comm) in
    let m : p * b * hi k * 17592186044416 ≡ p * b * (hi k * 17592186044416) = mul_assoc (p * b) (hi k) 17592186044416 in
    let r : p * b * (lo k * 17592186044417) ≡ p * b * 17592186044417 * lo k = simp (mul_assoc, mul_comm, mul_left_comm) in
    le_of_mul-le-mul_right (le_trans (le_of_eq l) (le_trans u (le_trans (le_of_eq m) (le_trans v (le_of_eq r))))) (lo_pos k)

double : (x y : ℕ) → x * 17592186044416 ≤ y * 17592186044417 → x ≤ y * 2
double x y h = omega arith

pub twice : (k a b p q : ℕ) → k ≤ 256 → Under k a b p q → a * q ≤ p * b * 2
twice k a b p q h x = double (a * q) (p * b) (within k a b p q h x)

-- a value below a zero fraction is zero
pub above_zero : (k a b p q : ℕ) → 0 < q → Under k a b p q → 0 < a → 0 < p
above_zero k a b p q Q x A =
    lt_of_mul-lt-mul_right (b * hi k)
    (lt_of_lt_of_le (lt_of_le_of_lt (le_of_eq (zero-mul (b * hi k))) (mul-pos (mul-pos A Q) (lo_pos k))) (le_trans x (le_of_eq (mul_assoc p b (hi k)))))
