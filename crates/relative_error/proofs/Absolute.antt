-- From relative to absolute error: a float close to a fraction that is at most m lies within 1 / e of it, where m * e is at most 2 ^ 44.
use Prim.Native.Nat.{ℕ, ◌+◌, ◌*◌, ◌≤◌, ◌<◌}
use native.Mathlib.Nat.{le_trans, le_of_eq, mul_assoc, mul_right_comm, mul-le-mul_left, mul-le-mul_right, le_of_mul-le-mul_right}
use native.Mathlib.Omega.{arith, max_cases}
use lib.Dec.{lit<}
use lib.Ieee.{Float}
use lib.Ieee.Positive.{num, den}
use Rattle.model.specs.Fraction.{Fraction}
use Rattle.relative_error.specs.Close.{Close, Within}
use Rattle.relative_error.proofs.Ratio.{within}

-- over c = 2 ^ 44 as a variable
part : (P Q m e c : ℕ) → P ≤ Q * m → m * e ≤ c → P * e ≤ Q * c
part P Q m e c h k = le_trans (mul-le-mul_right e h) (le_trans (le_of_eq (mul_assoc Q m e)) (mul-le-mul_left Q k))

up : (A P Q m e c : ℕ) → 0 < c → A * c ≤ P * c + P → P ≤ Q * m → m * e ≤ c → A * e ≤ P * e + Q
up A P Q m e c C h k l =
    let u : A * c * e ≤ (P * c + P) * e = mul-le-mul_right e h in
    let v : P * e ≤ Q * c = part P Q m e c k l in
    le_of_mul-le-mul_right (omega arith) C

down : (A P Q m e c : ℕ) → 0 < c → P * c ≤ A * c + A → P ≤ Q * m → m * e ≤ c → P * e ≤ A * e + Q
down A P Q m e c C h k l =
    max_cases A P (P * e ≤ A * e + Q)
    (λ (x : A ≤ P) y. up P A Q m e c C h (le_trans x k) l)
    (λ (x : P ≤ A) y. let z : P * e ≤ A * e = mul-le-mul_right e x in omega arith)

pub close_near : {k d u : ℕ} {x : Float} {f : Fraction} (m e : ℕ) → k ≤ 256 → f.top ≤ f.bot * m → m * e ≤ 17592186044416 → Close k d u x f → Within e x f
close_near {k} {x = x} {f} m e K F L c =
    let p = f.top in
    let q = f.bot in
    let h : num x * q * 17592186044416 ≤ p * den x * 17592186044417 = within k (num x) (den x) p q K c.below in
    let j : p * den x * 17592186044416 ≤ num x * q * 17592186044417 = within k p q (num x) (den x) K c.above in
    let b : p * den x ≤ q * den x * m = le_trans (mul-le-mul_right (den x) F) (le_of_eq (mul_right_comm q m (den x))) in
    record {
      not_more = up (num x * q) (p * den x) (q * den x) m e 17592186044416 (lit< tt) (omega arith) b L;
      not_less = down (num x * q) (p * den x) (q * den x) m e 17592186044416 (lit< tt) (omega arith) b L;
    }
