-- The range of an exact fraction through the operations.
use mathlib.Core.Path.{◌≡◌, sym, ap, ◌∙◌, subst}
use mathlib.Core.Logic.{⊎_elim}
use Prim.Native.Nat.{ℕ, ◌+◌, ◌*◌, ◌^◌, ◌≤◌, ◌<◌}
use native.Mathlib.Nat.{le_trans, le_of_eq, eq-zero-or-pos, zero-mul, one-mul, add-mul, mul-one, mul_assoc, mul_comm, mul_left_comm, mul_right_comm, mul-le-mul, mul-le-mul_left, mul-le-mul_right, le_of_mul-le-mul_right}
use native.Mathlib.Omega.{arith}
use lib.Pow.{pow-add, pow_mono}
use lib.Ieee.Positive.{first_pos}
use Rattle.model.specs.Fraction.{Fraction, whole, plus, times, over}
use Rattle.relative_error.specs.Close.{Range, Under}
use Rattle.relative_error.proofs.Ratio.{twice, above_zero}

pub wider : {d u d' u' : ℕ} {f : Fraction} → d ≤ d' → u ≤ u' → Range d u f → Range d' u' f
wider {f = f} D U r = record {
  most = le_trans r.most (mul-le-mul_left f.bot (pow_mono U));
  least = λ p. le_trans (r.least p) (mul-le-mul_left f.top (pow_mono D));
}

pub of_whole : (n u : ℕ) → n ≤ 2 ^ u → Range 0 u (whole n)
unfolding whole
of_whole n u h = record { most = le_trans h (le_of_eq (sym (one-mul (2 ^ u)))); least = λ p. le_trans p (le_of_eq (sym (mul-one n))) }

-- a ≤ b * 2 ^ i and c ≤ e * 2 ^ j, multiplied
cross : (a b c e i j : ℕ) → a ≤ b * 2 ^ i → c ≤ e * 2 ^ j → a * c ≤ b * e * 2 ^ (i + j)
cross a b c e i j h k =
    let r : b * 2 ^ i * (e * 2 ^ j) ≡ b * e * 2 ^ (i + j) = simp (pow-add, mul_assoc, mul_left_comm) in
    le_trans (mul-le-mul h k) (le_of_eq r)

second_pos : (n u : ℕ) → 0 < n * u → 0 < u
second_pos n u h = first_pos u n (subst (λ (z : ℕ). 0 < z) (mul_comm n u) h)

pub of_times : {d u d' u' : ℕ} {f g : Fraction} → Range d u f → Range d' u' g → Range (d + d') (u + u') (times f g)
unfolding times
of_times {d} {u} {d'} {u'} {f} {g} r s = record {
  most = cross f.top f.bot g.top g.bot u u' r.most s.most;
  least = λ p. cross f.bot f.top g.bot g.top d d' (r.least (first_pos f.top g.top p)) (s.least (second_pos f.top g.top p));
}

pub of_over : {d u d' u' : ℕ} {f g : Fraction} → 0 < g.top → Range d u f → Range d' u' g → Range (d + u') (u + d') (over f g)
unfolding over
of_over {d} {u} {d'} {u'} {f} {g} G r s = record {
  most = cross f.top f.bot g.bot g.top u d' r.most (s.least G);
  least = λ p. cross f.bot f.top g.top g.bot d u' (r.least (first_pos f.top g.bot p)) s.most;
}

-- a sum: from below by either part that is not zero
from_left : (p q p' q' m : ℕ) → q ≤ p * m → q * q' ≤ (p * q' + p' * q) * m
from_left p q p' q' m h =
    let a : q * q' ≤ p * m * q' = mul-le-mul_right q' h in
    let b : p * m * q' ≡ p * q' * m = mul_right_comm p m q' in
    omega (arith, add-mul (p * q') (p' * q) m)

from_right : (p q p' q' m : ℕ) → q' ≤ p' * m → q * q' ≤ (p * q' + p' * q) * m
from_right p q p' q' m h =
    let a : q' * q ≤ p' * m * q = mul-le-mul_right q h in
    let b : p' * m * q ≡ p' * q * m = mul_right_comm p' m q in
    omega (arith, add-mul (p * q') (p' * q) m, mul_comm q' q)

zero_sum : (p q p' q' : ℕ) → p ≡ 0 → 0 < p * q' + p' * q → 0 < p' * q
zero_sum p q p' q' z h = let e : p * q' ≡ 0 = ap (λ (x : ℕ). x * q') z ∙ zero-mul q' in omega arith

pub of_plus : {d u : ℕ} {f g : Fraction} → Range d u f → Range d u g → Range d (u + 1) (plus f g)
unfolding plus
of_plus {d} {u} {f} {g} r s =
    let p = f.top in
    let q = f.bot in
    let p' = g.top in
    let q' = g.bot in
    let m = 2 ^ u in
    let a : p * q' ≤ q * m * q' = mul-le-mul_right q' r.most in
    let b : p' * q ≤ q' * m * q = mul-le-mul_right q s.most in
    let a' : q * m * q' ≡ q * q' * m = mul_right_comm q m q' in
    let b' : q' * m * q ≡ q * q' * m = simp (mul_assoc, mul_comm, mul_left_comm) in
    let c : q * q' * 2 ^ (u + 1) ≡ q * q' * m * 2 = ap (λ (z : ℕ). q * q' * z) (pow-add 2 u 1) ∙ sym (mul_assoc (q * q') m 2) in
    record {
      most = omega arith;
      least = λ h. ⊎_elim (λ z. from_right p q p' q' (2 ^ d) (s.least (first_pos p' q (zero_sum p q p' q' z h)))) (λ A. from_left p q p' q' (2 ^ d) (r.least A)) (eq-zero-or-pos p);
    }

-- what lies near a fraction of a range is in the range, a factor of two wider
one_more : (b u : ℕ) → b * 2 ^ u * 2 ≡ b * 2 ^ (u + 1)
one_more b u = mul_assoc b (2 ^ u) 2 ∙ ap (λ (z : ℕ). b * z) (sym (pow-add 2 u 1))

-- a / b ≤ 2 * p / q and p / q ≤ 2 ^ u
lift : (a b p q u : ℕ) → 0 < q → a * q ≤ p * b * 2 → p ≤ q * 2 ^ u → a ≤ b * 2 ^ (u + 1)
lift a b p q u Q h k =
    let v : p * b * 2 ≤ q * 2 ^ u * b * 2 = mul-le-mul_right 2 (mul-le-mul_right b k) in
    let r : q * 2 ^ u * b * 2 ≡ b * 2 ^ u * 2 * q = ap (λ (z : ℕ). z * 2) (mul_right_comm q (2 ^ u) b ∙ mul_assoc q b (2 ^ u) ∙ mul_comm q (b * 2 ^ u)) ∙ mul_right_comm (b * 2 ^ u) q 2 in
    le_of_mul-le-mul_right (le_trans h (le_trans v (le_of_eq (r ∙ ap (λ (z : ℕ). z * q) (one_more b u))))) Q

pub of_near : (k a b : ℕ) {d u : ℕ} {f : Fraction} → k ≤ 256 → 0 < f.bot → Under k a b f.top f.bot → Under k f.top f.bot a b → Range d u f
    → Range (d + 1) (u + 1) (record { top = a; bot = b })
of_near k a b {d} {u} {f} K Q x y r = record {
  most = lift a b f.top f.bot u Q (twice k a b f.top f.bot K x) r.most;
  least = λ A.
      let P : 0 < f.top = above_zero k a b f.top f.bot Q x A in
      lift b a f.bot f.top d P (le_trans (le_of_eq (mul_comm b f.top)) (le_trans (twice k f.top f.bot a b K y) (le_of_eq (ap (λ (z : ℕ). z * 2) (mul_comm a f.bot))))) (r.least P);
}
