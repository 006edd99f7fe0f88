-- Bounds of exact sums: above zero where one part is, and at most m times another sum where each part is.
use mathlib.Core.Path.{◌≡◌, sym, subst}
use mathlib.Core.Logic.{⊎_elim}
use Prim.Native.Nat.{ℕ, zero, suc, ◌+◌, ◌*◌, ◌≤◌, ◌<◌}
use native.Mathlib.Nat.{le_trans, le_of_eq, le_of_suc-le-suc, lt_of_lt_of_le, lt-suc_self, not-suc-le-zero, eq-or-lt_of_le, le-add_right, le-add_left, add-le-add, add-mul, zero-mul, mul_assoc, mul_comm, mul_left_comm, mul-pos, mul-le-mul_right}
use native.Mathlib.Omega.{arith}
use lib.Dec.{lit<}
use Rattle.model.specs.Fraction.{Fraction, whole, plus, sum}

pub sum_proper : (h : ℕ → Fraction) (n : ℕ) → ((i : ℕ) → i < n → 0 < (h i).bot) → 0 < (sum h n).bot
unfolding sum whole plus
sum_proper h zero B = lit< tt
sum_proper h (suc n) B = mul-pos (sum_proper h n (λ i l. B i (omega arith))) (B n (lt-suc_self n))

pub sum_pos : (h : ℕ → Fraction) (n j : ℕ) → ((i : ℕ) → i < n → 0 < (h i).bot) → j < n → 0 < (h j).top → 0 < (sum h n).top
unfolding sum whole plus
sum_pos h zero j B l p = absurd (not-suc-le-zero l)
sum_pos h (suc n) j B l p =
    let S = sum h n in
    ⊎_elim
    (λ (e : j ≡ n). lt_of_lt_of_le (mul-pos (subst (λ (i : ℕ). 0 < (h i).top) e p) (sum_proper h n (λ i k. B i (omega arith)))) (le-add_left ((h n).top * S.bot) (S.top * (h n).bot)))
    (λ (k : j < n). lt_of_lt_of_le (mul-pos (sum_pos h n j (λ i k. B i (omega arith)) k p) (B n (lt-suc_self n))) (le-add_right (S.top * (h n).bot) ((h n).top * S.bot)))
    (eq-or-lt_of_le (le_of_suc-le-suc l))

-- f is at most m times g
abbrev pub AtMost : ℕ → Fraction → Fraction → Type 0
AtMost m f g = f.top * g.bot ≤ g.top * f.bot * m

two_parts : (m p q r s p' q' r' s' : ℕ) → p * s ≤ r * q * m → p' * s' ≤ r' * q' * m → (p * q' + p' * q) * (s * s') ≤ (r * s' + r' * s) * (q * q') * m
two_parts m p q r s p' q' r' s' x y =
    let u : p * s * (q' * s') + p' * s' * (q * s) ≤ r * q * m * (q' * s') + r' * q' * m * (q * s) = add-le-add (mul-le-mul_right (q' * s') x) (mul-le-mul_right (q * s) y) in
    let l : (p * q' + p' * q) * (s * s') ≡ p * s * (q' * s') + p' * s' * (q * s) = simp (add-mul, mul_assoc, mul_comm, mul_left_comm) in
    let e : r * q * m * (q' * s') + r' * q' * m * (q * s) ≡ (r * s' + r' * s) * (q * q') * m = simp (add-mul, mul_assoc, mul_comm, mul_left_comm) in
    le_trans (le_of_eq l) (le_trans u (le_of_eq e))

pub sum_at_most : (m : ℕ) (g h : ℕ → Fraction) (n : ℕ) → ((i : ℕ) → i < n → AtMost m (g i) (h i)) → AtMost m (sum g n) (sum h n)
unfolding sum whole plus
sum_at_most m g h zero a = le_of_eq (sym (zero-mul m))
sum_at_most m g h (suc n) a =
    let G = sum g n in
    let H = sum h n in
    two_parts m G.top G.bot H.top H.bot (g n).top (g n).bot (h n).top (h n).bot (sum_at_most m g h n (λ i l. a i (omega arith))) (a n (lt-suc_self n))
