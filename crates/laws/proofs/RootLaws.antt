-- `root n` is the greatest whole number whose square does not exceed n, and nothing else is: so are a distance and the initial radius.
use mathlib.Core.Path.{◌≡◌, refl}
use mathlib.Core.Logic.{◌↔◌}
use Prim.Native.Nat.{ℕ, zero, suc, ◌+◌, ◌*◌, ◌/◌, ◌≤◌, ◌<◌}
use native.Mathlib.Nat.{le_antisymm, mul-le-mul, le-div_iff_mul-le, lt_of_lt_of_le, lt_of_le_of_lt, lt_irrefl}
use native.Mathlib.Omega.{arith}
use native.Mathlib.Decide.{dec_le}
use mathlib.Core.Bool.{Bool, true, false, cond}
use lib.Dec.{leb, eqb}
use borrow.Author.Tests.{leb-true, leb-false, eqb-true, eqb-false}
use Rattle.model.specs.Distance.{IsRoot, root_step, root_in, root, distance_of}
use Rattle.model.specs.Radius.{IsRadius, radius_of}

-- a square is monotone, and its inverse
pub sq_le : {a b : ℕ} → a ≤ b → a * a ≤ b * b
sq_le h = mul-le-mul h h

lt_of_sq_lt : (a b : ℕ) → a * a < b * b → a < b
lt_of_sq_lt a b h = elim (dec_le b a) [ yes g ↦ absurd (lt_irrefl _ (lt_of_lt_of_le h (sq_le g))) | no g ↦ omega arith ]

-- what IsRoot says determines r
pub root_le : {n m r s : ℕ} → IsRoot n r → IsRoot m s → n ≤ m → r ≤ s
root_le {n} {m} {r} {s} h k le =
    let g : r < s + 1 = lt_of_sq_lt r (s + 1) (lt_of_le_of_lt h.low (lt_of_le_of_lt le k.high)) in
    omega arith

root_unique : {n r s : ℕ} → IsRoot n r → IsRoot n s → r ≡ s
root_unique h k = le_antisymm (root_le h k (omega arith)) (root_le k h (omega arith))

step : (n r : ℕ) (t : Bool) → leb ((2 * r + 1) * (2 * r + 1)) n ≡ t → IsRoot (n / 4) r → IsRoot n (cond t (2 * r + 1) (2 * r))
step n r true e h =
    let g : (2 * r + 1) * (2 * r + 1) ≤ n = leb-true _ _ e in
    let l : r * r ≤ n / 4 = h.low in
    let u : n / 4 < (r + 1) * (r + 1) = h.high in
    record { low = g; high = omega arith }
step n r false e h =
    let g : n < (2 * r + 1) * (2 * r + 1) = leb-false _ _ e in
    let l : r * r ≤ n / 4 = h.low in
    let u : n / 4 < (r + 1) * (r + 1) = h.high in
    record { low = omega arith; high = g }

root_step_is : (n r : ℕ) → IsRoot (n / 4) r → IsRoot n (root_step n r)
unfolding root_step
root_step_is n r h = step n r (leb ((2 * r + 1) * (2 * r + 1)) n) refl h

root_in_is : (k n : ℕ) → n ≤ k → IsRoot n (root_in k n)
unfolding root_in
root_in_is zero n h = record { low = omega arith; high = omega arith }
root_in_is (suc k) n h = go (eqb n 0) refl (λ p. root_in_is k (n / 4) p)
  where
    go : (t : Bool) → eqb n 0 ≡ t → (n / 4 ≤ k → IsRoot (n / 4) (root_in k (n / 4)))
        → IsRoot n (elim t [ true ↦ 0 | false ↦ root_step n (root_in k (n / 4)) ])
    go true e ih = let z : n ≡ 0 = eqb-true _ _ e in record { low = omega arith; high = omega arith }
    go false e ih = let z : n ≡ 0 → ⊥ = eqb-false _ _ e in root_step_is n _ (ih (omega arith))

pub root_is : (n : ℕ) → IsRoot n (root n)
unfolding root
root_is n = root_in_is n n (omega arith)

-- the way to show that a number is the root
pub is_root : {n r : ℕ} → IsRoot n r → r ≡ root n
is_root {n} h = root_unique h (root_is n)

-- to compare a root with a bound takes no root
root_above : (n r : ℕ) → r * r ≤ n → r ≤ root n
root_above n r h = let g : r < root n + 1 = lt_of_sq_lt r (root n + 1) (lt_of_le_of_lt h (root_is n).high) in omega arith

root_below : (n r : ℕ) → n < r * r → root n < r
root_below n r h = lt_of_sq_lt (root n) r (lt_of_le_of_lt (root_is n).low h)

pub root_le_iff : (n b : ℕ) → (root n ≤ b) ↔ (n < (b + 1) * (b + 1))
root_le_iff n b = (
  (λ h. lt_of_lt_of_le (root_is n).high (sq_le {a = root n + 1} {b = b + 1} (omega arith))),
  λ h. let l = root_below n (b + 1) h in omega arith,
)

-- D ≤ R0 without a root
pub distance_le_iff : (n b : ℕ) → (distance_of n ≤ b) ↔ (65536 * n < (b + 1) * (b + 1))
unfolding distance_of
distance_le_iff n b = root_le_iff (65536 * n) b

-- a distance is 0 of a squared distance of 0 alone
pub distance_pos : (n : ℕ) → 0 < n → 0 < distance_of n
distance_pos n h = elim (dec_le 1 (distance_of n)) [
  | yes g ↦ g
  | no g ↦ let l : 65536 * n < (0 + 1) * (0 + 1) = (distance_le_iff n 0).0 (omega arith) in absurd (omega arith)
]

-- the root of a quotient: the greatest r with r² * b ≤ a
root_quotient_low : (a b : ℕ) → 0 < b → root (a / b) * root (a / b) * b ≤ a
root_quotient_low a b pos = (le-div_iff_mul-le pos).0 (root_is (a / b)).low

root_quotient_high : (a b r : ℕ) → 0 < b → r * r * b ≤ a → r ≤ root (a / b)
root_quotient_high a b r pos h = root_above (a / b) r ((le-div_iff_mul-le pos).1 h)

-- R0 as the documents have it
pub radius_is : (a n : ℕ) → 0 < n → IsRadius a n (radius_of a n)
unfolding radius_of
radius_is a n pos =
    let q = root_quotient_low (65536 * 7 * 113 * a) (355 * n * 2) (omega arith) in
    record {
      fits = omega arith;
      greatest = λ s h. root_quotient_high (65536 * 7 * 113 * a) (355 * n * 2) s (omega arith) (omega arith);
    }
