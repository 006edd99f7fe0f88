-- Signed numbers as differences of two natural ones: so a fact of sums, products and order of signed numbers is one of natural numbers.
use mathlib.Core.Path.{◌≡◌, refl, sym, ap, ap₂, ◌∙◌}
use mathlib.Core.Logic.{◌↔◌}
use Prim.Native.Nat.{ℕ, zero, suc, ◌+◌, ◌-◌, ◌*◌, ◌≤◌}
use native.Mathlib.Nat.{add-zero, add_comm}
use native.Mathlib.Omega.{arith}
use mathlib.Core.Bool.{Bool, true, false, cond}
use lib.Dec.{T, ltb, leb→le, le→leb}
use lib.IntN.{ℤ, pos, negsuc, neg_ℤ, nat_abs, ◌+ℤ◌, ◌-ℤ◌, ◌*ℤ◌, +ℤ_idl, +ℤ_idr, +ℤ_assoc, +ℤ_comm, +ℤ_invr, neg_ℤ-+ℤ, neg_ℤ-neg_ℤ}
use lib.Signed.{le_z, ◌≤ℤ◌}
use borrow.Author.Tests.{ltb-true, ltb-false}
use Rattle.model.specs.Distance.{gap}
use Rattle.laws.proofs.IntLaws.{abs_minus}

unfoldable pub diff : ℕ → ℕ → ℤ
diff m n = pos m -ℤ pos n

-- what is above zero of a number, and what is below
abbrev pub up : ℤ → ℕ
up (pos n) = n
up (negsuc n) = 0

abbrev pub down : ℤ → ℕ
down (pos n) = 0
down (negsuc n) = suc n

pub diff_of : (z : ℤ) → z ≡ diff (up z) (down z)
unfolding diff
diff_of (pos n) = ap pos (sym (add-zero n))
diff_of (negsuc n) = sym (+ℤ_idl (negsuc n))

pub diff_pos : (n : ℕ) → pos n ≡ diff n 0
diff_pos n = diff_of (pos n)

crossed : (a b c d : ℤ) → (a +ℤ b) +ℤ (c +ℤ d) ≡ (a +ℤ c) +ℤ (b +ℤ d)
crossed a b c d =
    +ℤ_assoc a b (c +ℤ d)
    ∙ ap (λ (z : ℤ). a +ℤ z) (sym (+ℤ_assoc b c d) ∙ ap (λ (z : ℤ). z +ℤ d) (+ℤ_comm b c) ∙ +ℤ_assoc c b d)
    ∙ sym (+ℤ_assoc a c (b +ℤ d))

pub diff_plus : (a b c d : ℕ) → diff a b +ℤ diff c d ≡ diff (a + c) (b + d)
unfolding diff
diff_plus a b c d = crossed (pos a) (neg_ℤ (pos b)) (pos c) (neg_ℤ (pos d)) ∙ ap (λ (z : ℤ). pos (a + c) +ℤ z) (sym (neg_ℤ-+ℤ (pos b) (pos d)))

pub diff_neg : (a b : ℕ) → neg_ℤ (diff a b) ≡ diff b a
unfolding diff
diff_neg a b = neg_ℤ-+ℤ (pos a) (neg_ℤ (pos b)) ∙ ap (λ (z : ℤ). neg_ℤ (pos a) +ℤ z) (neg_ℤ-neg_ℤ (pos b)) ∙ +ℤ_comm (neg_ℤ (pos a)) (pos b)

pub diff_minus : (a b c d : ℕ) → diff a b -ℤ diff c d ≡ diff (a + d) (b + c)
diff_minus a b c d = ap (λ (z : ℤ). diff a b +ℤ z) (diff_neg c d) ∙ diff_plus a b d c

nothing : (z : ℤ) (n : ℕ) → z ≡ z +ℤ diff n n
unfolding diff
nothing z n = sym (ap (λ (w : ℤ). z +ℤ w) (+ℤ_invr (pos n)) ∙ +ℤ_idr z)

pub diff_same : (a b c d : ℕ) → a + d ≡ c + b → diff a b ≡ diff c d
diff_same a b c d e =
    nothing (diff a b) d
    ∙ diff_plus a b d d
    ∙ ap₂ diff e (add_comm b d)
    ∙ sym (diff_plus c d b b)
    ∙ sym (nothing (diff c d) b)

-- the parts of a difference
pub diff_parts : (a b : ℕ) → up (diff a b) + b ≡ a + down (diff a b)
unfolding diff
diff_parts a zero = omega arith
diff_parts a (suc b) = go (ltb a (suc b)) refl
  where
    go : (t : Bool) → ltb a (suc b) ≡ t → let z : ℤ = cond t (negsuc (suc b - suc a)) (pos (a - suc b)) in up z + suc b ≡ a + down z
    go true e = omega (arith, ltb-true a (suc b) e)
    go false e = omega (arith, ltb-false a (suc b) e)

times_parts : (z w : ℤ) → z *ℤ w ≡ diff (up z * up w + down z * down w) (up z * down w + down z * up w)
times_parts (pos m) (pos n) = diff_pos (m * n) ∙ diff_same (m * n) 0 (m * n + 0 * 0) (m * 0 + 0 * n) (omega arith)
times_parts (pos m) (negsuc n) =
    ap neg_ℤ (diff_pos (m * suc n)) ∙ diff_neg (m * suc n) 0 ∙ diff_same 0 (m * suc n) (m * 0 + 0 * suc n) (m * suc n + 0 * 0) (omega arith)
times_parts (negsuc m) (pos n) =
    ap neg_ℤ (diff_pos (suc m * n)) ∙ diff_neg (suc m * n) 0 ∙ diff_same 0 (suc m * n) (0 * n + suc m * 0) (0 * 0 + suc m * n) (omega arith)
times_parts (negsuc m) (negsuc n) =
    diff_pos (suc m * suc n) ∙ diff_same (suc m * suc n) 0 (0 * 0 + suc m * suc n) (0 * suc n + suc m * 0) (omega arith)

-- (u - v) (u' - v') is (a - b) (c - d) where the factors are
multiplied : (a b c d u v u' v' : ℕ) → u + b ≡ a + v → u' + d ≡ c + v' → u * u' + v * v' + (a * d + b * c) ≡ a * c + b * d + (u * v' + v * u')
multiplied a b c d u v u' v' e f =
    let p : (u + b) * u' ≡ (a + v) * u' = ap (λ (n : ℕ). n * u') e in
    let q : (u + b) * v' ≡ (a + v) * v' = ap (λ (n : ℕ). n * v') e in
    let r : a * (u' + d) ≡ a * (c + v') = ap (λ (n : ℕ). a * n) f in
    let s : b * (u' + d) ≡ b * (c + v') = ap (λ (n : ℕ). b * n) f in
    omega arith

pub diff_times : (a b c d : ℕ) → diff a b *ℤ diff c d ≡ diff (a * c + b * d) (a * d + b * c)
diff_times a b c d =
    let z = diff a b in
    let w = diff c d in
    times_parts z w
    ∙ diff_same (up z * up w + down z * down w) (up z * down w + down z * up w) (a * c + b * d) (a * d + b * c)
    (multiplied a b c d (up z) (down z) (up w) (down w) (diff_parts a b) (diff_parts c d))

pub abs_diff : (a b : ℕ) → nat_abs (diff a b) ≡ gap a b
unfolding diff
abs_diff a b = abs_minus a b

abs_parts : (z : ℤ) → nat_abs z ≡ up z + down z
abs_parts (pos n) = omega arith
abs_parts (negsuc n) = omega arith

-- a sum is no larger than its parts together
pub abs_sum : (z w : ℤ) → nat_abs (z +ℤ w) ≤ nat_abs z + nat_abs w
abs_sum z w =
    let e : nat_abs (z +ℤ w) ≡ gap (up z + up w) (down z + down w) =
    ap nat_abs (ap₂ ◌+ℤ◌ (diff_of z) (diff_of w) ∙ diff_plus (up z) (down z) (up w) (down w)) ∙ abs_diff (up z + up w) (down z + down w) in
    omega (arith, abs_parts z, abs_parts w)

le_parts : (z w : ℤ) → (T (le_z z w)) ↔ (up z + down w ≤ up w + down z)
le_parts (pos m) (pos n) = ((λ h. omega (arith, leb→le m n h)), λ h. le→leb m n (omega arith))
le_parts (pos m) (negsuc n) = ((λ h. absurd h), λ h. absurd (omega arith))
le_parts (negsuc m) (pos n) = ((λ h. omega arith), λ h. tt)
le_parts (negsuc m) (negsuc n) = ((λ h. omega (arith, leb→le n m h)), λ h. le→leb n m (omega arith))

-- the order of two numbers, by their parts
pub parts_of_le : (z w : ℤ) → z ≤ℤ w → up z + down w ≤ up w + down z
parts_of_le z w h = (le_parts z w).0 h.le

pub le_of_parts : (z w : ℤ) → up z + down w ≤ up w + down z → z ≤ℤ w
le_of_parts z w h = record { le = (le_parts z w).1 h }

pub diff_le : (a b c d : ℕ) → a + d ≤ c + b → diff a b ≤ℤ diff c d
diff_le a b c d h =
    let p = diff_parts a b in
    let q = diff_parts c d in
    le_of_parts (diff a b) (diff c d) (omega arith)
