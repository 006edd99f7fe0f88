-- Values: their order; the least and the greatest of a list, which no value is beyond and which keep to what all values keep to; their range; and 256 times one.
use mathlib.Core.Path.{◌≡◌, refl, sym, ap, ap₂, ◌∙◌}
use Prim.Native.Nat.{ℕ, suc, ◌+◌, ◌*◌, ◌≤◌, ◌<◌}
use native.Mathlib.Omega.{arith}
use mathlib.Core.Bool.{Bool, true, false, cond, and-eq-true_iff, false≢true}
use mathlib.Core.List.{List, [], ◌∷◌, ◌++◌, map, map-append}
use lib.IntN.{ℤ, pos, negsuc, nat_abs, ◌+ℤ◌, ◌-ℤ◌, ◌*ℤ◌}
use lib.Dec.{leb}
use lib.ListN.{length, length-map}
use lib.Signed.{mag, le_z, ◌≤ℤ◌, ≤ℤ_refl}
use borrow.Author.Tests.{le-leb, leb-false}
use Rattle.model.specs.Lists.{All}
use Rattle.model.specs.Point.{Point, in_range}
use Rattle.model.specs.Distance.{gap}
use Rattle.model.specs.Extent.{lesser, greater, values_by}
use Rattle.laws.proofs.ListLaws.{all_map, all_of_map}
use Rattle.laws.proofs.ThroughLaws.{through_last, through_keeps, through_all}
use Rattle.laws.proofs.DiffLaws.{diff, up, down, diff_of, diff_pos, diff_plus, diff_minus, diff_times, diff_same, abs_diff, parts_of_le, le_of_parts, diff_le}

pub ≤ℤ-trans : (a b c : ℤ) → a ≤ℤ b → b ≤ℤ c → a ≤ℤ c
≤ℤ-trans a b c h k = le_of_parts a c (omega (arith, parts_of_le a b h, parts_of_le b c k))

le_z_true : (a b : ℤ) → le_z a b ≡ true → a ≤ℤ b
le_z_true a b e = record { le = rw e tt }

le_z_false : (a b : ℤ) → le_z a b ≡ false → b ≤ℤ a
le_z_false (pos m) (pos n) e = le_of_parts (pos n) (pos m) (omega (arith, leb-false m n e))
le_z_false (pos m) (negsuc n) e = record { le = tt }
le_z_false (negsuc m) (pos n) e = absurd (false≢true (sym e))
le_z_false (negsuc m) (negsuc n) e = le_of_parts (negsuc n) (negsuc m) (omega (arith, leb-false n m e))

lesser_left : (a b : ℤ) → lesser a b ≤ℤ a
lesser_left a b = go (le_z a b) refl
  where
    go : (t : Bool) → le_z a b ≡ t → cond t a b ≤ℤ a
    go true e = ≤ℤ_refl a
    go false e = le_z_false a b e

lesser_right : (a b : ℤ) → lesser a b ≤ℤ b
lesser_right a b = go (le_z a b) refl
  where
    go : (t : Bool) → le_z a b ≡ t → cond t a b ≤ℤ b
    go true e = le_z_true a b e
    go false e = ≤ℤ_refl b

greater_left : (a b : ℤ) → a ≤ℤ greater a b
greater_left a b = go (le_z a b) refl
  where
    go : (t : Bool) → le_z a b ≡ t → a ≤ℤ cond t b a
    go true e = le_z_true a b e
    go false e = ≤ℤ_refl a

greater_right : (a b : ℤ) → b ≤ℤ greater a b
greater_right a b = go (le_z a b) refl
  where
    go : (t : Bool) → le_z a b ≡ t → b ≤ℤ cond t b a
    go true e = ≤ℤ_refl b
    go false e = le_z_false a b e

pub least_all : (l : List Point) → All (λ a. values_by lesser l ≤ℤ a.z) l
unfolding values_by
least_all l =
    all_of_map (λ z. values_by lesser l ≤ℤ z) (λ (a : Point). a.z) l
    (through_all (pos 0) lesser ◌≤ℤ◌ ≤ℤ_refl ≤ℤ-trans lesser_left lesser_right (map (λ (a : Point). a.z) l))

pub greatest_all : (l : List Point) → All (λ a. a.z ≤ℤ values_by greater l) l
unfolding values_by
greatest_all l =
    all_of_map (λ z. z ≤ℤ values_by greater l) (λ (a : Point). a.z) l
    (through_all (pos 0) greater (λ a b. b ≤ℤ a) ≤ℤ_refl (λ a b c h k. ≤ℤ-trans c b a k h) greater_left greater_right (map (λ (a : Point). a.z) l))

pub values_last : (op : ℤ → ℤ → ℤ) (l : List Point) (b : Point) → 0 < length l → values_by op (l ++ (b ∷ [])) ≡ op (values_by op l) b.z
unfolding values_by
values_last op l b h =
    rw (map-append (λ (a : Point). a.z) l (b ∷ []))
    (through_last (pos 0) op (map (λ (a : Point). a.z) l) b.z (omega (arith, length-map l (λ (a : Point). a.z))))

one_of : (P : ℤ → Type 0) (t : Bool) (a b : ℤ) → P a → P b → P (cond t a b)
one_of P true a b p q = p
one_of P false a b p q = q

pub least_keeps : (P : ℤ → Type 0) (l : List Point) → P (pos 0) → All (λ a. P a.z) l → P (values_by lesser l)
unfolding values_by
least_keeps P l z h =
    through_keeps (pos 0) lesser P (λ a b p q. one_of P (le_z a b) a b p q) (map (λ (a : Point). a.z) l) z (all_map P (λ (a : Point). a.z) l h)

pub greatest_keeps : (P : ℤ → Type 0) (l : List Point) → P (pos 0) → All (λ a. P a.z) l → P (values_by greater l)
unfolding values_by
greatest_keeps P l z h =
    through_keeps (pos 0) greater P (λ a b p q. one_of P (le_z a b) b a q p) (map (λ (a : Point). a.z) l) z (all_map P (λ (a : Point). a.z) l h)

-- the ends of the value range
pub range_ends : (z : ℤ) → in_range z ≡ true → (negsuc 127 ≤ℤ z) × (z ≤ℤ pos 127)
range_ends z h =
    let t = (and-eq-true_iff (le_z (negsuc 127) z) (le_z z (pos 127))).0 h in
    (le_z_true (negsuc 127) z t.0, le_z_true z (pos 127) t.1)

-- what eight bits with a sign hold is in range
pub byte_range : (z : ℤ) → mag z < 128 → in_range z ≡ true
byte_range (pos n) h = le-leb n 127 (omega arith)
byte_range (negsuc n) h = (and-eq-true_iff (leb n 127) true).1 (le-leb n 127 (omega arith), refl)

pub abs_apart : (z w : ℤ) → nat_abs (z -ℤ w) ≡ gap (up z + down w) (down z + up w)
abs_apart z w = ap nat_abs (ap₂ ◌-ℤ◌ (diff_of z) (diff_of w) ∙ diff_minus (up z) (down z) (up w) (down w)) ∙ abs_diff (up z + down w) (down z + up w)

-- what a number is above another one
pub above : (least z : ℤ) → least ≤ℤ z → z ≡ least +ℤ pos (nat_abs (z -ℤ least))
above least z h =
    let e = abs_apart z least in
    let l = parts_of_le least z h in
    diff_of z
    ∙ diff_same (up z) (down z) (up least + nat_abs (z -ℤ least)) (down least + 0) (omega arith)
    ∙ sym (ap₂ ◌+ℤ◌ (diff_of least) (diff_pos (nat_abs (z -ℤ least))) ∙ diff_plus (up least) (down least) (nat_abs (z -ℤ least)) 0)

-- two values in range are at most 255 apart
pub spread : (least z : ℤ) → in_range least ≡ true → in_range z ≡ true → nat_abs (z -ℤ least) ≤ 255
spread least z g h =
    let e = abs_apart z least in
    let a = range_ends least g in
    let b = range_ends z h in
    omega (arith, parts_of_le (negsuc 127) least a.0, parts_of_le least (pos 127) a.1, parts_of_le (negsuc 127) z b.0, parts_of_le z (pos 127) b.1)

-- 256 times a number, as a difference
pub scaled : (z : ℤ) → pos 256 *ℤ z ≡ diff (256 * up z) (256 * down z)
scaled z =
    ap₂ ◌*ℤ◌ (diff_pos 256) (diff_of z)
    ∙ diff_times 256 0 (up z) (down z)
    ∙ diff_same (256 * up z + 0 * down z) (256 * down z + 0 * up z) (256 * up z) (256 * down z) (omega arith)

pub scaled_le : (z w : ℤ) → z ≤ℤ w → (pos 256 *ℤ z) ≤ℤ (pos 256 *ℤ w)
scaled_le z w h = rw (scaled z, scaled w) (diff_le (256 * up z) (256 * down z) (256 * up w) (256 * down w) (omega (arith, parts_of_le z w h)))

-- a number raised by another that is not negative
pub raised : (z : ℤ) (k : ℕ) → (pos 256 *ℤ z) +ℤ pos k ≡ diff (256 * up z + k) (256 * down z)
raised z k =
    ap₂ ◌+ℤ◌ (scaled z) (diff_pos k)
    ∙ diff_plus (256 * up z) (256 * down z) k 0
    ∙ diff_same (256 * up z + k) (256 * down z + 0) (256 * up z + k) (256 * down z) (omega arith)

-- a number from -(n + 1) to n
pub mag_below : (z : ℤ) (n : ℕ) → negsuc n ≤ℤ z → z ≤ℤ pos n → mag z < suc n
mag_below (pos m) n h k = omega (arith, parts_of_le (pos m) (pos n) k)
mag_below (negsuc m) n h k = omega (arith, parts_of_le (negsuc n) (negsuc m) h)
