-- 256 times a value, and that with some 256ths added, fit the widths in which they are worked out.
use mathlib.Core.Path.{◌≡◌, sym}
use Prim.Native.Nat.{ℕ, suc, ◌+◌, ◌*◌, ◌≤◌, ◌<◌}
use native.Mathlib.Omega.{arith}
use lib.IntN.{ℤ, pos, negsuc, ◌+ℤ◌, ◌*ℤ◌, +ℤ_idr}
use lib.Signed.{mag, ◌≤ℤ◌}
use mir.Syntax.{w8, w16, w32}
use mir.Val.{SFits, to_z, of_z}
use mir.Facts.{to_z-of_z, to_z_pos}
use Rattle.laws.proofs.DiffLaws.{up, down, diff_of, diff_pos, diff_le}
use Rattle.laws.proofs.ValueLaws.{≤ℤ-trans, raised, mag_below}

parts : (z : ℤ) → mag z < 128 → (up z ≤ 127) × (down z ≤ 128)
parts (pos n) h = (omega arith, omega arith)
parts (negsuc n) h = (omega arith, omega arith)

sum_fits : (z : ℤ) (k n : ℕ) → mag z < 128 → 32768 ≤ suc n → ((pos 256 *ℤ z) +ℤ pos k) ≤ℤ pos n → mag ((pos 256 *ℤ z) +ℤ pos k) < suc n
sum_fits z k n h l u =
    mag_below ((pos 256 *ℤ z) +ℤ pos k) n
    (rw (raised z k, diff_of (negsuc n)) (diff_le 0 (suc n) (256 * up z + k) (256 * down z) (omega (arith, (parts z h).1))))
    u

sum_most : (z : ℤ) (k n : ℕ) → mag z < 128 → k + 32512 ≤ n → ((pos 256 *ℤ z) +ℤ pos k) ≤ℤ pos n
sum_most z k n h l = rw (raised z k, diff_pos n) (diff_le (256 * up z + k) (256 * down z) n 0 (omega (arith, (parts z h).0)))

module _ (z : ℤ) (f : SFits w8 z) where
  pub wider : SFits w32 z
  wider = record { sfits = omega (arith, f.sfits) }

  pub above_wide : (k : ℕ) → k ≤ 2097152 → SFits w32 ((pos 256 *ℤ z) +ℤ pos k)
  above_wide k h = record { sfits = sum_fits z k 2147483647 f.sfits (omega arith) (sum_most z k 2147483647 f.sfits (omega arith)) }

  pub scaled_wide : SFits w32 (pos 256 *ℤ z)
  scaled_wide = rw (sym (+ℤ_idr (pos 256 *ℤ z))) (above_wide 0 (omega arith))

  pub above_fits : (k : ℕ) → ((pos 256 *ℤ z) +ℤ pos k) ≤ℤ pos 32512 → SFits w16 ((pos 256 *ℤ z) +ℤ pos k)
  above_fits k h = record { sfits = sum_fits z k 32767 f.sfits (omega arith) (lower h) }
    where
      lower : ((pos 256 *ℤ z) +ℤ pos k) ≤ℤ pos 32512 → ((pos 256 *ℤ z) +ℤ pos k) ≤ℤ pos 32767
      lower g = ≤ℤ-trans ((pos 256 *ℤ z) +ℤ pos k) (pos 32512) (pos 32767) g (record { le = tt })

  -- 256 z + k as 32 bits work it out, from z in 8 bits and k in 64
  pub summed : (k : ℕ) → k ≤ 2097152 → (to_z w32 (of_z w32 (pos 256 *ℤ to_z w32 (of_z w32 (to_z w8 (of_z w8 z)))))) +ℤ to_z w32 k ≡ (pos 256 *ℤ z) +ℤ pos k
  summed k h =
      let l : k < 2147483648 = omega arith in
      rw (to_z-of_z f, to_z-of_z wider, to_z-of_z scaled_wide, to_z_pos w32 l)
