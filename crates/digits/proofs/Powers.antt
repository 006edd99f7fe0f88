-- How many digits a number between two powers of ten has.
use mathlib.Core.Path.{◌≡◌, sym, ap, ◌∙◌}
use Prim.Native.Nat.{ℕ, zero, suc, ◌*◌, ◌/◌, ◌≤◌, ◌<◌, ◌^◌, max}
use native.Mathlib.Nat.{pow-succ'}
use native.Mathlib.Omega.{arith}
use Rattle.model.specs.Decimal.{places}
use Rattle.laws.proofs.DecimalLaws.{places_one, places_more, places_in_lem, tens_below}

power_some : (k : ℕ) → 0 < 10 ^ k
power_some zero = omega arith
power_some (suc k) = rw pow-succ' (omega (arith, power_some k))

-- 0 has one digit as 1 has
pub places_at : (k n : ℕ) → 10 ^ k ≤ max n 1 → n < 10 ^ suc k → places n ≡ suc k
places_at zero n l h = places_in_lem 0 n h ∙ places_one 0 n h
places_at (suc k) n l h =
    let p : 10 * 10 ^ k ≤ max n 1 = rw pow-succ' at l in
    let s = power_some k in
    let t : n / 10 < 10 ^ suc k = tens_below (suc k) n h in
    places_in_lem (suc k) n h ∙ places_more (suc k) n (omega arith) ∙ ap suc (sym (places_in_lem k (n / 10) t) ∙ places_at k (n / 10) (omega arith) t)
