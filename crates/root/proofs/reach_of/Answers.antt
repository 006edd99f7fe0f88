-- `reach_of` meets its contract: D ≤ r says that 65536 d² does not exceed r² + 2 r.
use mathlib.Core.Path.{◌≡◌, refl, sym}
use Prim.Native.Nat.{ℕ, ◌+◌, ◌*◌, ◌≤◌, ◌<◌}
use native.Mathlib.Nat.{lt_of_not-le}
use native.Mathlib.Omega.{arith}
use mathlib.Core.Bool.{Bool, true, false}
use lib.Dec.{leb}
use borrow.Author.Tests.{leb-true, leb-false, le-leb, lt-leb}
use Rattle.model.specs.Distance.{distance_of}
use Rattle.laws.proofs.RootLaws.{sq_le, distance_le_iff}
use Rattle.root.proofs.reach_of.Goals as goal

module _ (d k r : ℕ) where
  inside : 65536 * d ≤ r * r + 2 * r → distance_of d ≤ r
  inside h = (distance_le_iff d r).1 (omega arith)

  outside : r * r + 2 * r < 65536 * d → r < distance_of d
  outside h = lt_of_not-le (λ g. let j = (distance_le_iff d r).0 g in omega arith)

  -- a bound that parts d as r² + 2 r parts 65536 d²
  same_test : (d ≤ k → 65536 * d ≤ r * r + 2 * r) → (k < d → r * r + 2 * r < 65536 * d) → leb d k ≡ leb (distance_of d) r
  same_test low high = go (leb d k) refl
    where
      go : (t : Bool) → leb d k ≡ t → t ≡ leb (distance_of d) r
      go true e = sym (le-leb (distance_of d) r (inside (low (leb-true d k e))))
      go false e = sym (lt-leb (distance_of d) r (outside (high (leb-false d k e))))

square_fits : (r : ℕ) → r < 4294967296 → r * r + 2 * r < 18446744073709551616
square_fits r h = let g : r ≤ 4294967295 = omega arith in omega (arith, sq_le g)

pub overflow_mul-k : goal.overflow_mul-k
overflow_mul-k c = omega (arith, square_fits c.from-n.result (omega arith))

pub overflow_add-k : goal.overflow_add-k
overflow_add-k c = omega (arith, square_fits c.from-n.result (omega arith))

pub returns : goal.returns
returns c = λ d l. rw c.from-n.ensures at (same_test d c.min.result c.from-n.result (λ h. omega arith) (λ h. omega arith))
