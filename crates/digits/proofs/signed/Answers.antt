-- `signed` meets its contract: a number below zero is a minus sign and the digits of its size, of which there are at most 19.
use mathlib.Core.Path.{◌≡◌, refl, ap}
use mathlib.Core.Bool.{true, false}
use mathlib.Core.List.{List, [], ◌∷◌}
use Prim.Native.Nat.{ℕ, ◌-◌, ◌≤◌, ◌<◌, ◌^◌}
use native.Mathlib.Omega.{arith}
use lib.IntN.{ℤ, pos, nat_abs}
use lib.Signed.{lt_z, nat_abs-le}
use lib.ListN.{length, set, length-take, length-drop}
use mir.Syntax.{w64}
use mir.Val.{SFits, to_z, of_z}
use mir.Facts.{to_z-of_z}
use borrow.Rule.Slice.PartMut.{mid_of, put_mid}
use Rattle.model.specs.Lists.{laid}
use Rattle.laws.proofs.Stores.{laid_after}
use Rattle.digits.proofs.Signs.{below_zero, from_zero}
use Rattle.model.specs.Decimal.{places, decimal, signed_decimal}
use Rattle.laws.proofs.DecimalLaws.{places_most, length_digits}
use Rattle.digits.proofs.signed.Goals as goal

module _ {z : ℤ} (f : SFits w64 z) (n : ℕ) (e : n ≡ nat_abs (to_z w64 (of_z w64 z))) where
  below : lt_z (to_z w64 (of_z w64 z)) (pos 0) ≡ true → signed_decimal z ≡ 45 ∷ decimal n
  below t = rw (e, to_z-of_z f, below_zero f t)

  above : lt_z (to_z w64 (of_z w64 z)) (pos 0) ≡ false → signed_decimal z ≡ decimal n
  above t = rw (e, to_z-of_z f, from_zero f t)

  few : places n ≤ 19
  few = let h : n ≤ 2 ^ 63 = rw (e, to_z-of_z f) (nat_abs-le z f.sfits) in places_most 18 n (omega arith)

-- a sign before the digits that were written from the second byte on
sign_before : (n : ℕ) (d t : List ℕ) → 0 < length d → t ≡ laid (decimal n) (mid_of 1 (length d - 1) d)
    → set (put_mid 1 (length d - 1) d t) 0 45 ≡ laid (45 ∷ decimal n) d
sign_before n [] t h q = absurd (omega arith)
sign_before n (b ∷ d) t h q =
    rw q (ap (λ (l : List ℕ). set l 0 45) (laid_after 1 (length (b ∷ d) - 1) (b ∷ []) (decimal n) (b ∷ d) refl (omega arith)))

pub put-k-requires : goal.put-k-requires
put-k-requires c = simp (length-take, length-drop) (omega (arith, few c.ranges.a c.absolute-n.result c.absolute-n.ensures))

pub overflow_add-result : goal.overflow_add-result
overflow_add-result c = omega (arith, few c.ranges.a c.absolute-n.result c.absolute-n.ensures, c.put-k.ensures.value)

pub returns-then-a-lt0-clause-value : goal.returns-then-a-lt0-clause-value
returns-then-a-lt0-clause-value c = rw (below c.ranges.a c.absolute-n.result c.absolute-n.ensures c.if-a-lt0.true, length_digits) (omega (arith, c.put-k.ensures.value))

pub returns-then-a-lt0-clause-upper_bound : goal.returns-then-a-lt0-clause-upper_bound
returns-then-a-lt0-clause-upper_bound c = omega (arith, few c.ranges.a c.absolute-n.result c.absolute-n.ensures, c.put-k.ensures.value)

pub returns-then-a-lt0-clause-out_after : goal.returns-then-a-lt0-clause-out_after
returns-then-a-lt0-clause-out_after c =
    rw (below c.ranges.a c.absolute-n.result c.absolute-n.ensures c.if-a-lt0.true) (sign_before c.absolute-n.result c.args.out.now c.put-k.new.out (omega arith) c.put-k.ensures.out_after)

pub put-requires : goal.put-requires
put-requires c = omega (arith, few c.ranges.a c.absolute-n.result c.absolute-n.ensures)

pub returns-clause-value : goal.returns-clause-value
returns-clause-value c = rw (above c.ranges.a c.absolute-n.result c.absolute-n.ensures c.if-a-lt0.false, length_digits) c.put.ensures.value

pub returns-clause-upper_bound : goal.returns-clause-upper_bound
returns-clause-upper_bound c = omega (arith, few c.ranges.a c.absolute-n.result c.absolute-n.ensures, c.put.ensures.value)

pub returns-clause-out_after : goal.returns-clause-out_after
returns-clause-out_after c = rw (above c.ranges.a c.absolute-n.result c.absolute-n.ensures c.if-a-lt0.false) c.put.ensures.out_after
