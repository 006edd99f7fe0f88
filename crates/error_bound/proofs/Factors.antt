-- A factor worked out in floats is the exact one but for six roundings, and above zero where the influence is not an edge.
use mathlib.Core.Path.{◌≡◌, subst}
use mathlib.Core.Bool.{false, true≢false}
use Prim.Native.Nat.{ℕ, ◌-◌, ◌*◌, ◌^◌, ◌≤◌, ◌<◌}
use native.Mathlib.Nat.{le_trans, mul-pos}
use native.Mathlib.Omega.{arith}
use lib.Dec.{lit<, lit≤}
use lib.Ieee.{binary64, div, of_bits, of_int}
use Rattle.model.specs.Fraction.{Fraction, whole, times}
use Rattle.model.specs.Influence.{Influence, coincident, inverse, tapered, edge, is_edge, factor}
use Rattle.model.specs.Computed.{float, one_f, taper_f, factor_f}
use Rattle.relative_error.specs.Close.{Close}
use Rattle.relative_error.proofs.Laws.{weaken, mul_close, div_close, int_close}
use Rattle.relative_error.proofs.Whole.{over_whole}
use Rattle.relative_error.proofs.SumLaws.{zero_close}
use Rattle.error_bound.proofs.Fair.{Proper}

pub one_close : Close 0 0 0 one_f (whole 1)
unfolding of_bits of_int one_f float
one_close = int_close 1 0 (lit≤ tt) (lit≤ tt)

-- a fraction of two whole numbers, divided as floats
pub part_close : (a b : ℕ) → a ≤ 2 ^ 53 → 0 < b → b ≤ 2 ^ 48 → Close 1 48 53 (div binary64 (float a) (float b)) (record { top = a; bot = b })
part_close a b A B b' =
    subst (λ (f : Fraction). Close 1 48 53 (div binary64 (float a) (float b)) f) (over_whole a b)
    (div_close (unfold whole in B) (int_close a 53 A A) (int_close b 48 (le_trans b' (lit≤ tt)) b') tt)

taper_close : (r d : ℕ) → d < r → r ≤ 2 ^ 24 → Close 6 74 53 (taper_f r d) (record { top = 27 * ((r - d) * (r - d)); bot = 4 * (r * (r * r)) })
unfolding whole times taper_f
taper_close r d h b =
    let t : Close 0 0 24 (float (r - d)) (whole (r - d)) = int_close (r - d) 24 (omega arith) (omega arith) in
    let w : Close 0 0 24 (float r) (whole r) = int_close r 24 (omega arith) (omega arith) in
    let n = mul_close (int_close 27 5 (lit≤ tt) (lit≤ tt)) (mul_close t t tt) tt in
    let m = mul_close (int_close 4 2 (lit≤ tt) (lit≤ tt)) (mul_close w (mul_close w w tt) tt) tt in
    let R : 0 < r = omega arith in
    subst (λ (f : Fraction). Close 6 74 53 (taper_f r d) f) (over_whole (27 * ((r - d) * (r - d))) (4 * (r * (r * r))))
    (div_close (mul-pos (lit< tt) (mul-pos R (mul-pos R R))) n m tt)

pub factor_close : (p : Influence) → Proper p → Close 6 74 53 (factor_f p) (factor p)
unfolding factor_f factor
factor_close coincident s = weaken (lit≤ tt) (lit≤ tt) (lit≤ tt) one_close
factor_close (inverse d) s = weaken (lit≤ tt) (lit≤ tt) (lit≤ tt) (part_close 1 d (lit≤ tt) s.0 (le_trans s.1 (lit≤ tt)))
factor_close (tapered r d) s = taper_close r d s.0 s.1
factor_close edge s = weaken (lit≤ tt) (lit≤ tt) (lit≤ tt) zero_close

pub factor_pos : (p : Influence) → Proper p → is_edge p ≡ false → 0 < (factor p).top
unfolding factor whole
factor_pos coincident s e = lit< tt
factor_pos (inverse d) s e = lit< tt
factor_pos (tapered r d) s e =
    let h : d < r = s.0 in
    let g : 0 < r - d = omega arith in
    mul-pos (lit< tt) (mul-pos g g)
factor_pos edge s e = absurd (true≢false e)
