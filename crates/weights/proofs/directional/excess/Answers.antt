-- `excess` meets its contract: the difference fits 64 bits with a sign, and its size is below 2⁵³.
use mathlib.Core.Path.{◌∙◌}
use Prim.Native.Nat.{◌*◌}
use native.Mathlib.Omega.{arith}
use lib.IntN.{pos, ◌-ℤ◌, ◌*ℤ◌}
use Rattle.weights.specs.Seen.{inner_between, excess_between}
use Rattle.weights.proofs.Products.{fits_size, scaled_most, excess_most, scaled_is, difference_is, excess_is}
use Rattle.weights.proofs.directional.excess.Goals as goal

pub overflow_mul-inner : goal.overflow_mul-inner
overflow_mul-inner c =
    let a = c.args.a in
    let b = c.args.b in
    rw (scaled_is a b c.requires.0 c.requires.1 _ c.inner.ensures) (fits_size (pos 65536 *ℤ inner_between a b) (omega (arith, scaled_most a b c.requires.0 c.requires.1)))

pub overflow_sub-product : goal.overflow_sub-product
overflow_sub-product c =
    let a = c.args.a in
    let b = c.args.b in
    rw (difference_is a b c.requires.0 c.requires.1 _ _ c.product.ensures.0 c.inner.ensures)
    (fits_size (pos (a.distance * b.distance) -ℤ (pos 65536 *ℤ inner_between a b)) (omega (arith, excess_most a b c.requires.0 c.requires.1)))

pub returns : goal.returns
unfolding excess_between
returns c =
    let a = c.args.a in
    let b = c.args.b in
    let e = c.absolute.ensures ∙ excess_is a b c.requires.0 c.requires.1 _ _ c.product.ensures.0 c.inner.ensures in
    (e, omega (arith, e, excess_most a b c.requires.0 c.requires.1))
