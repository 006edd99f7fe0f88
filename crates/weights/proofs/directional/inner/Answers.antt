-- `inner` meets its contract: products and their sum fit 64 bits.
use native.Mathlib.Omega.{arith}
use Rattle.weights.proofs.Products.{fits_size, kept, product_handed, inner_most, sum_is}
use Rattle.weights.specs.Seen.{inner_between}
use Rattle.weights.proofs.directional.inner.Goals as goal

pub overflow_add-result : goal.overflow_add-result
overflow_add-result c =
    let a = c.args.a in
    let b = c.args.b in
    let A = c.requires.0 in
    let B = c.requires.1 in
    rw (sum_is a b A B _ _ (product_handed a.dx b.dx A.dx B.dx c.offset_product.ensures) (product_handed a.dy b.dy A.dy B.dy c.offset_product-2.ensures))
    (fits_size (inner_between a b) (omega (arith, inner_most a b A B)))

pub returns : goal.returns
returns c =
    let a = c.args.a in
    let b = c.args.b in
    let A = c.requires.0 in
    let B = c.requires.1 in
    rw (sum_is a b A B _ _ (product_handed a.dx b.dx A.dx B.dx c.offset_product.ensures) (product_handed a.dy b.dy A.dy B.dy c.offset_product-2.ensures))
    (kept (inner_between a b) (omega (arith, inner_most a b A B)))
