-- `cell_length` meets its contract: the whole part has at most three digits.
use native.Mathlib.Omega.{arith}
use Rattle.esri_cells.proofs.Cells.{below, above, length_size, few_places}
use Rattle.esri_cells.proofs.cell_length.Goals as goal

pub returns-then-v-lt0 : goal.returns-then-v-lt0
returns-then-v-lt0 c =
    let p = c in
    let s = p.size in
    let n = s.result in
    rw (below p.ranges.v n s.ensures.0 c.if-v-lt0.true) (omega (arith, length_size n, p.places-k.ensures.value), omega (arith, few_places n s.ensures.1, p.places-k.ensures.value))

pub returns : goal.returns
returns c =
    let p = c in
    let s = p.size in
    let n = s.result in
    rw (above p.ranges.v n s.ensures.0 c.if-v-lt0.false) (omega (arith, length_size n, p.places-k.ensures.value), omega (arith, few_places n s.ensures.1, p.places-k.ensures.value))
