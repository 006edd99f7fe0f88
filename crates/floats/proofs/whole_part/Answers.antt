-- `whole_part` meets its contract. The invariant: the whole part lies from `low` up to, and not at, `high`, and so does the number that is tried. The measure is their distance.
use mathlib.Core.Path.{◌≡◌, sym, ◌∙◌}
use mathlib.Core.Bool.{true, false}
use Prim.Native.Nat.{ℕ, ◌+◌, ◌-◌, ◌*◌, ◌≤◌, ◌<◌}
use native.Mathlib.Nat.{le-div_iff_mul-le, div-lt_iff_lt-mul}
use native.Mathlib.Omega.{arith}
use borrow.Author.Tests.{leb-true, leb-false}
use lib.Dec.{leb}
use lib.Ieee.{Float}
use lib.Ieee.Positive.{num, den}
use Rattle.floats.proofs.whole_part.Invariants.{whole}
use Rattle.floats.proofs.whole_part.Goals as goal
use Rattle.floats.proofs.whole_part.Goals.{then-at_most+else-not-at_most, else-at_most}

module _ (y : Float) (small : num y < 4194304 * den y) where
  some : 0 < den y
  some = omega arith

  whole_small : whole y < 4194304
  whole_small = (div-lt_iff_lt-mul some).1 small

  whole_above : (k : ℕ) → leb (k * den y) (num y) ≡ true → k ≤ whole y
  whole_above k e = (le-div_iff_mul-le some).1 (leb-true _ _ e)

  whole_below : (k : ℕ) → leb (k * den y) (num y) ≡ false → whole y < k
  whole_below k e = (div-lt_iff_lt-mul some).1 (leb-false _ _ e)

-- what is left between the two ends once a number was tried that is not q
abbrev Narrower : ℕ → ℕ → ℕ → ℕ → ℕ → Type 0
Narrower q low high low' high' = (low' ≤ q) × (q < high') × (high' ≤ high) × (high' - low' < high - low)

narrowed : (c : goal.After-row_known-in-loop-low-1)
    → Narrower (whole c.args.y) c.loop-low.low c.loop-low.high
    c.if-at_most.low c.if-at_most.high
narrowed c =
    let y = c.args.y in
    let small = c.requires.1 in
    elim c.if-at_most.branch [
      | then-at_most+else-not-at_most w ↦ let g = whole_above y small (c.loop-low.k + 1) (sym w.at_most-then-at_most.ensures ∙ w.if-not-at_most.false) in omega arith
      | else-at_most w ↦ let g = whole_below y small c.loop-low.k (sym c.at_most.ensures ∙ w.if-at_most.false) in omega arith
    ]

pub loop-low-init : goal.loop-low-init
loop-low-init c = let g = whole_small c.args.y c.requires.1 in omega arith

pub at_most-requires : goal.at_most-requires
at_most-requires c = (omega arith, c.requires.0)

pub at_most-requires-then-at_most : goal.at_most-requires-then-at_most
at_most-requires-then-at_most c = (omega arith, c.requires.0)

pub overflow_sub-k : goal.overflow_sub-k
overflow_sub-k c = let g = narrowed c in omega arith

pub overflow_add-k-in-loop-low : goal.overflow_add-k-in-loop-low
overflow_add-k-in-loop-low c = let g = narrowed c in omega arith

pub loop-low-smaller : goal.loop-low-smaller
loop-low-smaller c = (narrowed c).3

pub loop-low-preserved : goal.loop-low-preserved
loop-low-preserved c = let g = narrowed c in omega arith

pub returns : goal.returns
returns c =
    let y = c.args.y in
    let small = c.requires.1 in
    let low = whole_above y small c.loop-low.k (sym c.at_most.ensures ∙ c.if-at_most.true) in
    let high = whole_below y small (c.loop-low.k + 1) (sym c.at_most-then-at_most.ensures ∙ c.if-not-at_most.true) in
    omega (arith, whole_small y small)
