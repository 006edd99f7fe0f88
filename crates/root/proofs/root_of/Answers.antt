-- `root_of` meets its contract. The invariant: what is found is the root of the digits of n so far, with `rest` beside its square.
use mathlib.Core.Path.{◌≡◌, refl, sym, ap, subst}
use mathlib.Core.Bool.{Bool, true, false, cond}
use Prim.Native.Nat.{ℕ, ◌+◌, ◌-◌, ◌*◌, ◌/◌, ◌%◌, ◌≤◌, ◌<◌}
use native.Mathlib.Omega.{arith}
use lib.Dec.{ltb}
use lib.Pow.{pow-add, pow_mono}
use borrow.Author.Tests.{ltb-true, ltb-false}
use Rattle.model.specs.Distance.{IsRoot}
use Rattle.laws.proofs.RootLaws.{is_root}
use Rattle.root.proofs.root_of.Invariants.{Found}
use Rattle.root.proofs.root_of.Goals as goal

-- what is brought down, and what the next bit takes
abbrev brought : ℕ → ℕ → ℕ
brought high rest = 4 * rest + high / 1073741824

abbrev taken : ℕ → ℕ
taken root = 4 * root + 1

module _ (n high low rest root k : ℕ) (f : Found n high low rest root k) where
  -- the bit goes into what is brought down, and leaves little of it
  record Goes (bit : ℕ) : Type 0 where
    one : bit ≤ 1
    square : bit * bit ≡ bit
    within : bit * taken root ≤ brought high rest
    leaves : brought high rest - bit * taken root ≤ 2 * (2 * root + bit)

  goes : (bit : ℕ) → bit ≡ cond (ltb (4 * root) (brought high rest)) 1 0 → Goes bit
  goes bit e = subst Goes (sym e) (go (ltb (4 * root) (brought high rest)) refl)
    where
      go : (t : Bool) → ltb (4 * root) (brought high rest) ≡ t → Goes (cond t 1 0)
      go true e =
          let h : 4 * root < brought high rest = ltb-true _ _ e in
          record { one = omega arith; square = refl; within = omega arith; leaves = omega arith }
      go false e =
          let h : brought high rest ≤ 4 * root = ltb-false _ _ e in
          record { one = omega arith; square = refl; within = omega arith; leaves = omega arith }

  -- one bit more
  next : (bit : ℕ) → Goes bit
      → Found n ((high * 4) % 4294967296 + low / 1073741824) ((low * 4) % 4294967296) (brought high rest - bit * taken root) (2 * root + bit) (k + 1)
  next bit g = record {
    digits = omega (arith, ap (λ (x : ℕ). n * x) (pow-add 4 k 1));
    upper = omega arith;
    lower = omega arith;
    left = g.leaves;
    small = omega (arith, pow-add 2 k 1);
  }

  -- before the last bit, roots have 24
  narrow : k < 25 → (root < 16777216) × (rest ≤ 2 * root) × (high < 4294967296)
  narrow l = let m = pow_mono {i = k} {j = 24} (omega arith) in (omega (arith, f.small), f.left, f.upper)

-- with 25 bits it is the root
ended : (n high low rest root : ℕ) → Found n high low rest root 25 → IsRoot n root × (root < 33554432)
ended n high low rest root f = (record { low = omega arith; high = omega arith }, omega arith)

module _ (c : goal.After-bit_of-bit) where
  went : Goes _ _ _ _ _ _ c.loop-k.invariant.0 c.bit_of-bit.result
  went = goes _ _ _ _ _ _ c.loop-k.invariant.0 _ c.bit_of-bit.ensures

pub loop-k-init : goal.loop-k-init
loop-k-init c = (record { digits = omega arith; upper = omega arith; lower = omega arith; left = omega arith; small = omega arith }, omega arith)

pub overflow_mul-brought : goal.overflow_mul-brought
overflow_mul-brought c = omega (arith, narrow _ _ _ _ _ _ c.loop-k.invariant.0 (omega arith))

pub overflow_add-brought : goal.overflow_add-brought
overflow_add-brought c = omega (arith, narrow _ _ _ _ _ _ c.loop-k.invariant.0 (omega arith))

pub overflow_mul-four : goal.overflow_mul-four
overflow_mul-four c = omega (arith, narrow _ _ _ _ _ _ c.loop-k.invariant.0 (omega arith))

pub overflow_add-taken : goal.overflow_add-taken
overflow_add-taken c = omega (arith, narrow _ _ _ _ _ _ c.loop-k.invariant.0 (omega arith))

pub bit_of-bit-requires : goal.bit_of-bit-requires
bit_of-bit-requires c = omega (arith, narrow _ _ _ _ _ _ c.loop-k.invariant.0 (omega arith))

pub overflow_mul-rest : goal.overflow_mul-rest
overflow_mul-rest c = omega (arith, narrow _ _ _ _ _ _ c.loop-k.invariant.0 (omega arith), (went c).within)

pub overflow_sub-rest : goal.overflow_sub-rest
overflow_sub-rest c = (went c).within

pub overflow_mul-root : goal.overflow_mul-root
overflow_mul-root c = omega (arith, narrow _ _ _ _ _ _ c.loop-k.invariant.0 (omega arith))

pub overflow_add-root : goal.overflow_add-root
overflow_add-root c = omega (arith, narrow _ _ _ _ _ _ c.loop-k.invariant.0 (omega arith), (went c).one)

pub overflow_add-high : goal.overflow_add-high
overflow_add-high c = omega (arith, (next _ _ _ _ _ _ c.loop-k.invariant.0 _ (went c)).upper)

pub loop-k-preserved : goal.loop-k-preserved
loop-k-preserved c = (next _ _ _ _ _ _ c.loop-k.invariant.0 _ (went c), omega arith)

pub returns : goal.returns
returns c =
    let r = ended _ _ _ _ _ (subst (Found _ _ _ _ _) c.if-k-eq25.true c.loop-k.invariant.0) in
    (is_root r.0, r.1)
