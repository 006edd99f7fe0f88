-- A weight worked out in floats is the exact one but for 50 roundings, and one of the weights is above zero.
use mathlib.Core.Path.{◌≡◌, refl, sym}
use mathlib.Core.Bool.{Bool, true, false, cond, ◌&&◌, true≢false}
use Prim.Native.Nat.{ℕ, zero, suc, ◌+◌, ◌*◌, ◌≤◌, ◌<◌}
use native.Mathlib.Nat.{le_refl, le_trans, le_of_eq, le-add_right, lt-suc_self, lt_of_lt_of_le, one-mul, mul-pos}
use native.Mathlib.Omega.{arith}
use lib.Dec.{eqb, lit<, lit≤}
use lib.Ieee.{Float, binary64, mul, div}
use Rattle.model.specs.Fraction.{Fraction, whole, plus, times, sum}
use Rattle.model.specs.Influence.{Influence, is_edge}
use Rattle.model.specs.Weight.{Neighbourhood, all_edge, factor_at, term, directional, weight}
use Rattle.model.specs.Computed.{float, zero_f, one_f, sum_f, factor_at_f, term_f, product_f, weight_f}
use Rattle.relative_error.specs.Close.{Close}
use Rattle.relative_error.proofs.Laws.{weaken, mul_close, div_close, add_close}
use Rattle.relative_error.proofs.SumLaws.{zero_close, sum_close}
use Rattle.relative_error.proofs.Bounds.{sum_pos}
use Rattle.error_bound.proofs.Fair.{Fair}
use Rattle.error_bound.proofs.Factors.{one_close, part_close, factor_close, factor_pos}

-- a sum of up to ten
pub ten : (k d u n : ℕ) (g : ℕ → Float) (h : ℕ → Fraction) → n ≤ 10 → k + 10 ≤ 256 → d ≤ 899 → u + 10 ≤ 899 → ((i : ℕ) → i < n → Close k d u (g i) (h i))
    → Close (k + 10) d (u + 10) (sum_f g n) (sum h n)
ten k d u n g h N K D U c = weaken (omega arith) (le_refl d) (omega arith) (sum_close k d u g h n (omega arith) D (omega arith) c)

-- a point whose weight is above zero
pub record Weighty (h : Neighbourhood) : Type 0 where
  pub index : ℕ
  pub chosen : index < h.count
  pub above : 0 < (weight h index).top

-- a point that is not at the edge
record Inner (f : ℕ → Influence) (n : ℕ) : Type 0 where
  index : ℕ
  chosen : index < n
  apart : is_edge (f index) ≡ false

inner_of : (f : ℕ → Influence) (n : ℕ) → all_edge f n ≡ false → Inner f n
unfolding all_edge
inner_of f zero e = absurd (true≢false e)
inner_of f (suc n) e = go (all_edge f n) (is_edge (f n)) (λ p. inner_of f n p) refl e
  where
    go : (a b : Bool) → (a ≡ false → Inner f n) → is_edge (f n) ≡ b → a && b ≡ false → Inner f (suc n)
    go a false r q h = record { index = n; chosen = lt-suc_self n; apart = q }
    go false true r q h = let m = r refl in record { index = m.index; chosen = omega (arith, m.chosen); apart = m.apart }
    go true true r q h = absurd (true≢false h)

module _ (h : Neighbourhood) (F : Fair h) where
  factors : (i : ℕ) → i < h.count → Close 6 74 53 (factor_at_f h i) (factor_at h i)
  factors i l = factor_close (h.influence i) (F.influences i l)

  term_close : (i j : ℕ) → i < h.count → j < h.count → Close 8 122 106 (term_f h i j) (term h i j)
  unfolding term_f term
  term_close i j k l = go (eqb j i)
    where
      go : (b : Bool)
          → Close 8 122 106 (cond b zero_f (mul binary64 (factor_at_f h j) (div binary64 (float (h.excess i j)) (float (h.product i j)))))
          (cond b (whole 0) (times (factor_at h j) (record { top = h.excess i j; bot = h.product i j })))
      go true = weaken (lit≤ tt) (lit≤ tt) (lit≤ tt) zero_close
      go false = mul_close (factors j l) (part_close (h.excess i j) (h.product i j) (F.excesses i j k l) (F.products i j k l).0 (F.products i j k l).1) tt

  module _ (m : Inner h.influence h.count) where
    inner_factor : 0 < (factor_at h m.index).top
    inner_factor = factor_pos (h.influence m.index) (F.influences m.index m.chosen) m.apart

    factors_pos : 0 < (sum (factor_at h) h.count).top
    factors_pos = sum_pos (factor_at h) h.count m.index (λ i l. (factors i l).proper) m.chosen inner_factor

    directional_close : (i : ℕ) → i < h.count → Close 35 185 190 (div binary64 (sum_f (term_f h i) h.count) (sum_f (factor_at_f h) h.count)) (directional h i)
    unfolding directional
    directional_close i k =
        div_close factors_pos
        (ten 8 122 106 h.count (term_f h i) (term h i) F.most (lit≤ tt) (lit≤ tt) (lit≤ tt) (λ j l. term_close i j k l))
        (ten 6 74 53 h.count (factor_at_f h) (factor_at h) F.most (lit≤ tt) (lit≤ tt) (lit≤ tt) factors)
        tt

    product_close : (i : ℕ) → i < h.count
        → Close 50 333 297 (product_f (factor_at_f h i) (sum_f (term_f h i) h.count) (sum_f (factor_at_f h) h.count)) (times (times (factor_at h i) (factor_at h i)) (plus (whole 1) (directional h i)))
    unfolding product_f
    product_close i l = mul_close (mul_close (factors i l) (factors i l) tt) (add_close one_close (directional_close i l) tt) tt

    product_pos : 0 < (times (times (factor_at h m.index) (factor_at h m.index)) (plus (whole 1) (directional h m.index))).top
    unfolding times plus whole
    product_pos =
        let t = directional h m.index in
        mul-pos (mul-pos inner_factor inner_factor)
        (lt_of_lt_of_le (directional_close m.index m.chosen).proper (le_trans (le_of_eq (sym (one-mul t.bot))) (le-add_right (1 * t.bot) (t.top * 1))))

  pub weight_close : (i : ℕ) → i < h.count → Close 50 333 297 (weight_f h i) (weight h i)
  unfolding weight_f weight
  weight_close i l = go (all_edge h.influence h.count) refl
    where
      go : (b : Bool) → all_edge h.influence h.count ≡ b
          → Close 50 333 297 (cond b one_f (product_f (factor_at_f h i) (sum_f (term_f h i) h.count) (sum_f (factor_at_f h) h.count)))
          (cond b (whole 1) (times (times (factor_at h i) (factor_at h i)) (plus (whole 1) (directional h i))))
      go true e = weaken (lit≤ tt) (lit≤ tt) (lit≤ tt) one_close
      go false e = product_close (inner_of h.influence h.count e) i l

  pub weight_above : Weighty h
  weight_above = go (all_edge h.influence h.count) refl
    where
      go : (b : Bool) → all_edge h.influence h.count ≡ b → Weighty h
      go true e = record { index = 0; chosen = F.some; above = unfold weight whole in rw e (lit< tt) }
      go false e =
          let m = inner_of h.influence h.count e in
          record { index = m.index; chosen = m.chosen; above = unfold weight in rw e (product_pos m) }
