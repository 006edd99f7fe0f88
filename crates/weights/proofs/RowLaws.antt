-- The row of a neighbour in the sums of the directional terms: what it adds to the sums of those before it, and they to its own.
use mathlib.Core.Path.{◌≡◌, refl, sym, ap, ap₂, ◌∙◌}
use mathlib.Core.List.{List}
use Prim.Native.Nat.{ℕ, ◌+◌, ◌≤◌, ◌<◌}
use native.Mathlib.Nat.{le_refl, not-suc-le-zero, ne_of_lt, ne_of_gt}
use native.Mathlib.Omega.{arith}
use borrow.Author.Tests.{eq-eqb, ne_eqb}
use lib.ListN.{get_or, length, set, length-set}
use lib.Seq.{get_or-set_other}
use lib.Ieee.{Float, binary64, nan, add, mul}
use Rattle.model.specs.Computed.{zero_f, sum_f, factor_at_f, term_f}
use Rattle.model.specs.Weight.{Neighbourhood}
use Rattle.neighbours.specs.declared.Chosen.{Chosen}
use Rattle.relative_error.proofs.SumLaws.{sum_f_zero, sum_f_step, sum_f_same}
use Rattle.weights.specs.Seen.{item_at, cosine_gap, seen}
use Rattle.weights.specs.Lists.{HasFactors, HasTerms}
use Rattle.laws.proofs.FillLaws.{filled}
use Rattle.weights.proofs.Products.{cosine_gap_comm}

-- how far the row of i has come at j, with own its factor, s the factors and g k the |1 - cos| of i and k: t is t₀ with own g k added at each index k
-- below j, and sum has what those below j add
pub record Row (g : ℕ → Float) (own : Float) (s t₀ t : List Float) (sum : Float) (j : ℕ) : Type 0 where
  pub size : length t ≡ length t₀
  pub added : (k : ℕ) → k < j → get_or t k nan ≡ add binary64 (get_or t₀ k nan) (mul binary64 own (g k))
  pub kept : (k : ℕ) → j ≤ k → get_or t k nan ≡ get_or t₀ k nan
  pub summed : sum ≡ sum_f (λ k. mul binary64 (get_or s k nan) (g k)) j

module _ (g : ℕ → Float) (own : Float) (s : List Float) where
  pub row_none : (t : List Float) → Row g own s t t zero_f 0
  row_none t = record { size = refl; added = λ k l. absurd (not-suc-le-zero l); kept = λ k l. refl; summed = sym (sum_f_zero _) }

  pub row_more : {t₀ t : List Float} {sum x y v : Float} (j : ℕ) → j < length t → Row g own s t₀ t sum j → v ≡ g j
      → x ≡ add binary64 (get_or t j nan) (mul binary64 own v) → y ≡ mul binary64 (get_or s j nan) v → Row g own s t₀ (set t j x) (add binary64 sum y) (j + 1)
  row_more {t₀} {t} j l r e p q = record {
    size = simp length-set r.size;
    added = filled (λ k. add binary64 (get_or t₀ k nan) (mul binary64 own (g k))) t j nan l (cc (r.kept j (le_refl j))) r.added;
    kept = λ k m. get_or-set_other t j k _ nan (ne_of_gt (omega arith)) ∙ r.kept k (omega arith);
    summed = sum_f_step _ j r.summed (q ∙ ap (mul binary64 (get_or s j nan)) e);
  }

module _ (c : Chosen) where
  abbrev h : Neighbourhood
  h = seen c

  own_term : (i : ℕ) → zero_f ≡ term_f h i i
  unfolding term_f
  own_term i = rw (eq-eqb i i refl)

  other_term : (i j : ℕ) {s v : Float} → (j ≡ i → ⊥) → s ≡ factor_at_f h j → v ≡ cosine_gap (item_at c i) (item_at c j) → mul binary64 s v ≡ term_f h i j
  unfolding term_f seen cosine_gap
  other_term i j n e f = rw (ne_eqb j i n) (ap₂ (mul binary64) e f)

  -- the whole row of i makes the terms of the first i those of the first i + 1
  pub terms_more : (i : ℕ) (s : List Float) {t₀ t : List Float} {sum : Float} → i < c.count → i < length t₀ → HasFactors h s c.count → HasTerms h t₀ i
      → Row (λ k. cosine_gap (item_at c i) (item_at c k)) (get_or s i nan) s t₀ t sum i → HasTerms h (set t i (add binary64 sum zero_f)) (i + 1)
  terms_more i s {t₀} {t} I L f e r =
      filled (λ k. sum_f (term_f h k) (i + 1)) t i nan (omega (arith, r.size))
      (sum_f_step (term_f h i) i (r.summed ∙ sum_f_same _ (term_f h i) i (λ k l. other_term i k (ne_of_lt l) (f k (omega arith)) refl)) (own_term i))
      (λ k l. r.added k l ∙ sum_f_step (term_f h k) i (e k l) (other_term k i (ne_of_gt l) (f i I) (cosine_gap_comm (item_at c i) (item_at c k))))
