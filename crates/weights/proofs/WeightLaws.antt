-- Weights from what the code has at hand are those of the neighbourhood.
use mathlib.Core.Path.{◌≡◌}
use mathlib.Core.Bool.{true, false}
use Prim.Native.Nat.{ℕ}
use lib.Ieee.{Float}
use Rattle.model.specs.Computed.{one_f, sum_f, factor_f, term_f, product_f, weight_f}
use Rattle.model.specs.Weight.{Neighbourhood, all_edge}

pub weight_is : (h : Neighbourhood) (i : ℕ) {w s terms factors : Float} → all_edge h.influence h.count ≡ false → w ≡ product_f s terms factors
    → s ≡ factor_f (h.influence i) → terms ≡ sum_f (term_f h i) h.count → factors ≡ sum_f (λ k. factor_f (h.influence k)) h.count → w ≡ weight_f h i
unfolding weight_f
weight_is h i n e s t f = rw (n, ← s, ← t, ← f) e

pub weight_edges : (h : Neighbourhood) (i : ℕ) → all_edge h.influence h.count ≡ true → weight_f h i ≡ one_f
unfolding weight_f
weight_edges h i e = rw e
