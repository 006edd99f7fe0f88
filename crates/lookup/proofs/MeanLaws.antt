-- The mean from what the code has at hand, the lists of the weights and of the values less the least one, is that of the neighbourhood.
use mathlib.Core.Path.{◌≡◌, ap₂, ◌∙◌}
use mathlib.Core.List.{List}
use Prim.Native.Nat.{ℕ, ◌<◌}
use lib.IntN.{ℤ}
use lib.ListN.{get_or}
use lib.Ieee.{Float, binary64, nan, mul, div}
use Rattle.model.specs.Computed.{float, weight_f, scaled_mean_f, lessened_f, mean_f}
use Rattle.model.specs.Weight.{Neighbourhood}
use Rattle.relative_error.proofs.SumLaws.{sum_f_same}

pub mean_is : (h : Neighbourhood) (least : ℤ) (ws xs : List Float) {y : Float} → y ≡ scaled_mean_f 512 h.count (λ i. get_or ws i nan) (λ i. get_or xs i nan)
    → ((i : ℕ) → i < h.count → get_or ws i nan ≡ weight_f h i) → ((i : ℕ) → i < h.count → get_or xs i nan ≡ lessened_f least (h.value i))
    → y ≡ mean_f h least
unfolding mean_f scaled_mean_f
mean_is h least ws xs e a b =
    e
    ∙ ap₂ (λ (v w : Float). mul binary64 (float 512) (div binary64 v w))
    (sum_f_same (λ i. mul binary64 (get_or ws i nan) (get_or xs i nan)) (λ i. mul binary64 (weight_f h i) (lessened_f least (h.value i))) h.count
    (λ i l. ap₂ (mul binary64) (a i l) (b i l)))
    (sum_f_same (λ i. get_or ws i nan) (weight_f h) h.count a)
