-- The answer worked out in floats lies within 129 / 65,536 of a step of the exact mean.
use lib.IntN.{ℤ, pos, ◌+ℤ◌, ◌-ℤ◌, ◌*ℤ◌, nat_abs}
use Rattle.model.specs.Weight.{Neighbourhood, weight}
use Rattle.model.specs.Mean.{weighted_mean, Near}
use Rattle.model.specs.Computed.{weight_f, mean_f}
use Rattle.model.specs.Answer.{nearest_half}
use Rattle.relative_error.proofs.Bounds.{sum_proper}
use Rattle.error_bound.proofs.Fair.{Fair, Spread}
use Rattle.error_bound.proofs.Weights.{weight_close}
use Rattle.error_bound.proofs.MeanError.{weights_pos}
use Rattle.error_bound.proofs.LessenedMean.{weights_of, lessened_near}
use Rattle.error_bound.proofs.SignedMean.{signed_near}

pub answer_near : (h : Neighbourhood) (least : ℤ) → Fair h → Spread h least → Near ((pos 256 *ℤ least) +ℤ pos (nearest_half (mean_f h least))) (weighted_mean h)
unfolding weighted_mean
answer_near h least F S =
    signed_near h.count (weight h) h.value (λ i. nat_abs (h.value i -ℤ least)) least (nearest_half (mean_f h least)) S.lifted
    (weights_pos h.count (weight_f h) (weight h) (weights_of h F))
    (sum_proper (weight h) h.count (λ i l. (weight_close h F i l).proper))
    (lessened_near h least F S)
