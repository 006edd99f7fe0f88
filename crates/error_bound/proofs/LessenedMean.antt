-- The mean of the values, each less the least, is one of these means: what the rounding asks of it, and how near its nearest 256th lies.
use Prim.Native.Nat.{ℕ, ◌*◌, ◌<◌}
use native.Mathlib.Nat.{le_trans, mul-pos}
use lib.Dec.{T, lit<, lit≤}
use lib.IntN.{ℤ, ◌-ℤ◌, nat_abs}
use lib.Ieee.Positive.{num, den}
use Rattle.model.specs.Fraction.{Fraction, whole, times, over}
use Rattle.model.specs.Weight.{Neighbourhood, weight}
use Rattle.model.specs.Computed.{weight_f, lessened_f, mean_f}
use Rattle.model.specs.Answer.{nearest_half}
use Rattle.relative_error.specs.Close.{plain}
use Rattle.relative_error.proofs.Laws.{weaken, int_close}
use Rattle.relative_error.proofs.Bounds.{sum_proper}
use Rattle.error_bound.proofs.Fair.{Fair, Spread}
use Rattle.error_bound.proofs.Weights.{weight_close, weight_above}
use Rattle.error_bound.proofs.Means.{times_at, mean_of, Weights, Numbers, Answers}
use Rattle.error_bound.proofs.Halves.{nearest_answers}
use Rattle.error_bound.proofs.MeanError.{weights_pos, scaled_reach, scaled_nearest}

-- the weights of a neighbourhood
pub weights_of : (h : Neighbourhood) → Fair h → Weights h.count (weight_f h) (weight h)
weights_of h F =
    let a = weight_above h F in
    record { most = F.most; close = weight_close h F; index = a.index; chosen = a.chosen; above = a.above }

-- value i less the least, exactly
abbrev pub lessened : Neighbourhood → ℤ → ℕ → Fraction
lessened h least i = whole (nat_abs (h.value i -ℤ least))

module _ (h : Neighbourhood) (least : ℤ) (F : Fair h) (S : Spread h least) where
  lessened_numbers : Numbers h.count (λ i. lessened_f least (h.value i)) (lessened h least)
  unfolding lessened_f whole
  lessened_numbers = record {
    close = λ i l. weaken (lit≤ tt) (lit≤ tt) (lit≤ tt) (int_close (nat_abs (h.value i -ℤ least)) 8 (le_trans (S.small i l) (lit≤ tt)) (le_trans (S.small i l) (lit≤ tt)));
    most = λ i l. le_trans (S.small i l) (lit≤ tt);
  }

  -- what `floats::nearest_half` asks of 512 times the mean
  pub mean_reach : T (plain (mean_f h least)) × (num (mean_f h least) < 4194304 * den (mean_f h least))
  unfolding mean_f
  mean_reach = scaled_reach h.count (weight_f h) (weight h) (weights_of h F) (λ i. lessened_f least (h.value i)) (lessened h least) lessened_numbers 256 (lit≤ tt)

  pub lessened_near : Answers (nearest_half (mean_f h least)) (mean_of h.count (weight h) (lessened h least))
  unfolding mean_f
  lessened_near =
      nearest_answers (nearest_half (mean_f h least)) (mean_of h.count (weight h) (lessened h least))
      (scaled_nearest h.count (weight_f h) (weight h) (weights_of h F) (λ i. lessened_f least (h.value i)) (lessened h least) lessened_numbers 256 (lit≤ tt))

  pub lessened_proper : 0 < (mean_of h.count (weight h) (lessened h least)).bot
  unfolding mean_of over times whole
  lessened_proper =
      mul-pos (sum_proper (times_at (weight h) (lessened h least)) h.count (λ i l. mul-pos (weight_close h F i l).proper (lit< tt)))
      (weights_pos h.count (weight_f h) (weight h) (weights_of h F))
