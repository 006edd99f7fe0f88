-- Document 01's first starred row: of one point, z = -7, every place gives -1,792. Of any z the exact mean is z, and the answer 256 z.
use mathlib.Core.Path.{◌≡◌, refl, sym, ap, subst, ◌∙◌}
use Prim.Native.Nat.{ℕ, suc, ◌+◌, ◌*◌, ◌≤◌, ◌<◌}
use native.Mathlib.Nat.{le_antisymm, mul-le-mul_right, mul-pos, zero-mul}
use native.Mathlib.Omega.{arith}
use native.Mathlib.Decide.{dec_le}
use mathlib.Core.Bool.{Bool, true, false, cond}
use mathlib.Core.List.{[], ◌∷◌}
use lib.Dec.{leb}
use lib.IntN.{ℤ, pos, negsuc, neg_ℤ, nat_abs, ◌+ℤ◌, ◌-ℤ◌, ◌*ℤ◌, *ℤ_comm, +ℤ_idl, neg_ℤ-neg_ℤ, neg_ℤ-+ℤ}
use lib.ListN.{get_or}
use borrow.Author.Tests.{ne_eqb}
use Rattle.model.specs.Point.{Location, State, point, at, no_point}
use Rattle.model.specs.Distance.{gap, squared, distance}
use Rattle.model.specs.Extent.{survey_of}
use Rattle.model.specs.Choice.{Choice, within, coincident, by_count, choice_apart, choice}
use Rattle.model.specs.Fraction.{Fraction, Signed, whole, plus, times_z, plus_z, over_z}
use Rattle.model.specs.Influence.{Influence, inverse, influence_at}
use Rattle.model.specs.Weight.{Neighbourhood, neighbourhood_of, neighbourhood, weight}
use Rattle.model.specs.Mean.{Near, weighted_mean, first_chosen, mean}
use Rattle.laws.proofs.IntLaws.{times_one, neg_times, times_times, abs_neg, abs_minus, abs_plus}
use Rattle.laws.proofs.RootLaws.{distance_pos}
use Rattle.laws.proofs.ChoiceLaws.{squared_apart}

-- a fraction of value z
pub record Whole (m : Signed) (z : ℤ) : Type 0 where
  pub proper : 0 < m.bot
  pub same : m.top ≡ z *ℤ pos m.bot

-- z weighed by w alone
abbrev weighed : Fraction → ℤ → Signed
weighed w z = unfold over_z plus_z times_z plus whole in over_z (plus_z (record { top = pos 0; bot = 1 }) (times_z w z)) (plus (whole 0) w)

weighed_whole : (w : Fraction) (z : ℤ) → 0 < w.top → 0 < w.bot → Whole (weighed w z) z
unfolding over_z plus_z times_z plus whole
weighed_whole w z ht hb =
    let g : 0 < w.bot * w.top = mul-pos hb ht in
    let e : w.top * (1 * w.bot) ≡ 1 * w.bot * (0 * w.bot + w.top * 1) = omega arith in
    let l : (pos (0 * w.bot) +ℤ pos w.top *ℤ z *ℤ pos 1) *ℤ pos (1 * w.bot) ≡ z *ℤ pos (w.top * (1 * w.bot))
    = rw (zero-mul, +ℤ_idl, times_one, *ℤ_comm (pos w.top) z, times_times) in
    record { proper = omega arith; same = l ∙ ap (λ (k : ℕ). z *ℤ pos k) e }

module _ (f : ℕ → Influence) (e q : ℕ → ℕ → ℕ) (v : ℕ → ℤ) where
  -- a neighbourhood of one point
  abbrev single : Neighbourhood
  single = record { count = 1; influence = f; excess = e; product = q; value = v }

  module _ (d : ℕ) (h : 0 < d) (near : f 0 ≡ inverse d) where
    weight_top : 0 < (weight single 0).top
    unfolding weight
    weight_top = rw near (omega arith)

    weight_bot : 0 < (weight single 0).bot
    unfolding weight
    weight_bot = let g : 0 < d * d = mul-pos h h in rw near (omega arith)

    single_whole : Whole (weighted_mean single) (v 0)
    unfolding weighted_mean
    single_whole = weighed_whole (weight single 0) (v 0) weight_top weight_bot

-- an answer near a whole number z is 256 z
module _ (q : ℕ) (h : 0 < q) where
  cancel : (m n : ℕ) → 256 * m * q ≤ 256 * n * q + 129 * q → m ≤ n
  cancel m n le = elim (dec_le m n) [
    | yes g ↦ g
    | no g ↦ let l : (n + 1) * q ≤ m * q = mul-le-mul_right q (omega arith) in absurd (omega arith)
  ]

  close_equal : (n k : ℕ) → gap (256 * n * q) (65536 * (k * q)) ≤ 129 * q → n ≡ 256 * k
  close_equal n k c = le_antisymm (cancel n (256 * k) (omega arith)) (cancel (256 * k) n (omega arith))

  close_whole : (a z : ℤ) → nat_abs ((pos 256 *ℤ a *ℤ pos q) -ℤ (pos 65536 *ℤ (z *ℤ pos q))) ≤ 129 * q → a ≡ pos 256 *ℤ z
  close_whole (pos n) (pos k) c = ap pos (close_equal n k (rw abs_minus at c))
  close_whole (pos n) (negsuc k) c =
      let l = rw (*ℤ_comm (pos 65536) (neg_ℤ (pos (suc k * q))), neg_times, neg_ℤ-neg_ℤ) at c in
      absurd (omega arith)
  close_whole (negsuc n) (pos k) c =
      let l = rw (neg_times, abs_plus) at c in
      absurd (omega arith)
  close_whole (negsuc n) (negsuc k) c =
      let l = rw (*ℤ_comm (pos 65536) (neg_ℤ (pos (suc k * q))), neg_times (256 * suc n) q, neg_times (suc k * q) 65536, ← neg_ℤ-+ℤ, abs_neg, abs_minus) at c in
      let e : suc n ≡ 256 * suc k = close_equal (suc n) (suc k) (omega arith) in
      rw (← e)

pub near_whole : (a z : ℤ) (m : Signed) → Whole m z → Near a m → a ≡ pos 256 *ℤ z
near_whole a z m w n = close_whole m.bot w.proper a z (rw w.same at n.close)

influence_one : (d : ℕ) → 0 < d → influence_at true 0 d ≡ inverse d
unfolding influence_at
influence_one d h = rw (ne_eqb d 0 (λ e. omega arith))

module _ (x y : ℕ) (z : ℤ) (p : Location) where
  abbrev one : State
  one = survey_of (point x y z ∷ [])

  abbrev chosen : Choice
  chosen = record { points = point x y z ∷ []; radius = 0 }

  within_one : leb (within one p) 4 ≡ true
  unfolding within
  within_one = go (leb (distance one p (point x y z)) one.extent.radius)
    where
      go : (t : Bool) → leb (cond {A = ℕ} t 1 0) 4 ≡ true
      go true = refl
      go false = refl

  by_count_one : (n : ℕ) → leb n 4 ≡ true → by_count one p n ≡ chosen
  unfolding by_count
  by_count_one n h = rw h

  choice_one : choice one p ≡ chosen
  unfolding choice
  choice_one = go (coincident one p)
    where
      go : (t : Bool) → cond t chosen (choice_apart one p) ≡ chosen
      go true = refl
      go false = by_count_one (within one p) within_one

  first_one : (first_chosen one p).z ≡ z
  unfolding first_chosen
  first_one = ap (λ (c : Choice). (get_or c.points 0 no_point).z) choice_one

  weighted_one : at p.x p.y (point x y z) ≡ false → Whole (weighted_mean (neighbourhood_of one p chosen)) z
  unfolding neighbourhood_of
  weighted_one h =
      let d : 0 < distance one p (point x y z) = distance_pos (squared one p (point x y z)) (squared_apart one p (point x y z) h) in
      single_whole _ _ _ _ (distance one p (point x y z)) d (influence_one (distance one p (point x y z)) d)

  mean_one : Whole (mean one p) z
  unfolding mean
  mean_one = go (at p.x p.y (point x y z)) refl
    where
      go : (t : Bool) → at p.x p.y (point x y z) ≡ t → Whole (cond t (record { top = (first_chosen one p).z; bot = 1 }) (weighted_mean (neighbourhood one p))) z
      go true e = record { proper = omega arith; same = first_one ∙ sym (times_one z) }
      go false e = subst (λ (c : Choice). Whole (weighted_mean (neighbourhood_of one p c)) z) (sym choice_one) (weighted_one e)

  -- a single point's value is the mean everywhere
  pub single_mean : ((mean one p).top *ℤ pos 1 ≡ z *ℤ pos (mean one p).bot) × (0 < (mean one p).bot)
  single_mean = (times_one (mean one p).top ∙ mean_one.same, mean_one.proper)

  pub single_answer : (a : ℤ) → Near a (mean one p) → a ≡ pos 256 *ℤ z
  single_answer a n = near_whole a z (mean one p) mean_one n

pub one_point_mean : (x y : ℕ) (p : Location) → let m = mean (survey_of (point x y (negsuc 6) ∷ [])) p in (m.top *ℤ pos 1 ≡ negsuc 6 *ℤ pos m.bot) × (0 < m.bot)
one_point_mean x y p = single_mean x y (negsuc 6) p

pub one_point : (x y : ℕ) (p : Location) (a : ℤ) → Near a (mean (survey_of (point x y (negsuc 6) ∷ [])) p) → a ≡ negsuc 1791
one_point x y p a n = single_answer x y (negsuc 6) p a n
