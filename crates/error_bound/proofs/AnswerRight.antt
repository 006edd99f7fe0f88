-- Demand 3 of a single lookup: among points in the domain, in any order, the chosen ones with values in range, every answer is near the exact mean and between the least and the greatest chosen value.
use mathlib.Core.Path.{◌≡◌, refl, sym}
use Prim.Native.Nat.{ℕ, ◌+◌, ◌*◌, ◌≤◌, ◌<◌}
use native.Mathlib.Nat.{le_trans, le_of_eq, one-mul, mul-le-mul_right}
use native.Mathlib.Omega.{arith}
use native.Mathlib.Decide.{dec_le}
use mathlib.Core.Bool.{Bool, true, false, cond}
use lib.IntN.{ℤ, pos, negsuc, nat_abs, ◌+ℤ◌, ◌-ℤ◌, ◌*ℤ◌}
use lib.ListN.{length, get_or}
use lib.Signed.{◌≤ℤ◌}
use Rattle.model.specs.Point.{Location, State, in_range, no_point}
use Rattle.model.specs.Choice.{coincident, choice}
use Rattle.model.specs.Fraction.{whole}
use Rattle.model.specs.Weight.{Neighbourhood, neighbourhood_of, neighbourhood, weight}
use Rattle.model.specs.Mean.{weighted_mean, first_chosen, mean, Near, least_chosen, greatest_chosen, Right}
use Rattle.model.specs.Computed.{mean_f}
use Rattle.model.specs.Answer.{nearest_half, answer}
use Rattle.laws.proofs.ListLaws.{all_below}
use Rattle.laws.proofs.DiffLaws.{up, down, diff_of, diff_pos, diff_minus, diff_times, diff_le, abs_diff, parts_of_le}
use Rattle.laws.proofs.ValueLaws.{≤ℤ-trans, least_all, greatest_all, least_keeps, greatest_keeps, range_ends, abs_apart, scaled, scaled_le, raised}
use Rattle.laws.proofs.ChosenLaws.{chosen_some}
use Rattle.error_bound.proofs.Means.{mean_of}
use Rattle.error_bound.proofs.MeanError.{mean_most}
use Rattle.error_bound.proofs.LessenedMean.{lessened, lessened_near, lessened_proper}
use Rattle.error_bound.proofs.AnswerNear.{answer_near}
use Rattle.error_bound.proofs.InRange.{LookupInRange, neighbourhood_fair, neighbourhood_spread}

raised_least : (z : ℤ) (k : ℕ) → (pos 256 *ℤ z) ≤ℤ ((pos 256 *ℤ z) +ℤ pos k)
raised_least z k = rw (raised z k, scaled z) (diff_le (256 * up z) (256 * down z) (256 * up z + k) (256 * down z) (omega arith))

raised_greatest : (z w : ℤ) (k : ℕ) → z ≤ℤ w → k ≤ 256 * nat_abs (w -ℤ z) → ((pos 256 *ℤ z) +ℤ pos k) ≤ℤ (pos 256 *ℤ w)
raised_greatest z w k h l =
    rw (raised z k, scaled w)
    (diff_le (256 * up z + k) (256 * down z) (256 * up w) (256 * down w) (omega (arith, l, abs_apart w z, parts_of_le z w h)))

-- a value is within 129 / 65,536 of itself
itself : (z : ℤ) → Near (pos 256 *ℤ z) (record { top = z; bot = 1 })
itself z = record { proper = omega arith; close = rw nothing (omega arith) }
  where
    nothing : nat_abs ((pos 256 *ℤ (pos 256 *ℤ z) *ℤ pos 1) -ℤ (pos 65536 *ℤ z)) ≡ 0
    nothing = rw (diff_of z, diff_pos 256, diff_pos 1, diff_pos 65536) (simp (diff_times, diff_minus, abs_diff) (omega arith))

-- an answer near a mean that is at most M is at most 256 M
held : (a t q M : ℕ) → 0 < q → a * 256 * q ≤ t * 65536 + q * 129 → t ≤ q * M → a ≤ 256 * M
held a t q M Q h k = go (dec_le a (256 * M))
  where
    go : Dec (a ≤ 256 * M) → a ≤ 256 * M
    go (yes g) = g
    go (no g) =
        let l : 256 * M + 1 ≤ a = omega arith in
        let u : (256 * M + 1) * q ≤ a * q = mul-le-mul_right q l in
        absurd (omega arith)

-- of three numbers in order the outer ones are further apart
closer : (a b c : ℤ) → a ≤ℤ b → b ≤ℤ c → nat_abs (b -ℤ a) ≤ nat_abs (c -ℤ a)
closer a b c h k =
    omega (arith, abs_apart b a, abs_apart c a, parts_of_le a b h, parts_of_le b c k)

module _ (s : State) (p : Location) (A : LookupInRange s p) where
  abbrev least : ℤ
  least = least_chosen s p

  abbrev greatest : ℤ
  greatest = greatest_chosen s p

  -- each chosen value lies between them
  chosen_least : (i : ℕ) → i < length (choice s p).points → least ≤ℤ (get_or (choice s p).points i no_point).z
  unfolding least_chosen
  chosen_least i l = all_below (λ a. least ≤ℤ a.z) (choice s p).points i no_point (least_all (choice s p).points) l

  chosen_greatest : (i : ℕ) → i < length (choice s p).points → (get_or (choice s p).points i no_point).z ≤ℤ greatest
  unfolding greatest_chosen
  chosen_greatest i l = all_below (λ a. a.z ≤ℤ greatest) (choice s p).points i no_point (greatest_all (choice s p).points) l

  first_least : least ≤ℤ (first_chosen s p).z
  unfolding first_chosen
  first_least = chosen_least 0 (chosen_some s p A.some)

  first_greatest : (first_chosen s p).z ≤ℤ greatest
  unfolding first_chosen
  first_greatest = chosen_greatest 0 (chosen_some s p A.some)

  ordered : least ≤ℤ greatest
  ordered = ≤ℤ-trans least (first_chosen s p).z greatest first_least first_greatest

  module _ (apart : coincident s p ≡ false) where
    abbrev h : Neighbourhood
    h = neighbourhood s p

    -- the answer above the least value
    abbrev k : ℕ
    k = nearest_half (mean_f h least)

    -- what the greatest value is above the least
    abbrev M : ℕ
    M = nat_abs (greatest -ℤ least)

    numbers_most : (i : ℕ) → i < h.count → nat_abs (h.value i -ℤ least) ≤ M
    unfolding neighbourhood neighbourhood_of
    numbers_most i l = closer least (h.value i) greatest (chosen_least i l) (chosen_greatest i l)

    above_most : k ≤ 256 * M
    unfolding whole
    above_most =
        let F = neighbourhood_fair s p A apart in
        let S = neighbourhood_spread s p A in
        let a = lessened_near h least F S in
        let m = mean_of h.count (weight h) (lessened h least) in
        let u : m.top ≤ m.bot * M = mean_most h.count (weight h) (lessened h least) M (λ i l. le_trans (numbers_most i l) (le_of_eq (sym (one-mul M)))) in
        held k m.top m.bot M (lessened_proper h least F S) a.not_more u

    apart_least : (pos 256 *ℤ least) ≤ℤ ((pos 256 *ℤ least) +ℤ pos k)
    apart_least = raised_least least k

    apart_greatest : ((pos 256 *ℤ least) +ℤ pos k) ≤ℤ (pos 256 *ℤ greatest)
    apart_greatest = raised_greatest least greatest k ordered above_most

  pub answer_right : Right s p (answer s p)
  unfolding answer mean
  answer_right = record { near = near (coincident s p) refl; least = from (coincident s p) refl; greatest = to (coincident s p) refl }
    where
      at_first : ℤ
      at_first = pos 256 *ℤ (first_chosen s p).z

      away : ℤ
      away = (pos 256 *ℤ least) +ℤ pos (nearest_half (mean_f (neighbourhood s p) least))

      near : (t : Bool) → coincident s p ≡ t → Near (cond t at_first away) (cond t (record { top = (first_chosen s p).z; bot = 1 }) (weighted_mean (neighbourhood s p)))
      near true e = itself (first_chosen s p).z
      near false e = answer_near (neighbourhood s p) least (neighbourhood_fair s p A e) (neighbourhood_spread s p A)

      from : (t : Bool) → coincident s p ≡ t → (pos 256 *ℤ least) ≤ℤ cond t at_first away
      from true e = scaled_le least (first_chosen s p).z first_least
      from false e = apart_least e

      to : (t : Bool) → coincident s p ≡ t → cond t at_first away ≤ℤ (pos 256 *ℤ greatest)
      to true e = scaled_le (first_chosen s p).z greatest first_greatest
      to false e = apart_greatest e

  -- from -32,768 to 32,512: an i16 holds it
  pub answer_ends : (negsuc 32767 ≤ℤ answer s p) × (answer s p ≤ℤ pos 32512)
  unfolding least_chosen greatest_chosen
  answer_ends =
      let l = range_ends least (least_keeps (λ z. in_range z ≡ true) (choice s p).points refl A.values) in
      let g = range_ends greatest (greatest_keeps (λ z. in_range z ≡ true) (choice s p).points refl A.values) in (
        ≤ℤ-trans (negsuc 32767) (pos 256 *ℤ least) (answer s p) (scaled_le (negsuc 127) least l.0) answer_right.least,
        ≤ℤ-trans (answer s p) (pos 256 *ℤ greatest) (pos 32512) answer_right.greatest (scaled_le greatest (pos 127) g.1),
      )
