-- The answer from what the code has at hand: 256 times the value of a point at the location, or the least value and the nearest 256th of the mean above it.
use mathlib.Core.Path.{◌≡◌, refl, sym, ap, ap₂, subst, ◌∙◌}
use Prim.Native.Nat.{ℕ, ◌*◌, ◌^◌, ◌≤◌, ◌<◌}
use native.Mathlib.Nat.{lt_irrefl}
use mathlib.Core.Bool.{Bool, true, false, cond}
use lib.Dec.{T}
use lib.Ieee.{Float}
use lib.Ieee.Positive.{num, den}
use lib.IntN.{ℤ, pos, nat_abs, ◌+ℤ◌, ◌*ℤ◌, +ℤ_idr}
use lib.Signed.{◌≤ℤ◌}
use lib.ListN.{get_or}
use Rattle.model.specs.Lists.{All}
use Rattle.model.specs.Point.{Location, Point, State, in_domain, no_point}
use Rattle.model.specs.Distance.{distance, offset_x, offset_y}
use Rattle.model.specs.Choice.{coincident, choice}
use Rattle.model.specs.Weight.{neighbourhood}
use Rattle.model.specs.Extent.{lesser, values_by}
use Rattle.model.specs.Mean.{first_chosen, least_chosen}
use Rattle.model.specs.Computed.{mean_f}
use Rattle.model.specs.Answer.{nearest_half, answer}
use Rattle.relative_error.specs.Close.{plain}
use Rattle.laws.proofs.ListLaws.{all_imp, all_below}
use Rattle.laws.proofs.RecordLaws.{domain_bounds}
use Rattle.laws.proofs.ChosenLaws.{Inside, chosen_some, chosen_all, point_most, first_at, first_apart}
use Rattle.laws.proofs.InnerLaws.{offset_x_most, offset_y_most}
use Rattle.error_bound.proofs.InRange.{LookupInRange, neighbourhood_fair, neighbourhood_spread}
use Rattle.error_bound.proofs.AnswerRight.{answer_ends}
use Rattle.error_bound.proofs.LessenedMean.{mean_reach}
use Rattle.neighbours.specs.declared.Neighbour.{Neighbour}
use Rattle.neighbours.specs.declared.Chosen.{Chosen}
use Rattle.neighbours.specs.Chose.{neighbour_at}
use Rattle.weights.specs.Seen.{item_at, seen, points_held, Bounded}
use Rattle.lookup.specs.Asked.{Asked}
use Rattle.lookup.proofs.SeenLaws.{item_is, least_is, mean_seen}

module _ (s : State) (p : Location) (c : Chosen) (A : Asked s p c) where
  inside : All Inside s.contents.points
  inside = all_imp (λ a. in_domain a.x a.y ≡ true) Inside (λ a h. domain_bounds a.x a.y h) s.contents.points A.inside

  pub in_range_lem : LookupInRange s p
  in_range_lem = record { domain = A.domain; some = A.some; inside = inside; kept = A.kept; values = A.chose.values }

  abbrev first : Neighbour
  first = item_at c 0

  first_chosen_lem : 0 < c.count
  first_chosen_lem = rw A.chose.count (chosen_some s p A.some)

  first_is : first ≡ neighbour_at s p (first_chosen s p)
  unfolding first_chosen
  first_is = item_is s p c A.chose 0 first_chosen_lem

  first_distance : first.distance ≡ distance s p (first_chosen s p)
  unfolding neighbour_at
  first_distance = ap (λ (a : Neighbour). a.distance) first_is

  -- a fact of every point in the domain is one of each neighbour
  near_all : (P : Point → Type 0) → ((a : Point) → Inside a → P a) → (i : ℕ) → i < c.count → P (get_or (choice s p).points i no_point)
  near_all P h i l =
      all_below P (choice s p).points i no_point (chosen_all s p P (all_imp Inside P h s.contents.points inside)) (rw A.chose.count at l)

  pub bounded : Bounded c
  unfolding neighbour_at
  bounded = record {
    size = A.chose.size;
    near = λ i l. rw (item_is s p c A.chose i l) (record {
      distance = near_all (λ a. distance s p a ≤ 2 ^ 24) (λ a h. point_most s p A.domain a h) i l;
      dx = near_all (λ a. nat_abs (offset_x s p a) < 2 ^ 15) (λ a h. offset_x_most s p A.domain a h) i l;
      dy = near_all (λ a. nat_abs (offset_y s p a) < 2 ^ 15) (λ a h. offset_y_most s p A.domain a h) i l;
    });
  }

  answer_most : answer s p ≤ℤ pos 32512
  answer_most = (answer_ends s p in_range_lem).1

  -- which of the two it is, by the distance of the first neighbour
  at_location : first.distance ≡ 0 → coincident s p ≡ true
  at_location h = go (coincident s p) refl
    where
      go : (t : Bool) → coincident s p ≡ t → t ≡ true
      go true e = refl
      go false e = absurd (lt_irrefl 0 (rw (sym first_distance ∙ h) at (first_apart s p A.some e)))

  pub apart : (first.distance ≡ 0 → ⊥) → coincident s p ≡ false
  apart h = go (coincident s p) refl
    where
      go : (t : Bool) → coincident s p ≡ t → t ≡ false
      go true e = absurd (h (first_distance ∙ first_at s p e))
      go false e = refl

  pub answer_first : first.distance ≡ 0 → answer s p ≡ (pos 256 *ℤ first.z) +ℤ pos 0
  unfolding answer neighbour_at
  answer_first h =
      ap (λ (t : Bool). cond t (pos 256 *ℤ (first_chosen s p).z) ((pos 256 *ℤ least_chosen s p) +ℤ pos (nearest_half (mean_f (neighbourhood s p) (least_chosen s p))))) (at_location h)
      ∙ ap (λ (a : Neighbour). pos 256 *ℤ a.z) (sym first_is)
      ∙ sym (+ℤ_idr (pos 256 *ℤ first.z))

  pub first_most : first.distance ≡ 0 → ((pos 256 *ℤ first.z) +ℤ pos 0) ≤ℤ pos 32512
  first_most h = subst (λ (z : ℤ). z ≤ℤ pos 32512) (answer_first h) answer_most

  -- the mean and the answer where no point is at the location, from the least value and 512 times the mean that the code has
  module _ (off : first.distance ≡ 0 → ⊥) (least : ℤ) (l : least ≡ values_by lesser (points_held c)) (y : Float) (e : y ≡ mean_f (seen c) least) where
    mean_at : y ≡ mean_f (neighbourhood s p) (least_chosen s p)
    mean_at = e ∙ ap (mean_f (seen c)) l ∙ mean_seen s p c A.chose

    pub reach : T (plain y) × (num y < 4194304 * den y)
    reach =
        subst (λ (x : Float). T (plain x) × (num x < 4194304 * den x)) (sym mean_at)
        (mean_reach (neighbourhood s p) (least_chosen s p) (neighbourhood_fair s p in_range_lem (apart off)) (neighbourhood_spread s p in_range_lem))

    pub answer_apart : answer s p ≡ (pos 256 *ℤ least) +ℤ pos (nearest_half y)
    unfolding answer
    answer_apart =
        ap (λ (t : Bool). cond t (pos 256 *ℤ (first_chosen s p).z) ((pos 256 *ℤ least_chosen s p) +ℤ pos (nearest_half (mean_f (neighbourhood s p) (least_chosen s p))))) (apart off)
        ∙ sym (ap₂ (λ (z : ℤ) (x : Float). (pos 256 *ℤ z) +ℤ pos (nearest_half x)) (l ∙ least_is s p c A.chose) mean_at)

    pub apart_most : ((pos 256 *ℤ least) +ℤ pos (nearest_half y)) ≤ℤ pos 32512
    apart_most = subst (λ (z : ℤ). z ≤ℤ pos 32512) answer_apart answer_most
