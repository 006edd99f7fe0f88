-- What holds of the chosen points and of R: they are some of the points, one to ten, and neither distances nor R are beyond 2²⁴ for points in the domain.
use mathlib.Core.Path.{◌≡◌, refl, sym, ap, ◌∙◌}
use Prim.Native.Nat.{ℕ, ◌^◌, ◌≤◌, ◌<◌}
use native.Mathlib.Nat.{mul-le-mul}
use native.Mathlib.Omega.{arith}
use mathlib.Core.Bool.{Bool, true, false, cond, false≢true}
use mathlib.Core.List.{List, [], ◌∷◌}
use lib.Dec.{leb}
use lib.ListN.{length, take, get_or, length-take}
use borrow.Author.Tests.{leb-true, leb-false}
use Rattle.model.specs.Lists.{All}
use Rattle.model.specs.Point.{Location, Point, State, at, no_point}
use Rattle.model.specs.Distance.{gap, squared, distance_of, distance}
use Rattle.model.specs.Choice.{Choice, nearer, ordered, within, few, distance_at, by_count, choice_apart, starts_at, coincident, choice}
use Rattle.model.specs.Mean.{first_chosen}
use Rattle.model.specs.Calls.{taken}
use Rattle.laws.proofs.Tests.{or_false}
use Rattle.laws.proofs.ListLaws.{all_imp, all_take, all_at, all_below}
use Rattle.laws.proofs.RootLaws.{distance_le_iff, distance_pos}
use Rattle.laws.proofs.OrderLaws.{sort_all}
use Rattle.laws.proofs.NearestLaws.{length_ordered, choice_coincident}
use Rattle.laws.proofs.ChoiceLaws.{squared_zero, squared_apart, coincident_is}

-- a point in the domain, by the order of numbers
abbrev pub Inside : Point → Type 0
Inside a = (a.x < 4096) × (a.y < 4096)

-- D of a squared distance that fits 32 bits
distance_most : (n : ℕ) → n < 4294967296 → distance_of n ≤ 2 ^ 24
distance_most n h = (distance_le_iff n (2 ^ 24)).1 (omega arith)

gap_most : (m n : ℕ) → m < 4096 → n < 4096 → gap m n ≤ 4095
gap_most m n h k = omega arith

pub apart_points : (x y : ℕ) (l : List Point) → taken x y l ≡ false → All (λ a. at x y a ≡ false) l
apart_points x y [] h = tt
apart_points x y (a ∷ l) h = let e = or_false (at x y a) (taken x y l) h in (e.0, apart_points x y l e.1)

module _ (s : State) (p : Location) where
  pub ordered_all : (P : Point → Type 0) → All P s.contents.points → All P (ordered s p)
  unfolding ordered
  ordered_all P h = sort_all (nearer s p) P s.contents.points h

  -- the rules by count, one after the other
  by_count_lem : (Q : Choice → Type 0) (n : ℕ)
      → (n ≤ 4 → Q (record { points = take 4 (ordered s p); radius = cond (few s) 0 (distance_at s p 4) }))
      → (4 < n → n ≤ 10 → Q (record { points = take n (ordered s p); radius = s.extent.radius }))
      → (10 < n → Q (record { points = take 10 (ordered s p); radius = distance_at s p 10 }))
      → Q (by_count s p n)
  unfolding by_count
  by_count_lem Q n four some ten = go (leb n 4) (leb n 10) refl refl
    where
      go : (t u : Bool) → leb n 4 ≡ t → leb n 10 ≡ u
          → Q (cond t (record { points = take 4 (ordered s p); radius = cond (few s) 0 (distance_at s p 4) })
          (cond u (record { points = take n (ordered s p); radius = s.extent.radius })
          (record { points = take 10 (ordered s p); radius = distance_at s p 10 })))
      go true u e f = four (leb-true n 4 e)
      go false true e f = some (leb-false n 4 e) (leb-true n 10 f)
      go false false e f = ten (leb-false n 10 f)

  -- the choice, with rule 1 above the others
  by_choice : (Q : Choice → Type 0) → Q (record { points = take 1 (ordered s p); radius = 0 }) → Q (choice_apart s p) → Q (choice s p)
  unfolding choice
  by_choice Q one apart = go (coincident s p)
    where
      go : (t : Bool) → Q (cond t (record { points = take 1 (ordered s p); radius = 0 }) (choice_apart s p))
      go true = one
      go false = apart

  -- each chosen point is one of the points
  apart_all : (P : Point → Type 0) → All P s.contents.points → All P (choice_apart s p).points
  unfolding choice_apart
  apart_all P h =
      by_count_lem (λ c. All P c.points) (within s p)
      (λ l. all_take P 4 (ordered s p) (ordered_all P h))
      (λ k l. all_take P (within s p) (ordered s p) (ordered_all P h))
      (λ l. all_take P 10 (ordered s p) (ordered_all P h))

  pub chosen_all : (P : Point → Type 0) → All P s.contents.points → All P (choice s p).points
  chosen_all P h = by_choice (λ c. All P c.points) (all_take P 1 (ordered s p) (ordered_all P h)) (apart_all P h)

  -- how many are chosen
  taken_some : (k : ℕ) → 0 < k → 0 < length s.contents.points → 0 < length (take k (ordered s p))
  taken_some k h n = omega (arith, length-take k (ordered s p), length_ordered s p)

  taken_most : (k : ℕ) → k ≤ 10 → length (take k (ordered s p)) ≤ 10
  taken_most k h = omega (arith, length-take k (ordered s p))

  pub chosen_some : 0 < length s.contents.points → 0 < length (choice s p).points
  unfolding choice_apart
  chosen_some n =
      by_choice (λ c. 0 < length c.points) (taken_some 1 (omega arith) n)
      (by_count_lem (λ c. 0 < length c.points) (within s p)
      (λ l. taken_some 4 (omega arith) n) (λ k l. taken_some (within s p) (omega arith) n) (λ l. taken_some 10 (omega arith) n))

  pub chosen_most : length (choice s p).points ≤ 10
  unfolding choice_apart
  chosen_most =
      by_choice (λ c. length c.points ≤ 10) (taken_most 1 (omega arith))
      (by_count_lem (λ c. length c.points ≤ 10) (within s p)
      (λ l. taken_most 4 (omega arith)) (λ k l. taken_most (within s p) l) (λ l. taken_most 10 (omega arith)))

  -- where no point is at p, no chosen one is
  pub chosen_apart : coincident s p ≡ false → All (λ a. 0 < distance s p a) (choice s p).points
  unfolding distance
  chosen_apart h =
      all_imp (λ a. at p.x p.y a ≡ false) (λ a. 0 < distance s p a)
      (λ a e. distance_pos (squared s p a) (squared_apart s p a e))
      (choice s p).points
      (chosen_all (λ a. at p.x p.y a ≡ false) (apart_points p.x p.y s.contents.points (sym (coincident_is s p) ∙ h)))

  module _ (domain : (p.x < 4096) × (p.y < 4096)) where
    pub point_most : (a : Point) → Inside a → distance s p a ≤ 2 ^ 24
    unfolding distance squared
    point_most a h =
        let g : gap p.x a.x ≤ 4095 = gap_most p.x a.x domain.0 h.0 in
        let k : gap p.y a.y ≤ 4095 = gap_most p.y a.y domain.1 h.1 in
        let u = mul-le-mul g g in
        let v = mul-le-mul k k in
        distance_most (squared s p a) (omega arith)

    -- R0 is read from what is kept, so its bound is asked for
    module _ (inside : All Inside s.contents.points) (kept : s.extent.radius ≤ 2 ^ 24) where
      distance_at_most : (i : ℕ) → distance_at s p i ≤ 2 ^ 24
      unfolding distance_at
      distance_at_most i =
          point_most (get_or (ordered s p) i no_point)
          (all_at Inside (ordered s p) i no_point (omega arith, omega arith) (ordered_all Inside inside))

      few_most : (t : Bool) (n : ℕ) → n ≤ 2 ^ 24 → cond t 0 n ≤ 2 ^ 24
      few_most true n h = omega arith
      few_most false n h = h

      pub chosen_radius : (choice s p).radius ≤ 2 ^ 24
      unfolding choice_apart
      chosen_radius =
          by_choice (λ c. c.radius ≤ 2 ^ 24) (omega arith)
          (by_count_lem (λ c. c.radius ≤ 2 ^ 24) (within s p)
          (λ l. few_most (few s) (distance_at s p 4) (distance_at_most 4)) (λ k l. kept) (λ l. distance_at_most 10))

-- the first chosen point is at p exactly where some point is
module _ (s : State) (p : Location) where
  starts_zero : (l : List Point) → starts_at p l ≡ true → distance s p (get_or (take 1 l) 0 no_point) ≡ 0
  unfolding starts_at distance
  starts_zero [] h = absurd (false≢true h)
  starts_zero (a ∷ l) h = ap distance_of ((squared_zero s p a).1 h)

  pub first_at : coincident s p ≡ true → distance s p (first_chosen s p) ≡ 0
  unfolding first_chosen coincident
  first_at h = ap (λ (c : Choice). distance s p (get_or c.points 0 no_point)) (choice_coincident s p h) ∙ starts_zero (ordered s p) h

  pub first_apart : 0 < length s.contents.points → coincident s p ≡ false → 0 < distance s p (first_chosen s p)
  unfolding first_chosen
  first_apart n h = all_below (λ a. 0 < distance s p a) (choice s p).points 0 no_point (chosen_apart s p h) (chosen_some s p n)
