-- What a lookup goes by in two states at the same locations depends on no value: document 02, §5.
use mathlib.Core.Path.{◌≡◌, refl, sym, ap, ◌∙◌, fun_ext}
use Prim.Native.Nat.{ℕ}
use mathlib.Core.Bool.{Bool, true, false, cond}
use mathlib.Core.List.{List, [], ◌∷◌, map, map-map}
use lib.Dec.{leb}
use lib.IntN.{ℤ, pos}
use lib.ListN.{length, take, get_or, length-map}
use Rattle.model.specs.Lists.{Beside}
use Rattle.model.specs.Point.{Location, Point, Contents, State, location, no_point}
use Rattle.model.specs.Distance.{squared, distance, offset_x, offset_y, inner}
use Rattle.model.specs.Radius.{twice_area, initial_radius}
use Rattle.model.specs.Extent.{extent_of}
use Rattle.model.specs.Choice.{Choice, nearer, ordered, within, few, distance_at, by_count, choice_apart, starts_at, coincident, choice}
use Rattle.model.specs.Weight.{Neighbourhood, excess_of, neighbourhood_of, neighbourhood, weight}
use Rattle.model.specs.Computed.{weight_f}
use Rattle.model.specs.Answer.{Neighbour, neighbour_of, neighbours}
use Rattle.model.specs.FarOff.{Alike, ChoosesAlike}
use Rattle.laws.proofs.BesideLaws.{beside_imp, beside_length, beside_take, beside_at, beside_count, beside_map, beside_sort, map_beside}

-- two points at one location
pub record Together (a b : Point) : Type 0 where
  pub x : a.x ≡ b.x
  pub y : a.y ≡ b.y

pub itself : (a : Point) → Together a a
itself a = record { x = refl; y = refl }

starts_same : (p : Location) (l m : List Point) → Beside Together l m → starts_at p l ≡ starts_at p m
unfolding starts_at
starts_same p [] [] h = refl
starts_same p (a ∷ l) (b ∷ m) h = rw (h.0.x, h.0.y)
starts_same p [] (b ∷ m) h = elim h [ ]
starts_same p (a ∷ l) [] h = elim h [ ]

-- two choices, their points side by side
pub record Paired (R : Point → Point → Type 0) (c d : Choice) : Type 0 where
  pub points : Beside R c.points d.points
  pub radius : c.radius ≡ d.radius

paired_cond : (R : Point → Point → Type 0) (u : Bool) {a b c d : Choice} → Paired R a b → Paired R c d → Paired R (cond u a c) (cond u b d)
paired_cond R true h g = h
paired_cond R false h g = g

-- distances and offsets go by locations
module _ (s t : State) (p : Location) where
  squared_same : {a b : Point} → Together a b → squared s p a ≡ squared t p b
  unfolding squared
  squared_same h = rw (h.x, h.y)

  pub distance_same : {a b : Point} → Together a b → distance s p a ≡ distance t p b
  unfolding distance
  distance_same h = rw (squared_same h)

  excess_same : {a b c d : Point} → Together a b → Together c d → excess_of s p a c ≡ excess_of t p b d
  unfolding excess_of inner offset_x offset_y
  excess_same h g = rw (distance_same h, distance_same g, h.x, h.y, g.x, g.y)

  nearer_same : {a b c d : Point} → Together a b → Together c d → nearer s p a c ≡ nearer t p b d
  unfolding nearer
  nearer_same h g = rw (squared_same h, squared_same g, h.x, h.y, g.x, g.y)

-- two states with the same R0, their points side by side, and a fact R of the two at each index by which they are at one location
module _ (s t : State) (p : Location) (kept : s.extent.radius ≡ t.extent.radius)
    (R : Point → Point → Type 0) (at_one : (a b : Point) → R a b → Together a b) (points : Beside R s.contents.points t.contents.points) where
  few_same : few s ≡ few t
  few_same = rw (beside_length R s.contents.points t.contents.points points)

  ordered_beside : Beside R (ordered s p) (ordered t p)
  unfolding ordered
  ordered_beside =
      beside_sort R (nearer s p) (nearer t p) (λ a b c d h g. nearer_same s t p (at_one a b h) (at_one c d g)) s.contents.points t.contents.points points

  ordered_together : Beside Together (ordered s p) (ordered t p)
  ordered_together = beside_imp R Together at_one (ordered s p) (ordered t p) ordered_beside

  within_same : within s p ≡ within t p
  unfolding within
  within_same =
      beside_count Together (λ (a : Point). leb (distance s p a) s.extent.radius) (λ (a : Point). leb (distance t p a) t.extent.radius)
      (λ a b h. rw (distance_same s t p h, kept)) (ordered s p) (ordered t p) ordered_together

  distance_at_same : (i : ℕ) → distance_at s p i ≡ distance_at t p i
  unfolding distance_at
  distance_at_same i = distance_same s t p (beside_at Together (ordered s p) (ordered t p) i no_point (itself no_point) ordered_together)

  first_beside : (k : ℕ) → Beside R (take k (ordered s p)) (take k (ordered t p))
  first_beside k = beside_take R k (ordered s p) (ordered t p) ordered_beside

  count_paired : (n : ℕ) → Paired R (by_count s p n) (by_count t p n)
  unfolding by_count
  count_paired n =
      paired_cond R (leb n 4) (record { points = first_beside 4; radius = rw (few_same, distance_at_same 4) })
      (paired_cond R (leb n 10) (record { points = first_beside n; radius = kept }) (record { points = first_beside 10; radius = distance_at_same 10 }))

  coincident_same : coincident s p ≡ coincident t p
  unfolding coincident
  coincident_same = starts_same p (ordered s p) (ordered t p) ordered_together

  pub choice_paired : Paired R (choice s p) (choice t p)
  unfolding choice choice_apart
  choice_paired = rw (coincident_same, within_same) (paired_cond R (coincident t p) (record { points = first_beside 1; radius = refl }) (count_paired (within t p)))

abbrev kind_in : Neighbour → ℕ
kind_in n = n.kind

-- a neighbourhood with other values, and with no_point: what weights are worked out from
abbrev pub valued : Neighbourhood → (ℕ → ℤ) → Neighbourhood
valued h v = record { count = h.count; influence = h.influence; excess = h.excess; product = h.product; value = v }

abbrev pub unvalued : Neighbourhood → Neighbourhood
unvalued h = valued h (λ _. pos 0)

-- two states at the same locations, with the same R0
module _ (s t : State) (alike : Alike s.contents t.contents) (kept : s.extent.radius ≡ t.extent.radius) (p : Location) where
  pub together : Beside Together s.contents.points t.contents.points
  together =
      beside_imp _ Together (λ a b h. record { x = ap (λ (q : Location). q.x) h; y = ap (λ (q : Location). q.y) h }) s.contents.points t.contents.points
      (map_beside (λ (a : Point). location a.x a.y) s.contents.points t.contents.points alike.locations)

  chosen : Paired Together (choice s p) (choice t p)
  chosen = choice_paired s t p kept Together (λ a b h. h) together

  pub few_alike : few s ≡ few t
  few_alike = few_same s t p kept Together (λ a b h. h) together

  neighbourhood_alike : (c d : Choice) → Paired Together c d → unvalued (neighbourhood_of s p c) ≡ unvalued (neighbourhood_of t p d)
  unfolding neighbourhood_of
  neighbourhood_alike c d h =
      let at : (i : ℕ) → Together (get_or c.points i no_point) (get_or d.points i no_point) = λ i. beside_at Together c.points d.points i no_point (itself no_point) h.points in
      let away : (i : ℕ) → distance s p (get_or c.points i no_point) ≡ distance t p (get_or d.points i no_point) = λ i. distance_same s t p (at i) in
      let e₁ : length c.points ≡ length d.points = beside_length Together c.points d.points h.points in
      let e₂ : (neighbourhood_of s p c).influence ≡ (neighbourhood_of t p d).influence = fun_ext (λ i. rw (few_alike, h.radius, away i)) in
      let e₃ : (neighbourhood_of s p c).excess ≡ (neighbourhood_of t p d).excess = fun_ext (λ i. fun_ext (λ j. excess_same s t p (at i) (at j))) in
      let e₄ : (neighbourhood_of s p c).product ≡ (neighbourhood_of t p d).product = fun_ext (λ i. fun_ext (λ j. rw (away i, away j))) in
      rw (e₁, e₂, e₃, e₄)

  pub neighbourhood_same : unvalued (neighbourhood s p) ≡ unvalued (neighbourhood t p)
  unfolding neighbourhood
  neighbourhood_same = neighbourhood_alike (choice s p) (choice t p) chosen

  weights_same : (i : ℕ) → weight (neighbourhood s p) i ≡ weight (neighbourhood t p) i
  unfolding weight
  weights_same i = ap (λ (h : Neighbourhood). weight h i) neighbourhood_same

  computed_same : (i : ℕ) → weight_f (neighbourhood s p) i ≡ weight_f (neighbourhood t p) i
  unfolding weight_f
  computed_same i = ap (λ (h : Neighbourhood). weight_f h i) neighbourhood_same

  kinds_alike : (c d : Choice) → Paired Together c d → map kind_in (map (neighbour_of s p c.radius) c.points) ≡ map kind_in (map (neighbour_of t p d.radius) d.points)
  unfolding neighbour_of
  kinds_alike c d h =
      map-map kind_in (neighbour_of s p c.radius) c.points
      ∙ beside_map Together _ _ (λ a b g. rw (few_alike, h.radius, distance_same s t p g)) c.points d.points h.points
      ∙ sym (map-map kind_in (neighbour_of t p d.radius) d.points)

  kinds_same : map kind_in (neighbours s p) ≡ map kind_in (neighbours t p)
  unfolding neighbours
  kinds_same = kinds_alike (choice s p) (choice t p) chosen

  pub chooses_alike : ChoosesAlike s t p
  chooses_alike =
      record {
        coincident = coincident_same s t p kept Together (λ a b h. h) together;
        locations = beside_map Together _ _ (λ a b h. rw (h.x, h.y)) (choice s p).points (choice t p).points chosen.points;
        radius = chosen.radius;
        distances = beside_map Together (distance s p) (distance t p) (λ a b h. distance_same s t p h) (choice s p).points (choice t p).points chosen.points;
        kinds = kinds_same;
        weights = weights_same;
        computed = computed_same;
      }

pub alike_length : (q r : Contents) → Alike q r → length q.points ≡ length r.points
alike_length q r h = sym (length-map q.points _) ∙ ap length h.locations ∙ length-map r.points _

-- contents at the same locations have the same R0
pub radius_alike : (q r : Contents) → Alike q r → (extent_of q).radius ≡ (extent_of r).radius
unfolding extent_of initial_radius twice_area
radius_alike q r h = rw (h.locations, alike_length q r h)
