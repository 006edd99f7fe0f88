-- Weights and mean go by the indices below the count only, so the neighbourhood that a struct holds has those of the location that it was chosen for.
use mathlib.Core.Path.{◌≡◌, refl, sym, ap, ap₂, ◌∙◌}
use mathlib.Core.Bool.{◌&&◌}
use Prim.Native.Nat.{ℕ, zero, suc, ◌*◌, ◌<◌}
use native.Mathlib.Omega.{arith}
use mathlib.Core.List.{List, [], ◌∷◌, map}
use lib.Ieee.{Float, binary64, mul, div}
use lib.IntN.{ℤ}
use lib.ListN.{get_or}
use lib.Seq.{get_or-take}
use Rattle.model.specs.Point.{Location, Point, State, no_point}
use Rattle.model.specs.Distance.{inner}
use Rattle.model.specs.Choice.{choice}
use Rattle.model.specs.Influence.{Influence, is_edge}
use Rattle.model.specs.Weight.{Neighbourhood, all_edge, excess_of, neighbourhood_of, neighbourhood}
use Rattle.model.specs.Extent.{values_by, lesser}
use Rattle.model.specs.Mean.{least_chosen}
use Rattle.model.specs.Computed.{float, sum_f, factor_f, factor_at_f, term_f, weight_f, scaled_mean_f, lessened_f, mean_f}
use Rattle.laws.proofs.MapLaws.{get_d_map}
use Rattle.relative_error.proofs.SumLaws.{sum_f_same}
use Rattle.neighbours.specs.declared.Neighbour.{Neighbour}
use Rattle.neighbours.specs.declared.Chosen.{Chosen}
use Rattle.neighbours.specs.Chose.{Chose, neighbour_at}
use Rattle.weights.specs.Seen.{no_neighbour, item_at, point_of, excess_between, seen, points_held}

-- g and h have as many points, and the same at each index
pub record Agree (g h : Neighbourhood) : Type 0 where
  pub count : g.count ≡ h.count
  pub influence : (i : ℕ) → i < g.count → g.influence i ≡ h.influence i
  pub excess : (i j : ℕ) → i < g.count → j < g.count → g.excess i j ≡ h.excess i j
  pub product : (i j : ℕ) → i < g.count → j < g.count → g.product i j ≡ h.product i j
  pub value : (i : ℕ) → i < g.count → g.value i ≡ h.value i

edges_same : (f g : ℕ → Influence) (n : ℕ) → ((i : ℕ) → i < n → f i ≡ g i) → all_edge f n ≡ all_edge g n
unfolding all_edge
edges_same f g zero h = refl
edges_same f g (suc n) h = ap₂ ◌&&◌ (edges_same f g n (λ i l. h i (omega arith))) (ap is_edge (h n (omega arith)))

module _ (g h : Neighbourhood) (A : Agree g h) where
  pub all_edge_same : all_edge g.influence g.count ≡ all_edge h.influence h.count
  all_edge_same = edges_same g.influence h.influence g.count A.influence ∙ ap (all_edge h.influence) A.count

  factors_same : sum_f (factor_at_f g) g.count ≡ sum_f (factor_at_f h) h.count
  factors_same = sum_f_same (factor_at_f g) (factor_at_f h) g.count (λ i l. ap factor_f (A.influence i l)) ∙ ap (sum_f (factor_at_f h)) A.count

  term_same : (i j : ℕ) → i < g.count → j < g.count → term_f g i j ≡ term_f h i j
  unfolding term_f
  term_same i j k l = rw (A.influence j l, A.excess i j k l, A.product i j k l)

  terms_same : (i : ℕ) → i < g.count → sum_f (term_f g i) g.count ≡ sum_f (term_f h i) h.count
  terms_same i k = sum_f_same (term_f g i) (term_f h i) g.count (λ j l. term_same i j k l) ∙ ap (sum_f (term_f h i)) A.count

  pub weight_same : (i : ℕ) → i < g.count → weight_f g i ≡ weight_f h i
  unfolding weight_f
  weight_same i k = rw (all_edge_same, A.influence i k, terms_same i k, factors_same)

  pub mean_same : (least : ℤ) → mean_f g least ≡ mean_f h least
  unfolding mean_f scaled_mean_f
  mean_same least =
      ap₂ (λ (v w : Float). mul binary64 (float 512) (div binary64 v w))
      (sum_f_same (λ i. mul binary64 (weight_f g i) (lessened_f least (g.value i))) (λ i. mul binary64 (weight_f h i) (lessened_f least (h.value i))) g.count
      (λ i l. ap₂ (mul binary64) (weight_same i l) (ap (lessened_f least) (A.value i l)))
      ∙ ap (sum_f (λ i. mul binary64 (weight_f h i) (lessened_f least (h.value i)))) A.count)
      (sum_f_same (weight_f g) (weight_f h) g.count weight_same ∙ ap (sum_f (weight_f h)) A.count)

points_back : (s : State) (p : Location) (l : List Point) → map point_of (map (neighbour_at s p) l) ≡ l
unfolding neighbour_at
points_back s p [] = refl
points_back s p (a ∷ l) = ap (λ (m : List Point). a ∷ m) (points_back s p l)

module _ (s : State) (p : Location) (c : Chosen) (C : Chose s p c) where
  abbrev chosen_at : ℕ → Point
  chosen_at i = get_or (choice s p).points i no_point

  pub item_is : (i : ℕ) → i < c.count → item_at c i ≡ neighbour_at s p (chosen_at i)
  item_is i l =
      sym (get_or-take c.count c.items i no_neighbour l)
      ∙ ap (λ (m : List Neighbour). get_or m i no_neighbour) C.items
      ∙ get_d_map (neighbour_at s p) (choice s p).points i no_neighbour no_point (rw C.count at l)

  pub seen_agrees : Agree (seen c) (neighbourhood s p)
  unfolding seen neighbourhood neighbourhood_of neighbour_at excess_between excess_of inner
  seen_agrees = record {
    count = C.count;
    influence = λ i l. rw (C.few, C.radius, item_is i l);
    excess = λ i j k l. ap₂ (excess_between) (item_is i k) (item_is j l);
    product = λ i j k l. ap₂ (λ (a b : Neighbour). a.distance * b.distance) (item_is i k) (item_is j l);
    value = λ i l. ap (λ (a : Neighbour). a.z) (item_is i l);
  }

  pub least_is : values_by lesser (points_held c) ≡ least_chosen s p
  unfolding points_held least_chosen
  least_is = ap (λ (l : List Neighbour). values_by lesser (map point_of l)) C.items ∙ ap (values_by lesser) (points_back s p (choice s p).points)

  -- what `mean_of` works out is the mean at the location
  pub mean_seen : mean_f (seen c) (values_by lesser (points_held c)) ≡ mean_f (neighbourhood s p) (least_chosen s p)
  mean_seen = mean_same (seen c) (neighbourhood s p) seen_agrees (values_by lesser (points_held c)) ∙ ap (mean_f (neighbourhood s p)) least_is
