-- A lookup gives the same in two states at the same locations whose values differ only at points that it does not choose: document 02, §5.
use mathlib.Core.Path.{◌≡◌, refl, sym, ap, ◌∙◌}
use mathlib.Core.Logic.{inl, inr}
use Prim.Native.Nat.{ℕ}
use mathlib.Core.Bool.{true, false, cond, true≢false}
use mathlib.Core.List.{List, [], ◌∷◌, map}
use lib.Dec.{eqb}
use lib.IntN.{ℤ, pos, ◌+ℤ◌, ◌*ℤ◌}
use lib.ListN.{get_or}
use borrow.Author.Tests.{eq-eqb}
use Rattle.model.specs.Lists.{All, Beside}
use Rattle.model.specs.Point.{Location, Point, Contents, State, point, no_point, at}
use Rattle.model.specs.Radius.{locations}
use Rattle.model.specs.Extent.{lesser, values_by, settled}
use Rattle.model.specs.Choice.{Choice, coincident, choice}
use Rattle.model.specs.Weight.{Neighbourhood, neighbourhood_of, neighbourhood}
use Rattle.model.specs.Mean.{weighted_mean, first_chosen, least_chosen, mean}
use Rattle.model.specs.Computed.{mean_f}
use Rattle.model.specs.Answer.{nearest_half, answer, neighbour_of, neighbours}
use Rattle.model.specs.Calls.{Change, taken, revalue, refusal, accepted, after}
use Rattle.model.specs.FarOff.{Alike, Spares, Spared, AnswersAlike}
use Rattle.laws.proofs.Tests.{or_true, cond_cases}
use Rattle.laws.proofs.ListLaws.{all_imp, all_any, map_same}
use Rattle.laws.proofs.PrecedesLaws.{at_same}
use Rattle.laws.proofs.BesideLaws.{beside_both, beside_self}
use Rattle.laws.proofs.AlikeLaws.{Together, itself, distance_same, choice_paired, valued, unvalued, together, few_alike, neighbourhood_same, chooses_alike}

choice_is : (c d : Choice) → c.points ≡ d.points → c.radius ≡ d.radius → c ≡ d
choice_is c d e f = let g : ◌≡◌ {A = Choice} (record { points = c.points; radius = c.radius }) (record { points = d.points; radius = d.radius }) = rw (e, f) in g

-- the mean and the answer, from the choice and the neighbourhood
mean_by : (s : State) (p : Location)
    → mean s p ≡ cond (coincident s p) (record { top = (get_or (choice s p).points 0 no_point).z; bot = 1 }) (weighted_mean (neighbourhood s p))
unfolding mean first_chosen
mean_by s p = refl

answer_by : (s : State) (p : Location)
    → answer s p ≡ cond (coincident s p) (pos 256 *ℤ (get_or (choice s p).points 0 no_point).z)
    ((pos 256 *ℤ values_by lesser (choice s p).points) +ℤ pos (nearest_half (mean_f (neighbourhood s p) (values_by lesser (choice s p).points))))
unfolding answer first_chosen least_chosen
answer_by s p = refl

-- each point of a list is at a location that the list takes
taken_self : (l : List Point) → All (λ a. taken a.x a.y l ≡ true) l
taken_self [] = tt
taken_self (a ∷ l) =
    (rw (eq-eqb a.x a.x refl, eq-eqb a.y a.y refl), all_imp _ _ (λ b h. or_true (at b.x b.y a) (taken b.x b.y l) h) l (taken_self l))

-- where the values of the two differ only at points not chosen
module _ (s t : State) (alike : Alike s.contents t.contents) (kept : s.extent.radius ≡ t.extent.radius) (p : Location) (spared : Spared s p t.contents) where
  abbrev Shared : Point → Point → Type 0
  Shared a b = Together a b × Spares s p a b

  point_same : (a b : Point) → Shared a b → taken a.x a.y (choice s p).points ≡ true → a ≡ b
  point_same a b h g = let e : point a.x a.y a.z ≡ point b.x b.y b.z = rw (h.0.x, h.0.y, value h.1) in e
    where
      value : Spares s p a b → a.z ≡ b.z
      value (inl e) = e
      value (inr e) = absurd (true≢false (sym g ∙ e))

  points_same : (l m : List Point) → Beside Shared l m → All (λ a. taken a.x a.y (choice s p).points ≡ true) l → l ≡ m
  points_same [] [] h g = refl
  points_same (a ∷ l) (b ∷ m) h g = rw (point_same a b h.0 g.0, points_same l m h.1 g.1)
  points_same [] (b ∷ m) h g = elim h [ ]
  points_same (a ∷ l) [] h g = elim h [ ]

  -- the choice, with its values
  choice_same : choice s p ≡ choice t p
  choice_same =
      let l = s.contents.points in
      let m = t.contents.points in
      let c = choice_paired s t p kept Shared (λ a b h. h.0) (beside_both Together (Spares s p) Shared (λ a b h g. (h, g)) l m (together s t alike kept p) spared) in
      choice_is (choice s p) (choice t p) (points_same (choice s p).points (choice t p).points c.points (taken_self (choice s p).points)) c.radius

  neighbourhood_whole : neighbourhood s p ≡ neighbourhood t p
  unfolding neighbourhood neighbourhood_of
  neighbourhood_whole =
      ap (λ (h : Neighbourhood). valued h (neighbourhood s p).value) (neighbourhood_same s t alike kept p)
      ∙ ap (λ (c : Choice). valued (unvalued (neighbourhood t p)) (λ i. (get_or c.points i no_point).z)) choice_same

  records_alike : (r : ℕ) (l : List Point) → map (neighbour_of s p r) l ≡ map (neighbour_of t p r) l
  unfolding neighbour_of
  records_alike r l = map_same (neighbour_of s p r) (neighbour_of t p r) l (all_any (λ a. neighbour_of s p r a ≡ neighbour_of t p r a) (λ a. rw (few_alike s t alike kept p, distance_same s t p (itself a))) l)

  records_same : neighbours s p ≡ neighbours t p
  unfolding neighbours
  records_same = ap (λ (c : Choice). map (neighbour_of s p c.radius) c.points) choice_same ∙ records_alike (choice t p).radius (choice t p).points

  pub answers_alike : AnswersAlike s t p
  answers_alike =
      let alone = (chooses_alike s t alike kept p).coincident in
      record {
        chosen = choice_same;
        exact = mean_by s p ∙ rw (alone, choice_same, neighbourhood_whole) (sym (mean_by t p));
        computed = answer_by s p ∙ rw (alone, choice_same, neighbourhood_whole) (sym (answer_by t p));
        records = records_same;
      }

-- a change at (x, y), refused or not, leaves the locations; and values differ after it only at the point there
module _ (x y : ℕ) (z : ℤ) where
  revalued_locations : (l : List Point) → locations l ≡ locations (revalue x y z l)
  revalued_locations [] = refl
  revalued_locations (a ∷ l) =
      cond_cases (λ m. locations (a ∷ l) ≡ locations m) (at x y a)
      (λ h. rw ((at_same x y a h).0, (at_same x y a h).1))
      (λ _. rw (revalued_locations l))

  pub change_alike : (q : Contents) → Alike q (after (Change x y z) q)
  unfolding after accepted
  change_alike q =
      cond_cases (λ r. Alike q r) (eqb (refusal (Change x y z) q) 0)
      (λ _. record { locations = revalued_locations q.points }) (λ _. record { locations = refl })

  module _ (q : Contents) (p : Location) (unchosen : taken x y (choice (settled q) p).points ≡ false) where
    same_list : (l : List Point) → Beside (Spares (settled q) p) l l
    same_list l = beside_self (Spares (settled q) p) (λ a. inl refl) l

    revalued_spares : (l : List Point) → Beside (Spares (settled q) p) l (revalue x y z l)
    revalued_spares [] = tt
    revalued_spares (a ∷ l) =
        cond_cases (λ m. Beside (Spares (settled q) p) (a ∷ l) m) (at x y a)
        (λ h. (inr (rw ((at_same x y a h).0, (at_same x y a h).1) unchosen), same_list l))
        (λ _. (inl refl, revalued_spares l))

    pub change_spares : Spared (settled q) p (after (Change x y z) q)
    unfolding after accepted
    change_spares =
        cond_cases (λ r. Spared (settled q) p r) (eqb (refusal (Change x y z) q) 0)
        (λ _. revalued_spares q.points) (λ _. same_list q.points)
