-- The polygon around locations that ascend is what document 02's sentences say: `polygon-is`.
use mathlib.Core.Path.{◌≡◌, refl, sym, ap, ◌∙◌, subst}
use mathlib.Core.Logic.{◌⊎◌, inl, inr, ⊎_elim}
use Prim.Native.Nat.{◌<◌}
use native.Mathlib.Omega.{arith}
use mathlib.Core.Bool.{true}
use mathlib.Core.List.{List, [], ◌∷◌, ◌++◌, reverse_aux}
use lib.ListN.{length, take, drop}
use lib.Dec.{ltb}
use borrow.Author.Tests.{ltb-true}
use Rattle.model.specs.Lists.{All, Among, Pairs, Steps}
use Rattle.model.specs.Point.{Location, Point, location, precedes}
use Rattle.model.specs.Radius.{locations}
use Rattle.model.specs.Polygon.{cross_plus, cross_minus, turns_left, lower, upper, polygon, enclosed, Before, Left, OneLine, Turns, IsPolygon}
use Rattle.laws.proofs.ListLaws.{all_any, all_imp, all_among, pairs_map, pairs_both}
use Rattle.laws.proofs.PrecedesLaws.{lexical_true}
use Rattle.laws.proofs.ChainLaws.{Bends}
use Rattle.laws.proofs.SideLaws.{NotAfter, weaken, before_x, left_cofan, left_back, back_left, way_trans}
use Rattle.laws.proofs.RingLaws.{Begins, Ends, Tops, tops, polygon_closed, polygon_long, corners_among, none_outside, lower_rises, lower_bends, lower_edges, lower_among, upper_rises, upper_edges, upper_ends, upper_among}
use Rattle.laws.proofs.FlatLaws.{twice, first_least, flat_only}
use Rattle.laws.proofs.ConvexLaws.{EndsBy, polygon_turns, polygon_wraps}

abbrev Apart : Location → Location → Type 0
Apart a b = a ≡ b → ⊥

before_trans : (a b c : Location) → Before a b → Before b c → Before a c
before_trans a b c (inl g) (inl h) = inl (omega arith)
before_trans a b c (inl g) (inr h) = inl (omega arith)
before_trans a b c (inr g) (inl h) = inl (omega arith)
before_trans a b c (inr g) (inr h) = inr (omega arith, omega arith)

before_apart : (a b : Location) → Before a b → Apart a b
before_apart a b h e = twice b (subst (λ (z : Location). Before z b) e h)

-- a falling chain: every location stands before the first, and none comes twice
falls : (c : Location) (t : List Location) → Steps (λ v u. Before u v) (c ∷ t) → All (λ u. Before u c) t
falls c [] h = tt
falls c (a ∷ t) h = (h.0, all_imp (λ u. Before u a) (λ u. Before u c) (λ u g. before_trans u a c g h.0) t (falls a t h.1))

falls_apart : (c : Location) (t : List Location) → Steps (λ v u. Before u v) (c ∷ t) → Pairs Apart (c ∷ t)
falls_apart c [] h = (tt, tt)
falls_apart c (a ∷ t) h =
    (all_imp (λ u. Before u c) (Apart c) (λ u g e. before_apart u c g (sym e)) (a ∷ t) (falls c (a ∷ t) h), falls_apart a t h.1)

all_self : {A : Type 0} (t : List A) → All (λ q. Among q t) t
all_self [] = tt
all_self (a ∷ t) = (inl refl, all_imp (λ q. Among q t) (λ q. Among q (a ∷ t)) (λ q m. inr m) t (all_self t))

-- a corner p inside the lower side, between u and v, is none that the upper side comes to from o
inner_apart : (u p v o : Location) → Before u p → Before p v → Before o p → turns_left u p v ≡ true → Left u p o → Left p o v → ⊥
unfolding turns_left
inner_apart u p v o up pv op turn low high =
    let x₁ = before_x u p up in
    let x₂ = before_x p v pv in
    let x₃ = before_x o p op in
    let k = (back_left u p v x₁ x₂ (way_trans p v o p u p op (weaken u p up) (left_back o p v x₃ x₂ high) (left_cofan u p o x₁ x₃ low))).le in
    let t = ltb-true (cross_minus u p v) (cross_plus u p v) turn in
    absurd (omega arith)

-- what stands after a location that is not before a is not a
after_first : (a u p : Location) → NotAfter a u → Before u p → Apart p a
after_first a u p h g e = clash (subst (λ (z : Location). Before u z) e g)
  where
    clash : Before u a → ⊥
    clash (inl k) = let m = h.x_le in absurd (omega arith)
    clash (inr k) = let m = h.y_le (sym k.0) in absurd (omega arith)

module _ (a : Location) (l : List Location) (up : Pairs Before (a ∷ l)) where
  abbrev On : Location → Type 0
  On q = Among q (a ∷ l)

  -- nor is it any corner of the upper side, down to the first location
  not_upper : (u p v q : Location) (t : List Location) → On u → On v → Before u p → Before p v → turns_left u p v ≡ true → ((o : Location) → On o → Left u p o)
      → Steps (λ w o. Before o w) (q ∷ t) → Steps (λ w o. (z : Location) → On z → Left w o z) (q ∷ t) → ((z : Location) → Among z (q ∷ t) → On z) → Ends a (q ∷ t)
      → All (Apart p) (q ∷ t)
  not_upper u p v q [] mu mv uq pv turn low rise edge on end = (λ e. after_first a u p (first_least a u l up.0 mu) uq (e ∙ end), tt)
  not_upper u p v q (o ∷ t) mu mv uq pv turn low rise edge on end = (
    λ e. inner_apart u p v o uq pv (subst (λ (z : Location). Before o z) (sym e) rise.0) turn (low o (on o (inr (inl refl)))) (subst (λ (z : Location). Left z o v) (sym e) (edge.0 v mv)),
    not_upper u p v o t mu mv uq pv turn low rise.1 edge.1 (λ z m. on z (inr m)) end,
  )

  -- b is none of the corners r, where the side goes on to s
  abbrev Own : Location → List Location → List Location → Type 0
  Own b [] r = Unit {0}
  Own b (x ∷ s) r = All (Apart b) r

  -- with the upper side t below the last location: along the lower side, from b down the rest s of it, no corner comes twice, those behind b among them
  module _ (t : List Location) (free : (u p v : Location) → On u → On v → Before u p → Before p v → turns_left u p v ≡ true → ((o : Location) → On o → Left u p o) → All (Apart p) t) where
    corners_once : (b : Location) (s r : List Location) → Steps (λ v u. Before u v) (b ∷ s) → Bends turns_left (b ∷ s)
        → Steps (λ v u. (z : Location) → On z → Left u v z) (b ∷ s) → ((z : Location) → Among z (b ∷ s) → On z)
        → All (λ q. Before b q ⊎ Among q t) r → Pairs Apart r → Own b s r → Pairs Apart (drop 1 (reverse_aux s (b ∷ r)))
    corners_once b [] r rise bend edge on behind apart own = apart
    corners_once b (x ∷ s) r rise bend edge on behind apart own =
        corners_once x s (b ∷ r) rise.1 (rest s bend) edge.1 (λ z m. on z (inr m)) further (own, apart) (next s rise bend edge on)
      where
        rest : (s : List Location) → Bends turns_left (b ∷ x ∷ s) → Bends turns_left (x ∷ s)
        rest [] h = tt
        rest (u ∷ s) h = h.1

        further : All (λ q. Before x q ⊎ Among q t) (b ∷ r)
        further = (
          inl rise.0,
          all_imp _ (λ q. Before x q ⊎ Among q t) (λ q h. ⊎_elim (λ g. inl (before_trans x b q rise.0 g)) (λ m. inr m) h) r behind,
        )

        next : (s : List Location) → Steps (λ v u. Before u v) (b ∷ x ∷ s) → Bends turns_left (b ∷ x ∷ s) → Steps (λ v u. (z : Location) → On z → Left u v z) (b ∷ x ∷ s)
            → ((z : Location) → Among z (b ∷ x ∷ s) → On z) → Own x s (b ∷ r)
        next [] rise bend edge on = tt
        next (u ∷ s) rise bend edge on =
            let away = free u x b (on u (inr (inr (inl refl)))) (on b (inl refl)) rise.1.0 rise.0 bend.0 edge.1.0 in
            all_imp _ (Apart x) (λ q h. ⊎_elim (λ g. before_apart x q g) (λ m. all_among (Apart x) t away q m) h) (b ∷ r) further

  -- the two sides joined
  sides_once : (s t : List Location) → Tops s t → Steps (λ v u. Before u v) s → Bends turns_left s → Steps (λ v u. (z : Location) → On z → Left u v z) s → ((z : Location) → Among z s → On z)
      → Steps (λ v u. Before u v) t → Steps (λ v u. (z : Location) → On z → Left v u z) t → ((z : Location) → Among z t → On z) → Ends a t
      → Pairs Apart (drop 1 (reverse_aux (drop 1 s) t))
  sides_once [] t e rise bend edge on fall back there end = apart_tail t e
    where
      apart_tail : (t : List Location) → Tops [] t → Pairs Apart (drop 1 t)
      apart_tail [] e = tt
      apart_tail (d ∷ t) e = absurd e
  sides_once (c ∷ s) [] e rise bend edge on fall back there end = absurd end
  sides_once (c ∷ s) (d ∷ t) e rise bend edge on fall back there end =
      subst (λ (z : Location). Pairs Apart (drop 1 (reverse_aux s (z ∷ t)))) e
      (corners_once t (free t fall back there end) c s t rise bend edge on (all_imp (λ q. Among q t) _ (λ q m. inr m) t (all_self t)) (falls_apart d t fall).1
      (own s (subst (λ (z : Location). All (Apart z) t) (sym e) (falls_apart d t fall).0)))
    where
      free : (t : List Location) → Steps (λ v u. Before u v) (d ∷ t) → Steps (λ v u. (z : Location) → On z → Left v u z) (d ∷ t) → ((z : Location) → Among z (d ∷ t) → On z) → Ends a (d ∷ t)
          → (u p v : Location) → On u → On v → Before u p → Before p v → turns_left u p v ≡ true → ((o : Location) → On o → Left u p o) → All (Apart p) t
      free t fall back there end u p v mu mv uq pv turn low = (not_upper u p v d t mu mv uq pv turn low fall back there end).1

      own : (s : List Location) → All (Apart c) t → Own c s t
      own [] h = tt
      own (x ∷ s) h = h

  polygon_once : Pairs Apart (drop 1 (polygon (a ∷ l)))
  unfolding polygon
  polygon_once =
      sides_once (lower (a ∷ l)) (upper (a ∷ l)) (tops (a ∷ l)) (lower_rises (a ∷ l) up) (lower_bends (a ∷ l) up) (lower_edges (a ∷ l) up) (lower_among (a ∷ l))
      (upper_rises (a ∷ l) up) (upper_edges (a ∷ l) up) (upper_among (a ∷ l)) (upper_ends a l)

  -- a way with one location more at its end
  turns_more : (x : Location) (w : List Location) → Turns w → ((y b : Location) → EndsBy y b w → turns_left y b x ≡ true) → Turns (w ++ (x ∷ []))
  turns_more x [] h g = tt
  turns_more x (b ∷ []) h g = tt
  turns_more x (b ∷ c ∷ []) h g = (g b c (refl, refl), tt)
  turns_more x (b ∷ c ∷ d ∷ w) h g = (h.0, turns_more x (c ∷ d ∷ w) h.1 g)

  ends_same : (y b : Location) (w : List Location) → EndsBy y b w → Ends a w → b ≡ a
  ends_same y b [] h e = absurd e
  ends_same y b (c ∷ []) h e = absurd h
  ends_same y b (c ∷ d ∷ []) h e = sym h.1 ∙ e
  ends_same y b (c ∷ d ∷ f ∷ w) h e = ends_same y b (d ∷ f ∷ w) h e

  polygon_convex : (OneLine (a ∷ l) → ⊥) → Turns (polygon (a ∷ l) ++ take 1 (drop 1 (polygon (a ∷ l))))
  polygon_convex off = go (polygon (a ∷ l)) refl (polygon_closed a l).begins
    where
      some : enclosed (a ∷ l) ≡ 0 → ⊥
      some e = off (flat_only (a ∷ l) up e)

      go : (w : List Location) → polygon (a ∷ l) ≡ w → Begins a w → Turns (w ++ take 1 (drop 1 w))
      go [] e b = tt
      go (c ∷ []) e b = tt
      go (c ∷ x ∷ w) e b =
          let first : polygon (a ∷ l) ≡ a ∷ x ∷ w = e ∙ ap (λ (z : Location). z ∷ x ∷ w) b in
          turns_more x (c ∷ x ∷ w) (subst Turns e (polygon_turns (a ∷ l) up some)) (λ y z h.
          let same : z ≡ a = ends_same y z (c ∷ x ∷ w) h (subst (λ (v : List Location). Ends a v) e (polygon_closed a l).ends) in
          subst (λ (t : Location). turns_left y t x ≡ true) (sym same)
          (polygon_wraps a x y l w up some first (subst (λ (v : List Location). EndsBy y a v) (sym e) (subst (λ (t : Location). EndsBy y t (c ∷ x ∷ w)) same h))))

begins_take : (a : Location) (w : List Location) → Begins a w → take 1 w ≡ a ∷ []
begins_take a [] h = absurd h
begins_take a (b ∷ w) h = ap (λ (z : Location). z ∷ []) h

ends_take : (a : Location) (w r : List Location) → Ends a w → take 1 (reverse_aux w r) ≡ a ∷ []
ends_take a [] r h = absurd h
ends_take a (b ∷ []) r h = ap (λ (z : Location). z ∷ []) h
ends_take a (b ∷ c ∷ w) r h = ends_take a (c ∷ w) (b ∷ r) h

polygon_goes : (a : Location) (l : List Location) → 1 < length (a ∷ l) → 1 < length (polygon (a ∷ l))
polygon_goes a [] h = absurd (omega arith)
polygon_goes a (b ∷ l) h = polygon_long a b l

pub polygon_is : (l : List Location) → Pairs Before l → IsPolygon l (polygon l)
unfolding polygon
polygon_is [] up = record { begins = refl; ends = refl; goes = λ h. h; corners = λ a m. m; once = tt; around = tt; convex = λ off. tt }
polygon_is (a ∷ l) up = record {
  begins = begins_take a (polygon (a ∷ l)) (polygon_closed a l).begins;
  ends = ends_take a (polygon (a ∷ l)) [] (polygon_closed a l).ends;
  goes = polygon_goes a l;
  corners = corners_among (a ∷ l);
  once = polygon_once a l up;
  around = none_outside (a ∷ l) up;
  convex = polygon_convex a l up;
}

-- the points of every survey stand at locations that ascend
pub locations_ascend : (l : List Point) → Pairs (λ a b. precedes a b ≡ true) l → Pairs Before (locations l)
locations_ascend l h = pairs_map Before _ l (pairs_both _ _ (λ a. Unit {0}) (λ a b e _ _. by_numbers a b (lexical_true a.x b.x (ltb a.y b.y) e)) l h (all_any _ (λ a. tt) l))
  where
    by_numbers : (a b : Point) → (a.x < b.x) ⊎ ((a.x ≡ b.x) × (ltb a.y b.y ≡ true)) → Before (location a.x a.y) (location b.x b.y)
    by_numbers a b (inl g) = inl g
    by_numbers a b (inr g) = inr (g.0, ltb-true a.y b.y g.1)
