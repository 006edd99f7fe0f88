-- Locations that ascend enclose nothing only where all are on one line.
use Prim.Native.Nat.{◌≤◌, ◌<◌}
use mathlib.Core.Path.{◌≡◌, refl, sym, subst}
use mathlib.Core.Logic.{◌⊎◌, inl, inr, ⊎_elim}
use mathlib.Core.List.{List, [], ◌∷◌}
use lib.ListN.{length}
use native.Mathlib.Omega.{arith}
use Rattle.model.specs.Lists.{All, Pairs, Steps, Among}
use Rattle.model.specs.Point.{Location}
use Rattle.model.specs.Polygon.{polygon, enclosed, cross_plus, cross_minus, Before, OneLine}
use Rattle.laws.proofs.ListLaws.{all_among}
use Rattle.laws.proofs.SideLaws.{NotAfter, left_next, weaken, line_through}
use Rattle.laws.proofs.RingLaws.{Begins, steps_imp, polygon_closed, none_outside, corners_among, polygon_long, polygon_moves}
use Rattle.laws.proofs.AreaLaws.{fan_plus, fan_minus, closed_fan, fan_le, enclosed_whole}

fan_flat : (o : Location) (l : List Location) → Steps (λ a b. cross_minus o a b ≤ cross_plus o a b) l → fan_plus o l ≡ fan_minus o l → Steps (λ a b. cross_plus o a b ≡ cross_minus o a b) l
unfolding fan_plus fan_minus
fan_flat o [] h e = tt
fan_flat o (a ∷ []) h e = tt
fan_flat o (a ∷ b ∷ l) h e =
    let g = h.0 in
    let k = fan_le o (b ∷ l) h.1 in
    (omega arith, fan_flat o (b ∷ l) h.1 (omega arith))

-- every location is on the line of every edge
flat_sides : (a : Location) (l : List Location) → Pairs Before (a ∷ l) → enclosed (a ∷ l) ≡ 0 → (q : Location) → Among q (a ∷ l) → Steps (λ u v. cross_plus q u v ≡ cross_minus q u v) (polygon (a ∷ l))
flat_sides a l up z q m =
    let w = enclosed_whole (a ∷ l) up in
    let c = closed_fan q a (polygon (a ∷ l)) (polygon_closed a l) in
    fan_flat q (polygon (a ∷ l)) (steps_imp _ _ (λ u v k. (left_next v q u (left_next u v q (k q m))).le) (polygon (a ∷ l)) (none_outside (a ∷ l) up)) (omega arith)

pub twice : (a : Location) → Before a a → ⊥
twice a h = ⊎_elim (λ k. omega arith) (λ k. omega arith) h

turned : (a b : Location) → Before b a → Before a b → ⊥
turned a b g h = ⊎_elim (λ k. ⊎_elim (λ m. omega arith) (λ m. omega arith) h) (λ k. ⊎_elim (λ m. omega arith) (λ m. omega arith) h) g

-- of two locations in order, the first of all is the earlier
pub first_before : (a v : Location) (l : List Location) → All (Before a) l → Among v (a ∷ l) → Before a v ⊎ Before v a → Before a v
first_before a v l up m e =
    ⊎_elim (λ g. g) (λ g. absurd (⊎_elim (λ k. twice a (subst (λ (t : Location). Before t a) k g)) (λ n. turned a v g (all_among (Before a) l up v n)) m)) e

pub first_least : (a z : Location) (l : List Location) → All (Before a) l → Among z (a ∷ l) → NotAfter a z
first_least a z l up m =
    ⊎_elim (λ e. subst (λ (t : Location). NotAfter a t) (sym e) (record { x_le = omega arith; y_le = λ k. omega arith })) (λ n. weaken a z (all_among (Before a) l up z n)) m

flat_line : (a : Location) (l w : List Location) → Begins a w → 1 < length w → Steps (λ u v. Before u v ⊎ Before v u) w → All (Before a) l
    → ((q : Location) → Among q w → Among q (a ∷ l))
    → ((q : Location) → Among q (a ∷ l) → Steps (λ u v. cross_plus q u v ≡ cross_minus q u v) w) → OneLine (a ∷ l)
flat_line a l [] b long moves up on h p q r mp mq mr = absurd b
flat_line a l (u ∷ []) b long moves up on h p q r mp mq mr = absurd (omega arith)
flat_line a l (u ∷ v ∷ w) b long moves up on h p q r mp mq mr =
    let av : Before a v = first_before a v l up (on v (inr (inl refl))) (subst (λ (t : Location). Before t v ⊎ Before v t) b moves.0) in
    let at : (z : Location) → Among z (a ∷ l) → cross_plus a v z ≡ cross_minus a v z = λ z m. on_line z (h z m).0 in
    let pq = line_through a v p q av (first_least a p l up mp) (first_least a q l up mq) (at p mp) (at q mq) in
    let qr = line_through a v q r av (first_least a q l up mq) (first_least a r l up mr) (at q mq) (at r mr) in
    let rp = line_through a v r p av (first_least a r l up mr) (first_least a p l up mp) (at r mr) (at p mp) in
    omega arith
  where
    on_line : (z : Location) → cross_plus z u v ≡ cross_minus z u v → cross_plus a v z ≡ cross_minus a v z
    on_line z e = let k : cross_plus z a v ≡ cross_minus z a v = subst (λ (t : Location). cross_plus z t v ≡ cross_minus z t v) b e in omega arith

one_location : (a p q r : Location) → p ≡ a → q ≡ a → r ≡ a → cross_plus p q r ≡ cross_minus p q r
one_location a p q r e f g = rw (e, f, g) (omega arith)

only : (a p : Location) → Among p (a ∷ []) → p ≡ a
only a p m = ⊎_elim (λ e. e) (λ k. absurd k) m

pub flat_only : (l : List Location) → Pairs Before l → enclosed l ≡ 0 → OneLine l
flat_only [] up z = λ a b c m n o. absurd m
flat_only (a ∷ []) up z = λ p q r m n o. one_location a p q r (only a p m) (only a q n) (only a r o)
flat_only (a ∷ b ∷ l) up z =
    flat_line a (b ∷ l) (polygon (a ∷ b ∷ l)) (polygon_closed a (b ∷ l)).begins (polygon_long a b l) (polygon_moves (a ∷ b ∷ l) up) up.0 (corners_among (a ∷ b ∷ l)) (flat_sides a (b ∷ l) up z)
