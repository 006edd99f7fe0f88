-- The polygon turns left at every corner, unless all locations are on one line.
use mathlib.Core.Path.{◌≡◌, refl, sym, subst}
use mathlib.Core.Logic.{◌⊎◌, inl, inr, ⊎_elim}
use mathlib.Core.Bool.{Bool, true, false}
use lib.ListN.{drop}
use mathlib.Core.List.{List, [], ◌∷◌, reverse_aux}
use native.Mathlib.Omega.{arith}
use borrow.Author.Tests.{ltb-true, lt-ltb}
use Rattle.model.specs.Lists.{Pairs, Steps, Among}
use Rattle.model.specs.Point.{Location}
use Rattle.model.specs.Polygon.{turns_left, turns_right, lower, upper, polygon, enclosed, cross_plus, cross_minus, Left, Before, OneLine, Turns}
use Rattle.laws.proofs.ChainLaws.{Bends, Last, chain_last, among_reverse}
use Rattle.laws.proofs.SideLaws.{NotAfter, left_next, lower_laws, line_through, line_to, last_flat, first_flat}
use Rattle.laws.proofs.RingLaws.{Tops, tops, none_outside, corners_among, polygon_moves, lower_edges, upper_edges, lower_rises, upper_rises, lower_bends, upper_bends}
use Rattle.laws.proofs.AreaLaws.{line_enclosed}
use Rattle.laws.proofs.FlatLaws.{first_before, first_least}

-- the last two elements
abbrev pub EndsBy : Location → Location → List Location → Type 0
EndsBy y a [] = ⊥
EndsBy y a (b ∷ []) = ⊥
EndsBy y a (b ∷ c ∷ []) = (b ≡ y) × (c ≡ a)
EndsBy y a (b ∷ c ∷ d ∷ l) = EndsBy y a (c ∷ d ∷ l)

back_turn : (x y z : Location) → turns_right x y z ≡ true → turns_left z y x ≡ true
unfolding turns_right turns_left
back_turn x y z e = let k = ltb-true (cross_plus x y z) (cross_minus x y z) e in lt-ltb (cross_minus z y x) (cross_plus z y x) (omega arith)

back_turns : (t : List Location) → Bends turns_right t → Turns t
back_turns [] h = tt
back_turns (a ∷ []) h = tt
back_turns (a ∷ b ∷ []) h = tt
back_turns (a ∷ b ∷ c ∷ l) h = (back_turn c b a h.0, back_turns (b ∷ c ∷ l) h.1)

turns_reverse : (s : List Location) (b c : Location) (t : List Location) → Bends turns_left (c ∷ b ∷ s) → Turns (b ∷ c ∷ t) → Turns (reverse_aux s (b ∷ c ∷ t))
turns_reverse [] b c t h g = g
turns_reverse (a ∷ s) b c t h g = turns_reverse s a b (c ∷ t) h.1 (h.0, g)

module _ (l : List Location) (some : enclosed l ≡ 0 → ⊥) where
  -- at the last location
  last_turn : (b c d : Location) → Before b c → Before d c → ((q : Location) → Among q l → NotAfter q c) → ((q : Location) → Among q l → Left b c q)
      → ((q : Location) → Among q l → Left c d q) → turns_left b c d ≡ true
  last_turn b c d bc dc after g h = go (turns_left b c d) refl
    where
      flat : turns_left b c d ≡ false → OneLine l
      flat e p q r mp mq mr =
          let at : (z : Location) → Among z l → cross_plus b c z ≡ cross_minus b c z
          = λ z m. last_flat b d c z bc dc (after z m) (left_next b d c (lower_laws.shuts b c d e)) (g z m) (h z m) in
          let pq = line_to b c p q bc (after p mp) (after q mq) (at p mp) (at q mq) in
          let qr = line_to b c q r bc (after q mq) (after r mr) (at q mq) (at r mr) in
          let rp = line_to b c r p bc (after r mr) (after p mp) (at r mr) (at p mp) in
          omega arith

      go : (t : Bool) → turns_left b c d ≡ t → turns_left b c d ≡ true
      go true e = e
      go false e = absurd (some (line_enclosed l (flat e)))

  -- at the first location
  first_turn : (y a x : Location) → Before a x → Before a y → ((q : Location) → Among q l → NotAfter a q) → ((q : Location) → Among q l → Left a x q)
      → ((q : Location) → Among q l → Left y a q) → turns_left y a x ≡ true
  first_turn y a x ax ay after g h = go (turns_left y a x) refl
    where
      flat : turns_left y a x ≡ false → OneLine l
      flat e p q r mp mq mr =
          let at : (z : Location) → Among z l → cross_plus a x z ≡ cross_minus a x z
          = λ z m. first_flat x y a z ax ay (after z m) (left_next x a y (left_next y x a (lower_laws.shuts y a x e))) (g z m) (h z m) in
          let pq = line_through a x p q ax (after p mp) (after q mq) (at p mp) (at q mq) in
          let qr = line_through a x q r ax (after q mq) (after r mr) (at q mq) (at r mr) in
          let rp = line_through a x r p ax (after r mr) (after p mp) (at r mr) (at p mp) in
          omega arith

      go : (t : Bool) → turns_left y a x ≡ t → turns_left y a x ≡ true
      go true e = e
      go false e = absurd (some (line_enclosed l (flat e)))

  -- the two sides joined
  both_turn : (s t : List Location) → Tops s t
      → Steps (λ v u. (q : Location) → Among q l → Left u v q) s → Steps (λ v u. (q : Location) → Among q l → Left v u q) t
      → Steps (λ v u. Before u v) s → Steps (λ v u. Before u v) t → Bends turns_left s → Bends turns_right t
      → Last Before NotAfter Left turns_left lower_laws l s → Turns (reverse_aux (drop 1 s) t)
  both_turn [] [] e g h u v m n k = tt
  both_turn [] (a ∷ t) e g h u v m n k = absurd e
  both_turn (a ∷ s) [] e g h u v m n k = absurd e
  both_turn (c ∷ []) (a ∷ t) e g h u v m n k = back_turns (a ∷ t) n
  both_turn (c ∷ b ∷ s) (a ∷ []) e g h u v m n k = subst (λ (z : Location). Turns (reverse_aux s (b ∷ z ∷ []))) e (turns_reverse s b c [] m tt)
  both_turn (c ∷ b ∷ s) (a ∷ d ∷ t) e g h u v m n k =
      subst (λ (z : Location). Turns (reverse_aux s (b ∷ z ∷ d ∷ t))) e
      (turns_reverse s b c (d ∷ t) m (
        last_turn b c d u.0 (subst (λ (z : Location). Before d z) (sym e) v.0) k g.0 (subst (λ (z : Location). (q : Location) → Among q l → Left z d q) (sym e) h.0),
        subst (λ (z : Location). Turns (z ∷ d ∷ t)) (sym e) (back_turns (a ∷ d ∷ t) n),
      ))

lower_last : (m : List Location) → Pairs Before m → Last Before NotAfter Left turns_left lower_laws (reverse_aux m []) (lower m)
unfolding lower
lower_last m h = chain_last Before NotAfter Left turns_left lower_laws m h

-- at each corner but the first
pub polygon_turns : (l : List Location) → Pairs Before l → (enclosed l ≡ 0 → ⊥) → Turns (polygon l)
unfolding polygon
polygon_turns l up some =
    both_turn l some (lower l) (upper l) (tops l) (lower_edges l up) (upper_edges l up) (lower_rises l up) (upper_rises l up) (lower_bends l up) (upper_bends l up) (last_of (lower l) (lower_last l up))
  where
    last_of : (s : List Location) → Last Before NotAfter Left turns_left lower_laws (reverse_aux l []) s → Last Before NotAfter Left turns_left lower_laws l s
    last_of [] h = tt
    last_of (t ∷ r) h = λ q m. h q (among_reverse q l [] (inl m))

steps_end : (P : Location → Location → Type 0) (y a : Location) (w : List Location) → Steps P w → EndsBy y a w → P y a
steps_end P y a [] h e = absurd e
steps_end P y a (b ∷ []) h e = absurd e
steps_end P y a (b ∷ c ∷ []) h e = subst (λ (z : Location). P y z) e.1 (subst (λ (z : Location). P z c) e.0 h.0)
steps_end P y a (b ∷ c ∷ d ∷ l) h e = steps_end P y a (c ∷ d ∷ l) h.1 e

end_among : (y a : Location) (w : List Location) → EndsBy y a w → Among y w
end_among y a [] e = e
end_among y a (b ∷ []) e = absurd e
end_among y a (b ∷ c ∷ []) e = inl (sym e.0)
end_among y a (b ∷ c ∷ d ∷ l) e = inr (end_among y a (c ∷ d ∷ l) e)

-- at the first corner, to which the polygon comes back from y and from which it goes to x
pub polygon_wraps : (a x y : Location) (l r : List Location) → Pairs Before (a ∷ l) → (enclosed (a ∷ l) ≡ 0 → ⊥) → polygon (a ∷ l) ≡ a ∷ x ∷ r → EndsBy y a (polygon (a ∷ l))
    → turns_left y a x ≡ true
polygon_wraps a x y l r up some e end =
    let moves : Steps (λ u v. Before u v ⊎ Before v u) (polygon (a ∷ l)) = polygon_moves (a ∷ l) up in
    let sides : Steps (λ u v. (q : Location) → Among q (a ∷ l) → Left u v q) (polygon (a ∷ l)) = none_outside (a ∷ l) up in
    let move : Before a x ⊎ Before x a = (subst (λ (w : List Location). Steps (λ u v. Before u v ⊎ Before v u) w) e moves).0 in
    let side : (q : Location) → Among q (a ∷ l) → Left a x q = (subst (λ (w : List Location). Steps (λ u v. (q : Location) → Among q (a ∷ l) → Left u v q) w) e sides).0 in
    let mx : Among x (a ∷ l) = corners_among (a ∷ l) x (subst (λ (w : List Location). Among x w) (sym e) (inr (inl refl))) in
    let my : Among y (a ∷ l) = corners_among (a ∷ l) y (end_among y a (polygon (a ∷ l)) end) in
    first_turn (a ∷ l) some y a x (first_before a x l up.0 mx move)
    (first_before a y l up.0 my (other (steps_end (λ u v. Before u v ⊎ Before v u) y a (polygon (a ∷ l)) moves end)))
    (λ q m. first_least a q l up.0 m) side (steps_end (λ u v. (q : Location) → Among q (a ∷ l) → Left u v q) y a (polygon (a ∷ l)) sides end)
  where
    other : Before y a ⊎ Before a y → Before a y ⊎ Before y a
    other h = ⊎_elim (λ k. inr k) (λ k. inl k) h
