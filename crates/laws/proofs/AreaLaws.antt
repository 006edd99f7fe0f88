-- What `enclosed` is: twice the area of the triangles from any location to the edges, added up; zero where all locations are on one line; and the shoelace sums by side.
use Prim.Native.Nat.{ℕ, ◌+◌, ◌*◌, ◌≤◌}
use mathlib.Core.Path.{◌≡◌, refl, sym, subst}
use mathlib.Core.Logic.{inl, inr}
use mathlib.Core.List.{List, [], ◌∷◌, reverse_aux}
use lib.ListN.{drop}
use native.Mathlib.Omega.{arith}
use Rattle.model.specs.Lists.{Pairs, Steps, Among}
use Rattle.model.specs.Point.{Location}
use Rattle.model.specs.Polygon.{extend, lower, upper, polygon, shoelace_plus, shoelace_minus, enclosed, cross_plus, cross_minus, Before, OneLine}
use Rattle.laws.proofs.SideLaws.{left_next}
use Rattle.laws.proofs.RingLaws.{Ends, steps_imp, Tops, tops, Closed, polygon_closed, corners_among, none_outside}

-- twice the areas of the triangles from o to each edge of a way, added up, as a difference
unfoldable pub fan_plus : Location → List Location → ℕ
fan_plus o [] = 0
fan_plus o (a ∷ []) = 0
fan_plus o (a ∷ b ∷ l) = cross_plus o a b + fan_plus o (b ∷ l)

unfoldable pub fan_minus : Location → List Location → ℕ
fan_minus o [] = 0
fan_minus o (a ∷ []) = 0
fan_minus o (a ∷ b ∷ l) = cross_minus o a b + fan_minus o (b ∷ l)

way_fan : (o a z : Location) (r : List Location) → Ends z (a ∷ r)
    → fan_plus o (a ∷ r) + shoelace_minus (a ∷ r) + o.y * a.x + z.y * o.x ≡ fan_minus o (a ∷ r) + shoelace_plus (a ∷ r) + o.x * a.y + z.x * o.y
unfolding fan_plus fan_minus shoelace_plus shoelace_minus
way_fan o a z [] e =
    let k : o.y * a.x + a.y * o.x ≡ o.x * a.y + a.x * o.y = omega arith in
    subst (λ (t : Location). 0 + 0 + o.y * a.x + t.y * o.x ≡ 0 + 0 + o.x * a.y + t.x * o.y) e (omega arith)
way_fan o a z (b ∷ r) e = let ih = way_fan o b z r e in omega arith

-- round a closed way, the shoelace sums are those of the triangles
pub closed_fan : (o a : Location) (l : List Location) → Closed a l → fan_plus o l + shoelace_minus l ≡ fan_minus o l + shoelace_plus l
closed_fan o a [] h = absurd h.begins
closed_fan o a (b ∷ r) h =
    let e : fan_plus o (b ∷ r) + shoelace_minus (b ∷ r) + o.y * b.x + b.y * o.x ≡ fan_minus o (b ∷ r) + shoelace_plus (b ∷ r) + o.x * b.y + b.x * o.y
    = way_fan o b b r (subst (λ (t : Location). Ends t (b ∷ r)) (sym h.begins) h.ends) in
    omega arith

pub fan_le : (o : Location) (l : List Location) → Steps (λ a b. cross_minus o a b ≤ cross_plus o a b) l → fan_minus o l ≤ fan_plus o l
unfolding fan_plus fan_minus
fan_le o [] h = omega arith
fan_le o (a ∷ []) h = omega arith
fan_le o (a ∷ b ∷ l) h = let g = h.0 in let ih = fan_le o (b ∷ l) h.1 in omega arith

fan_eq : (o : Location) (l : List Location) → Steps (λ a b. cross_plus o a b ≡ cross_minus o a b) l → fan_plus o l ≡ fan_minus o l
unfolding fan_plus fan_minus
fan_eq o [] h = refl
fan_eq o (a ∷ []) h = refl
fan_eq o (a ∷ b ∷ l) h = let g = h.0 in let ih = fan_eq o (b ∷ l) h.1 in omega arith

steps_of : {A : Type 0} (P : A → A → Type 0) (l : List A) → ((a b : A) → Among a l → Among b l → P a b) → Steps P l
steps_of P [] h = tt
steps_of P (a ∷ []) h = tt
steps_of P (a ∷ b ∷ l) h = (h a b (inl refl) (inr (inl refl)), steps_of P (b ∷ l) (λ c d m n. h c d (inr m) (inr n)))

none_plus : shoelace_plus (polygon []) ≡ 0
unfolding shoelace_plus polygon lower upper extend
none_plus = refl

none_minus : shoelace_minus (polygon []) ≡ 0
unfolding shoelace_minus polygon lower upper extend
none_minus = refl

-- the difference that `enclosed` takes is not cut off at zero
pub enclosed_whole : (l : List Location) → Pairs Before l → enclosed l + shoelace_minus (polygon l) ≡ shoelace_plus (polygon l)
unfolding enclosed
enclosed_whole [] up = rw (none_plus, none_minus)
enclosed_whole (a ∷ l) up =
    let c = closed_fan a a (polygon (a ∷ l)) (polygon_closed a l) in
    let g : fan_minus a (polygon (a ∷ l)) ≤ fan_plus a (polygon (a ∷ l))
    = fan_le a (polygon (a ∷ l)) (steps_imp _ _ (λ u v k. (left_next v a u (left_next u v a (k a (inl refl)))).le) (polygon (a ∷ l)) (none_outside (a ∷ l) up)) in
    omega arith

-- locations on one line, in any order, enclose nothing
pub line_enclosed : (l : List Location) → OneLine l → enclosed l ≡ 0
unfolding enclosed
line_enclosed [] h = rw (none_plus, none_minus)
line_enclosed (a ∷ l) h =
    let c = closed_fan a a (polygon (a ∷ l)) (polygon_closed a l) in
    let g : fan_plus a (polygon (a ∷ l)) ≡ fan_minus a (polygon (a ∷ l))
    = fan_eq a (polygon (a ∷ l)) (steps_of _ (polygon (a ∷ l)) (λ u v m n. h a u v (inl refl) (corners_among (a ∷ l) u m) (corners_among (a ∷ l) v n))) in
    omega arith

-- the triangles from any location o to the edges, of which those that lie outside count as negative
pub enclosed_fan : (o a : Location) (l : List Location) → Pairs Before (a ∷ l) → enclosed (a ∷ l) + fan_minus o (polygon (a ∷ l)) ≡ fan_plus o (polygon (a ∷ l))
enclosed_fan o a l up =
    let c = closed_fan o a (polygon (a ∷ l)) (polygon_closed a l) in
    let w = enclosed_whole (a ∷ l) up in
    omega arith

-- the sums round the polygon, from those of the two sides
plus_reverse : (c : Location) (s l : List Location) → shoelace_plus (reverse_aux s (c ∷ l)) ≡ shoelace_minus (c ∷ s) + shoelace_plus (c ∷ l)
unfolding shoelace_plus shoelace_minus
plus_reverse c [] l = omega arith
plus_reverse c (a ∷ s) l = let ih = plus_reverse a s (c ∷ l) in omega arith

minus_reverse : (c : Location) (s l : List Location) → shoelace_minus (reverse_aux s (c ∷ l)) ≡ shoelace_plus (c ∷ s) + shoelace_minus (c ∷ l)
unfolding shoelace_plus shoelace_minus
minus_reverse c [] l = omega arith
minus_reverse c (a ∷ s) l = let ih = minus_reverse a s (c ∷ l) in omega arith

plus_joined : (s t : List Location) → Tops s t → shoelace_plus (reverse_aux (drop 1 s) t) ≡ shoelace_minus s + shoelace_plus t
unfolding shoelace_plus shoelace_minus
plus_joined [] [] e = refl
plus_joined [] (b ∷ t) e = absurd e
plus_joined (a ∷ s) [] e = absurd e
plus_joined (a ∷ s) (b ∷ t) e = subst (λ (z : Location). shoelace_plus (reverse_aux s (z ∷ t)) ≡ shoelace_minus (a ∷ s) + shoelace_plus (z ∷ t)) e (plus_reverse a s t)

minus_joined : (s t : List Location) → Tops s t → shoelace_minus (reverse_aux (drop 1 s) t) ≡ shoelace_plus s + shoelace_minus t
unfolding shoelace_plus shoelace_minus
minus_joined [] [] e = refl
minus_joined [] (b ∷ t) e = absurd e
minus_joined (a ∷ s) [] e = absurd e
minus_joined (a ∷ s) (b ∷ t) e = subst (λ (z : Location). shoelace_minus (reverse_aux s (z ∷ t)) ≡ shoelace_plus (a ∷ s) + shoelace_minus (z ∷ t)) e (minus_reverse a s t)

pub plus_sides : (l : List Location) → shoelace_plus (polygon l) ≡ shoelace_minus (lower l) + shoelace_plus (upper l)
unfolding polygon
plus_sides l = plus_joined (lower l) (upper l) (tops l)

pub minus_sides : (l : List Location) → shoelace_minus (polygon l) ≡ shoelace_plus (lower l) + shoelace_minus (upper l)
unfolding polygon
minus_sides l = minus_joined (lower l) (upper l) (tops l)
