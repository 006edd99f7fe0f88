-- What an accepted call has passed, what a call leaves, and which lookups are refused for want of a point.
use mathlib.Core.Path.{◌≡◌, refl}
use Prim.Native.Nat.{ℕ, ◌<◌, ◌≤◌}
use native.Mathlib.Omega.{arith}
use mathlib.Core.Bool.{Bool, true, false, cond}
use mathlib.Core.List.{List, [], ◌∷◌, ◌++◌}
use lib.Dec.{eqb, ltb}
use lib.IntN.{ℤ}
use lib.ListN.{length, drop_of_length-le}
use borrow.Author.Tests.{ltb-true, ltb-false, eqb-false, eq-eqb, ne_eqb, lt-ltb, le-ltb}
use Rattle.model.specs.Point.{Contents, State, in_domain, in_range}
use Rattle.model.specs.Extent.{settled}
use Rattle.model.specs.Answer.{Neighbour}
use Rattle.model.specs.Refusals.{enough, lookup_refusal, neighbours_refusal}
use Rattle.model.specs.Lent.{neighbours_into}
use Rattle.model.specs.Calls.{Call, Add, Change, Drop, Ask, taken, refusal, accepted, after, after_all, present, fresh, edited}
use Rattle.laws.proofs.Tests.{cond_zero, cond_sound}

pub add_accepted : (x y : ℕ) (z : ℤ) (q : Contents) → refusal (Add x y z) q ≡ 0
    → (in_domain x y ≡ true) × (in_range z ≡ true) × (taken x y q.points ≡ false) × (length q.points < 256)
unfolding refusal
add_accepted x y z q h =
    let domain = cond_sound _ 0 _ h in
    let range = cond_sound _ 1 _ domain.1 in
    let free = cond_zero _ 2 _ range.1 in
    let room = cond_sound _ 4 0 free.1 in
    (domain.0, range.0, free.0, ltb-true (length q.points) 256 room.0)

pub change_accepted : (x y : ℕ) (z : ℤ) (q : Contents) → refusal (Change x y z) q ≡ 0
    → (in_domain x y ≡ true) × (in_range z ≡ true) × (taken x y q.points ≡ true)
unfolding refusal
change_accepted x y z q h =
    let domain = cond_sound _ 0 _ h in
    let range = cond_sound _ 1 _ domain.1 in
    (domain.0, range.0, (cond_sound _ 3 0 range.1).0)

pub drop_accepted : (x y : ℕ) (q : Contents) → refusal (Drop x y) q ≡ 0 → (in_domain x y ≡ true) × (taken x y q.points ≡ true)
unfolding refusal
drop_accepted x y q h =
    let domain = cond_sound _ 0 _ h in
    (domain.0, (cond_sound _ 3 0 domain.1).0)

pub lookup_accepted : (x y : ℕ) (s : State) → lookup_refusal x y s ≡ 0 → (in_domain x y ≡ true) × (0 < length s.contents.points)
unfolding lookup_refusal neighbours_refusal
lookup_accepted x y s h =
    let domain = cond_sound _ 0 _ h in
    (domain.0, omega (arith, eqb-false (length s.contents.points) 0 (cond_zero _ 5 0 domain.1).0))

-- a lookup with neighbours is refused as the lookup is, and then for too short a list
pub neighbours_refusal_lem : (x y n : ℕ) (s : State) → neighbours_refusal x y n s ≡ cond (eqb (lookup_refusal x y s) 0) (enough n 10) (lookup_refusal x y s)
unfolding lookup_refusal neighbours_refusal
neighbours_refusal_lem x y n s = by_tests (in_domain x y) (eqb (length s.contents.points) 0) (enough n 10)
  where
    by_tests : (d e : Bool) (m : ℕ) → cond d (cond e 6 m) 1 ≡ cond (eqb (cond d (cond e 6 0) 1) 0) m (cond d (cond e 6 0) 1)
    by_tests true true m = refl
    by_tests true false m = refl
    by_tests false e m = refl

pub neighbours_accepted : (x y n : ℕ) (s : State) → neighbours_refusal x y n s ≡ 0 → (lookup_refusal x y s ≡ 0) × (10 ≤ n)
unfolding lookup_refusal neighbours_refusal
neighbours_accepted x y n s h =
    let domain = cond_sound (in_domain x y) 0 _ h in
    let points = cond_zero (eqb (length s.contents.points) 0) 5 _ domain.1 in
    let list = cond_zero (ltb n 10) 7 0 points.1 in
    (rw (domain.0, points.0), ltb-false n 10 list.0)

pub neighbours_short : (x y n : ℕ) (s : State) → lookup_refusal x y s ≡ 0 → n < 10 → neighbours_refusal x y n s ≡ 8
neighbours_short x y n s e h = rw (neighbours_refusal_lem, e, lt-ltb n 10 h)

pub neighbours_enough : (x y n : ℕ) (s : State) → 10 ≤ n → neighbours_refusal x y n s ≡ lookup_refusal x y s
unfolding lookup_refusal neighbours_refusal
neighbours_enough x y n s h = rw (le-ltb n 10 h)

-- refused, a lent list is as it was
pub neighbours_unaltered : {A : Type 0} (f : Neighbour → A) (x y : ℕ) (s : State) (l : List A) → (neighbours_refusal x y (length l) s ≡ 0 → ⊥) → neighbours_into f s x y l ≡ l
unfolding neighbours_into
neighbours_unaltered f x y s l h = rw (ne_eqb (neighbours_refusal x y (length l) s) 0 h)

pub after_accepted : (c : Call) (q : Contents) → refusal c q ≡ 0 → after c q ≡ accepted c q
unfolding after
after_accepted c q h = rw (eq-eqb (refusal c q) 0 h)

pub after_refused : (c : Call) (q : Contents) → (refusal c q ≡ 0 → ⊥) → after c q ≡ q
unfolding after
after_refused c q h = rw (ne_eqb (refusal c q) 0 h)

pub after_ask : (q : Contents) → after Ask q ≡ q
unfolding after refusal accepted
after_ask q = refl

-- an edit of settled contents leaves settled what is then present
pub edited_settled : (c : Call) (q : Contents) → edited c (settled q) ≡ settled (after c q)
unfolding edited after
edited_settled c q = go (eqb (refusal c q) 0)
  where
    go : (t : Bool) → cond t (settled (accepted c q)) (settled q) ≡ settled (cond t (accepted c q) q)
    go true = refl
    go false = refl

pub edited_accepted : (c : Call) (s : State) → refusal c s.contents ≡ 0 → edited c s ≡ settled (accepted c s.contents)
unfolding edited
edited_accepted c s h = rw (eq-eqb (refusal c s.contents) 0 h)

pub edited_refused : (c : Call) (s : State) → (refusal c s.contents ≡ 0 → ⊥) → edited c s ≡ s
unfolding edited
edited_refused c s h = rw (ne_eqb (refusal c s.contents) 0 h)

all_more : (cs : List Call) (c : Call) (q : Contents) → after_all (cs ++ c ∷ []) q ≡ after c (after_all cs q)
unfolding after_all
all_more [] c q = refl
all_more (b ∷ cs) c q = all_more cs c (after b q)

pub present_more : (cs : List Call) (c : Call) → present (cs ++ c ∷ []) ≡ after c (present cs)
unfolding present
present_more cs c = all_more cs c fresh

pub lookup_none : (x y : ℕ) (s : State) → in_domain x y ≡ true → s.contents.points ≡ [] → lookup_refusal x y s ≡ 6
unfolding lookup_refusal neighbours_refusal
lookup_none x y s d e = rw (d, e)

pub lookup_some : (x y : ℕ) (s : State) → in_domain x y ≡ true → (s.contents.points ≡ [] → ⊥) → lookup_refusal x y s ≡ 0
unfolding lookup_refusal neighbours_refusal
lookup_some x y s d e = rw (d, ne_eqb (length s.contents.points) 0 (λ k. e (drop_of_length-le s.contents.points {i = 0} (omega arith))))
