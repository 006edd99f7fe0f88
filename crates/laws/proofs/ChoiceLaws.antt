-- Document 01's choice in its own words. Rule 1: the first point in order is at P exactly where some point is, and then it alone is chosen.
-- Rule 2: the order is of all points, by d², then x, then y.
use mathlib.Core.Path.{◌≡◌, refl, sym, ◌∙◌}
use mathlib.Core.Logic.{◌⊎◌, inl, inr, ◌↔◌}
use Prim.Native.Nat.{ℕ, zero, suc, ◌+◌, ◌*◌, ◌<◌}
use native.Mathlib.Omega.{arith}
use mathlib.Core.Bool.{Bool, true, false, cond, ◌||◌, or_assoc, or_comm, false≢true}
use mathlib.Core.List.{List, [], ◌∷◌}
use lib.ListN.{length, take}
use borrow.Author.Tests.{eq-eqb}
use Rattle.model.specs.Lists.{count, Pairs}
use Rattle.model.specs.Point.{Location, Point, State, at, precedes}
use Rattle.model.specs.Distance.{gap, squared}
use Rattle.model.specs.Order.{insert, sort_onto, sort}
use Rattle.model.specs.Choice.{Choice, nearer, ordered, choice_apart, starts_at, coincident, choice}
use Rattle.model.specs.Calls.{taken}
use Rattle.laws.proofs.PrecedesLaws.{lexical_true, less_lexical, lexical_trans, lexical_self, precedes_trans, precedes_self, at_same}
use Rattle.laws.proofs.OrderLaws.{sort_settled, sort_count}

squares_zero : (m n : ℕ) → m * m + n * n ≡ 0 → (m ≡ 0) × (n ≡ 0)
squares_zero zero zero h = (refl, refl)
squares_zero zero (suc n) h = absurd (omega arith)
squares_zero (suc m) n h = absurd (omega arith)

-- rule 1 of a choice: one point, at p, and the radius 0
pub record Alone (p : Location) (c : Choice) : Type 0 where
  pub first : starts_at p c.points ≡ true
  pub one : length c.points ≡ 1
  pub narrow : c.radius ≡ 0

first_alone : (p : Location) (l : List Point) (c : Choice) → starts_at p l ≡ true → Alone p (cond (starts_at p l) (record { points = take 1 l; radius = 0 }) c)
unfolding starts_at
first_alone p [] c h = absurd (false≢true h)
first_alone p (a ∷ l) c h = rw h (record { first = h; one = refl; narrow = refl })

starts_cond : (p : Location) (t : Bool) (l m : List Point) → starts_at p (cond t l m) ≡ cond t (starts_at p l) (starts_at p m)
starts_cond p true l m = refl
starts_cond p false l m = refl

module _ (s : State) (p : Location) where
  -- d² is 0 of a point at p alone
  pub squared_zero : (a : Point) → (squared s p a ≡ 0) ↔ (at p.x p.y a ≡ true)
  unfolding squared
  squared_zero a = (
    (λ h. let g = squares_zero (gap p.x a.x) (gap p.y a.y) h in
        rw (eq-eqb a.x p.x (omega arith), eq-eqb a.y p.y (omega arith))),
    λ h. let g = at_same p.x p.y a h in
        let ex : gap p.x a.x ≡ 0 = omega arith in
        let ey : gap p.y a.y ≡ 0 = omega arith in
        rw (ex, ey),
  )

  pub squared_apart : (a : Point) → at p.x p.y a ≡ false → 0 < squared s p a
  squared_apart a h = go (squared s p a) refl
    where
      go : (n : ℕ) → squared s p a ≡ n → 0 < n
      go zero e = absurd (false≢true (sym h ∙ (squared_zero a).0 e))
      go (suc n) e = omega arith

  -- of two points the nearer is at p if either is
  nearer_at : (a b : Point) → cond (nearer s p a b) (at p.x p.y a) (at p.x p.y b) ≡ at p.x p.y a || at p.x p.y b
  unfolding nearer
  nearer_at a b = go (nearer s p a b) (at p.x p.y a) (at p.x p.y b) refl refl refl
    where
      nil : (c : Point) → at p.x p.y c ≡ true → squared s p c ≡ 0
      nil c h = (squared_zero c).1 h

      not_before : squared s p b ≡ 0 → 0 < squared s p a → (squared s p a < squared s p b) ⊎ ((squared s p a ≡ squared s p b) × (precedes a b ≡ true)) → ⊥
      not_before h g (inl e) = omega arith
      not_before h g (inr e) = omega arith

      go : (t u v : Bool) → nearer s p a b ≡ t → at p.x p.y a ≡ u → at p.x p.y b ≡ v → cond t u v ≡ u || v
      go true true v et eu ev = refl
      go true false false et eu ev = refl
      go true false true et eu ev =
          absurd (not_before (nil b ev) (squared_apart a eu) (lexical_true (squared s p a) (squared s p b) (precedes a b) et))
      go false false v et eu ev = refl
      go false true true et eu ev = refl
      go false true false et eu ev =
          let g : 0 < squared s p b = squared_apart b ev in
          let e : squared s p a ≡ 0 = nil a eu in
          absurd (false≢true (sym et ∙ less_lexical (squared s p a) (squared s p b) (precedes a b) (omega arith)))

  insert_starts : (a : Point) (l : List Point) → starts_at p (insert (nearer s p) a l) ≡ at p.x p.y a || starts_at p l
  unfolding insert starts_at
  insert_starts a [] = or_comm false (at p.x p.y a)
  insert_starts a (b ∷ l) = starts_cond p (nearer s p a b) (a ∷ b ∷ l) (b ∷ insert (nearer s p) a l) ∙ nearer_at a b

  sort_starts : (l m : List Point) → starts_at p (sort_onto (nearer s p) l m) ≡ starts_at p l || taken p.x p.y m
  unfolding sort_onto
  sort_starts l [] = or_comm false (starts_at p l)
  sort_starts l (a ∷ m) =
      sort_starts (insert (nearer s p) a l) m
      ∙ rw (insert_starts, or_comm (at p.x p.y a) (starts_at p l)) (or_assoc (starts_at p l) (at p.x p.y a) (taken p.x p.y m))

  -- the test of rule 1 is the test whether any point is at p
  pub coincident_is : coincident s p ≡ taken p.x p.y s.contents.points
  unfolding coincident ordered sort starts_at
  coincident_is = sort_starts [] s.contents.points

  pub rule_one : taken p.x p.y s.contents.points ≡ true → Alone p (choice s p)
  unfolding choice
  rule_one h = first_alone p (ordered s p) (choice_apart s p) (coincident_is ∙ h)

  nearer_self : (a : Point) → nearer s p a a ≡ false
  unfolding nearer
  nearer_self a = lexical_self (squared s p a) (precedes a a) (precedes_self a)

  nearer_trans : (a b c : Point) → nearer s p a b ≡ true → nearer s p b c ≡ true → nearer s p a c ≡ true
  unfolding nearer
  nearer_trans a b c =
      lexical_trans (squared s p a) (squared s p b) (squared s p c) (precedes a b) (precedes b c) (precedes a c) (precedes_trans a b c)

  -- all points in order: no later one is nearer, or as near and first by x, then y
  pub order_settled : Pairs (λ a b. nearer s p b a ≡ false) (ordered s p)
  unfolding ordered
  order_settled = sort_settled (nearer s p) nearer_self nearer_trans s.contents.points

  -- and all points: as many as the survey has answer to any test
  pub order_count : (f : Point → Bool) → count f (ordered s p) ≡ count f s.contents.points
  unfolding ordered
  order_count f = sort_count (nearer s p) f s.contents.points
