-- Every list of calls leaves at most 256 points, ascending, in the domain and in range.
use mathlib.Core.Path.{◌≡◌, refl, ap}
use Prim.Native.Nat.{ℕ, suc, ◌≤◌}
use native.Mathlib.Omega.{arith}
use mathlib.Core.Bool.{true, false}
use mathlib.Core.List.{List, [], ◌∷◌}
use lib.Dec.{eqb}
use lib.IntN.{ℤ}
use lib.ListN.{length}
use borrow.Author.Tests.{eqb-true}
use Rattle.model.specs.Lists.{All}
use Rattle.model.specs.Point.{Point, Contents, point, at, precedes}
use Rattle.model.specs.Order.{insert}
use Rattle.model.specs.Calls.{Call, Add, Change, Drop, Clear, Load, Ask, fresh, taken, remove, revalue, refusal, accepted, after, after_all, present}
use Rattle.model.specs.Invariant.{Sound, Invariant}
use Rattle.laws.proofs.Tests.{cond_cases}
use Rattle.laws.proofs.ListLaws.{all_imp}
use Rattle.laws.proofs.PrecedesLaws.{precedes_trans, precedes_other, at_same}
use Rattle.laws.proofs.OrderLaws.{all_insert, insert_pairs}
use Rattle.laws.proofs.SortLaws.{length_insert}
use Rattle.laws.proofs.ChosenLaws.{apart_points}
use Rattle.laws.proofs.RecordLaws.{Ascending}
use Rattle.laws.proofs.RoundTrip.{accepted_invariant}
use Rattle.laws.proofs.CallLaws.{add_accepted, change_accepted}

ascending_insert : (a : Point) (l : List Point) → taken a.x a.y l ≡ false → Ascending l → Ascending (insert precedes a l)
ascending_insert a l free h =
    insert_pairs precedes (λ b c. precedes b c ≡ true) (λ b c e. e) precedes_trans a l
    (all_imp _ _ (λ b. precedes_other a b) l (apart_points a.x a.y l free)) h

module _ (x y : ℕ) where
  pub all_remove : (P : Point → Type 0) (l : List Point) → All P l → All P (remove x y l)
  all_remove P [] h = tt
  all_remove P (a ∷ l) h = cond_cases (All P) (at x y a) (λ _. h.1) (λ _. (h.0, all_remove P l h.1))

  ascending_remove : (l : List Point) → Ascending l → Ascending (remove x y l)
  ascending_remove [] h = tt
  ascending_remove (a ∷ l) h =
      cond_cases Ascending (at x y a) (λ _. h.1) (λ _. (all_remove (λ b. precedes a b ≡ true) l h.0, ascending_remove l h.1))

  length_remove : (l : List Point) → length (remove x y l) ≤ length l
  length_remove [] = omega arith
  length_remove (a ∷ l) = cond_cases (λ r. length r ≤ suc (length l)) (at x y a) (λ _. omega arith) (λ _. omega (arith, length_remove l))

  module _ (z : ℤ) where
    all_revalue : (P : Point → Type 0) → ((a : Point) → at x y a ≡ true → P a → P (point x y z)) → (l : List Point) → All P l → All P (revalue x y z l)
    all_revalue P changed [] h = tt
    all_revalue P changed (a ∷ l) h =
        cond_cases (All P) (at x y a) (λ e. (changed a e h.0, h.1)) (λ _. (h.0, all_revalue P changed l h.1))

    ascending_revalue : (l : List Point) → Ascending l → Ascending (revalue x y z l)
    ascending_revalue [] h = tt
    ascending_revalue (a ∷ l) h =
        cond_cases Ascending (at x y a)
        (λ e. let g = at_same x y a e in (all_imp _ (λ b. precedes (point x y z) b ≡ true) (λ b p. rw (g.0, g.1) at p) l h.0, h.1))
        (λ _. (all_revalue (λ b. precedes a b ≡ true) (λ b e p. let g = at_same x y b e in rw (g.0, g.1) at p) l h.0, ascending_revalue l h.1))

    length_revalue : (l : List Point) → length (revalue x y z l) ≡ length l
    length_revalue [] = refl
    length_revalue (a ∷ l) = cond_cases (λ r. length r ≡ suc (length l)) (at x y a) (λ _. refl) (λ _. ap suc (length_revalue l))

fresh_invariant : Invariant fresh.points
fresh_invariant = record { count = omega arith; ascending = tt; sound = tt }

accepted_keeps : (c : Call) (q : Contents) → refusal c q ≡ 0 → Invariant q.points → Invariant (accepted c q).points
unfolding refusal accepted
accepted_keeps (Add x y z) q e h =
    let t = add_accepted x y z q e in
    record {
      count = omega (arith, length_insert precedes (point x y z) q.points, t.3);
      ascending = ascending_insert (point x y z) q.points t.2 h.ascending;
      sound = all_insert precedes Sound (point x y z) q.points (record { location = t.0; value = t.1 }) h.sound;
    }
accepted_keeps (Change x y z) q e h =
    let t = change_accepted x y z q e in
    record {
      count = omega (arith, length_revalue x y z q.points, h.count);
      ascending = ascending_revalue x y z q.points h.ascending;
      sound = all_revalue x y z Sound (λ a _ _. record { location = t.0; value = t.1 }) q.points h.sound;
    }
accepted_keeps (Drop x y) q e h =
    record {
      count = omega (arith, length_remove x y q.points, h.count);
      ascending = ascending_remove x y q.points h.ascending;
      sound = all_remove x y Sound q.points h.sound;
    }
accepted_keeps Clear q e h = fresh_invariant
accepted_keeps (Load f) q e h = accepted_invariant f e
accepted_keeps Ask q e h = h

pub after_invariant : (c : Call) (q : Contents) → Invariant q.points → Invariant (after c q).points
unfolding after
after_invariant c q h =
    cond_cases (λ (r : Contents). Invariant r.points) (eqb (refusal c q) 0) (λ e. accepted_keeps c q (eqb-true (refusal c q) 0 e) h) (λ _. h)

all_invariant : (cs : List Call) (q : Contents) → Invariant q.points → Invariant (after_all cs q).points
unfolding after_all
all_invariant [] q h = h
all_invariant (c ∷ cs) q h = all_invariant cs (after c q) (after_invariant c q h)

pub history_invariant : (cs : List Call) → Invariant (present cs).points
unfolding present
history_invariant cs = all_invariant cs fresh fresh_invariant
