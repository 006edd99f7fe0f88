-- A dropped location may be added again, and its room among the 256 is free.
use mathlib.Core.Path.{◌≡◌, refl, sym, ◌∙◌}
use Prim.Native.Nat.{ℕ, suc, ◌<◌, ◌≤◌}
use native.Mathlib.Omega.{arith}
use mathlib.Core.Bool.{Bool, true, false, true≢false}
use mathlib.Core.List.{List, [], ◌∷◌}
use lib.IntN.{ℤ}
use lib.ListN.{length}
use borrow.Author.Tests.{lt-ltb}
use Rattle.model.specs.Lists.{All}
use Rattle.model.specs.Point.{Point, Contents, in_range, at, precedes}
use Rattle.model.specs.Calls.{Add, Drop, taken, remove, refusal, accepted, after}
use Rattle.model.specs.Invariant.{Invariant}
use Rattle.laws.proofs.Tests.{cond_cases}
use Rattle.laws.proofs.PrecedesLaws.{at_same, precedes_self}
use Rattle.laws.proofs.RecordLaws.{Ascending}
use Rattle.laws.proofs.CallLaws.{drop_accepted, after_accepted}

module _ (x y : ℕ) where
  -- a point behind one at the location is elsewhere
  behind : (a b : Point) → at x y a ≡ true → precedes a b ≡ true → at x y b ≡ false
  behind a b e h = go (at x y b) refl
    where
      go : (t : Bool) → at x y b ≡ t → t ≡ false
      go false g = refl
      go true g =
          let p = at_same x y a e in
          let q = at_same x y b g in
          let s : precedes a b ≡ false = rw (q.0, q.1, ← p.0, ← p.1) (precedes_self a) in
          absurd (true≢false (sym h ∙ s))

  free_behind : (a : Point) (l : List Point) → at x y a ≡ true → All (λ b. precedes a b ≡ true) l → taken x y l ≡ false
  free_behind a [] e h = refl
  free_behind a (b ∷ l) e h = rw (behind a b e h.0) (free_behind a l e h.1)

  pub removed_free : (l : List Point) → Ascending l → taken x y (remove x y l) ≡ false
  removed_free [] h = refl
  removed_free (a ∷ l) h =
      cond_cases (λ r. taken x y r ≡ false) (at x y a) (λ e. free_behind a l e h.0) (λ e. rw e (removed_free l h.1))

  removed_shorter : (l : List Point) → taken x y l ≡ true → length (remove x y l) < length l
  removed_shorter [] h = absurd (true≢false (sym h))
  removed_shorter (a ∷ l) h =
      cond_cases (λ r. length r < suc (length l)) (at x y a) (λ _. omega arith) (λ e. omega (arith, removed_shorter l (rw e at h)))

  -- no more than one point is taken out
  pub removed_one : (l : List Point) → length l ≤ suc (length (remove x y l))
  removed_one [] = omega arith
  removed_one (a ∷ l) = cond_cases (λ r. suc (length l) ≤ suc (length r)) (at x y a) (λ _. omega arith) (λ e. omega (arith, removed_one l))

  pub dropped_then_added : (z : ℤ) (q : Contents) → Invariant q.points → refusal (Drop x y) q ≡ 0 → in_range z ≡ true → refusal (Add x y z) (after (Drop x y) q) ≡ 0
  unfolding refusal accepted
  dropped_then_added z q i e r =
      let d = drop_accepted x y q e in
      let room : length (remove x y q.points) < 256 = omega (arith, removed_shorter q.points d.1, i.count) in
      rw (after_accepted (Drop x y) q e, d.0, r, removed_free q.points i.ascending, lt-ltb (length (remove x y q.points)) 256 room)
