-- Which refusal applies, from the tests that the code makes one after the other.
use mathlib.Core.Path.{◌≡◌, refl, ◌∙◌}
use Prim.Native.Nat.{ℕ, ◌≤◌, ◌<◌}
use native.Mathlib.Omega.{arith}
use mathlib.Core.Bool.{Bool, true, false, cond}
use lib.IntN.{ℤ}
use lib.ListN.{length}
use borrow.Author.Tests.{lt-ltb, le-ltb, eq-eqb, ne_eqb}
use Rattle.model.specs.Point.{State, in_domain, in_range}
use Rattle.model.specs.Refusals.{on_domain, within_range, lookup_refusal}
use Rattle.model.specs.Calls.{Add, Change, Drop, taken, refusal}

-- 1 or 2 from two tests, and otherwise whatever follows
abbrev first : Bool → Bool → ℕ → ℕ
first a b n = cond a (cond b n 2) 1

first_stops : (a b : Bool) (n : ℕ) → (first a b 0 ≡ 0 → ⊥) → first a b 0 ≡ first a b n
first_stops true true n h = absurd (h refl)
first_stops true false n h = refl
first_stops false b n h = refl

first_passes : (a b : Bool) (n : ℕ) → first a b 0 ≡ 0 → n ≡ first a b n
first_passes true true n h = refl
first_passes true false n h = absurd (omega arith)
first_passes false b n h = absurd (omega arith)

module _ (x y : ℕ) (s : State) where
  module _ (off : in_domain x y ≡ false) where
    pub drop_off : 1 ≡ refusal (Drop x y) s.contents
    unfolding refusal
    drop_off = rw off

    pub lookup_off : 1 ≡ lookup_refusal x y s
    unfolding lookup_refusal
    lookup_off = rw off

  module _ (on : in_domain x y ≡ true) where
    pub drop_missing : taken x y s.contents.points ≡ false → 4 ≡ refusal (Drop x y) s.contents
    unfolding refusal
    drop_missing t = rw (on, t)

    pub drop_passed : taken x y s.contents.points ≡ true → 0 ≡ refusal (Drop x y) s.contents
    unfolding refusal
    drop_passed t = rw (on, t)

    pub lookup_empty : length s.contents.points ≡ 0 → 6 ≡ lookup_refusal x y s
    unfolding lookup_refusal
    lookup_empty e = rw (on, eq-eqb (length s.contents.points) 0 e)

    pub lookup_passed : (length s.contents.points ≡ 0 → ⊥) → 0 ≡ lookup_refusal x y s
    unfolding lookup_refusal
    lookup_passed e = rw (on, ne_eqb (length s.contents.points) 0 e)

  module _ (z : ℤ) where
    module _ (n : ℕ) (e : n ≡ on_domain x y (within_range z 0)) (h : n ≡ 0 → ⊥) where
      pub add_stopped : n ≡ refusal (Add x y z) s.contents
      unfolding refusal
      add_stopped = e ∙ first_stops (in_domain x y) (in_range z) _ (rw e at h)

      pub change_stopped : n ≡ refusal (Change x y z) s.contents
      unfolding refusal
      change_stopped = e ∙ first_stops (in_domain x y) (in_range z) _ (rw e at h)

    module _ (none : on_domain x y (within_range z 0) ≡ 0) where
      pub change_missing : taken x y s.contents.points ≡ false → 4 ≡ refusal (Change x y z) s.contents
      unfolding refusal
      change_missing t = rw t (first_passes (in_domain x y) (in_range z) 4 none)

      pub change_passed : taken x y s.contents.points ≡ true → 0 ≡ refusal (Change x y z) s.contents
      unfolding refusal
      change_passed t = rw t (first_passes (in_domain x y) (in_range z) 0 none)

      pub add_taken : taken x y s.contents.points ≡ true → 3 ≡ refusal (Add x y z) s.contents
      unfolding refusal
      add_taken t = rw t (first_passes (in_domain x y) (in_range z) 3 none)

      module _ (free : taken x y s.contents.points ≡ false) where
        pub add_full : 256 ≤ length s.contents.points → 5 ≡ refusal (Add x y z) s.contents
        unfolding refusal
        add_full h = rw (free, le-ltb (length s.contents.points) 256 h) (first_passes (in_domain x y) (in_range z) 5 none)

        pub add_passed : length s.contents.points < 256 → 0 ≡ refusal (Add x y z) s.contents
        unfolding refusal
        add_passed h = rw (free, lt-ltb (length s.contents.points) 256 h) (first_passes (in_domain x y) (in_range z) 0 none)
