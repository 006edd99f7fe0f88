-- A search among the points that arrays hold, one after the other, for the first that fails a test.
use mathlib.Core.Path.{◌≡◌, sym, ap, ◌∙◌}
use Prim.Native.Nat.{ℕ, ◌+◌, ◌<◌, min}
use mathlib.Core.Bool.{Bool, true, false}
use mathlib.Core.List.{List}
use lib.IntN.{ℤ, pos}
use lib.ListN.{length, get_or}
use Rattle.model.specs.Point.{Point, point, no_point}
use Rattle.point_arrays.specs.PointArrays.{wrapped, points_in}
use Rattle.point_arrays.proofs.ReadLaws.{length_points, points_at}
use Rattle.locate.specs.Leading.{leading}
use Rattle.locate.proofs.LeadingLaws.{Passed, leading_start, leading_more, leading_stop, leading_end}

module _ (f : Point → Bool) (xs ys : List ℕ) (n : ℕ) where
  -- the first i pass, whatever the values
  abbrev pub Searched : ℕ → Type 0
  Searched i = (zs : List ℤ) → Passed f (points_in xs ys zs n) i

  -- what the test says of the point at i, whatever its value
  abbrev Test : ℕ → Bool → Type 0
  Test i t = (z : ℤ) → f (wrapped (point (get_or xs i 0) (get_or ys i 0) z)) ≡ t

  pub search_start : Searched 0
  search_start zs = leading_start f (points_in xs ys zs n)

  module _ (i : ℕ) (h : i < min n 256) (p : Searched i) where
    below : (zs : List ℤ) → i < length (points_in xs ys zs n)
    below zs = rw (length_points xs ys zs n) h

    tested : (t : Bool) → Test i t → (zs : List ℤ) → f (get_or (points_in xs ys zs n) i no_point) ≡ t
    tested t e zs = ap f (points_at xs ys zs n i no_point h) ∙ e (get_or zs i (pos 0))

    pub search_more : Test i true → Searched (i + 1)
    search_more e zs = leading_more f (points_in xs ys zs n) i no_point (below zs) (p zs) (tested true e zs)

    pub search_stop : Test i false → (zs : List ℤ) → i ≡ leading f (points_in xs ys zs n)
    search_stop e zs = sym (leading_stop f (points_in xs ys zs n) i no_point (below zs) (p zs) (tested false e zs))

  pub search_end : (i : ℕ) → i ≡ min n 256 → Searched i → (zs : List ℤ) → i ≡ leading f (points_in xs ys zs n)
  search_end i e p zs = sym (leading_end f (points_in xs ys zs n) i (e ∙ sym (length_points xs ys zs n)) (p zs))
