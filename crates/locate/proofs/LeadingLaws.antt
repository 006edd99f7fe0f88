-- How a loop that counts the leading elements goes on, stops and ends.
use mathlib.Core.Path.{◌≡◌, ◌∙◌}
use Prim.Native.Nat.{ℕ, suc, ◌+◌, ◌≤◌, ◌<◌}
use native.Mathlib.Numerals.{add-one}
use native.Mathlib.Omega.{arith}
use mathlib.Core.Bool.{Bool, true, false, cond}
use mathlib.Core.List.{List, [], ◌∷◌}
use lib.ListN.{length, drop, get_or}
use lib.Seq.{drop-cons, drop-length}
use Rattle.locate.specs.Leading.{leading}

module _ {A : Type 0} (f : A → Bool) (l : List A) where
  -- the first i pass, and the others are still to be looked at
  abbrev pub Passed : ℕ → Type 0
  Passed i = leading f l ≡ i + leading f (drop i l)

  pub leading_start : Passed 0
  leading_start = omega arith

  module _ (i : ℕ) (d : A) (h : i < length l) (p : Passed i) where
    pub leading_more : f (get_or l i d) ≡ true → Passed (i + 1)
    unfolding leading
    leading_more e = p ∙ rw (drop-cons l i d, e) (simp add-one (omega arith))

    pub leading_stop : f (get_or l i d) ≡ false → leading f l ≡ i
    unfolding leading
    leading_stop e = p ∙ rw (drop-cons l i d, e) (omega arith)

  pub leading_end : (i : ℕ) → i ≡ length l → Passed i → leading f l ≡ i
  unfolding leading
  leading_end i e p = p ∙ rw (e, drop-length) (omega arith)

module _ {A : Type 0} (f : A → Bool) where
  pub leading_le : (l : List A) → leading f l ≤ length l
  unfolding leading
  leading_le [] = omega arith
  leading_le (a ∷ l) = go (f a) (leading_le l)
    where
      go : (t : Bool) → leading f l ≤ length l → cond t (suc (leading f l)) 0 ≤ suc (length l)
      go true ih = omega arith
      go false ih = omega arith
