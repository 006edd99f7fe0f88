-- The choice by each rule, from the facts that call for it.
use mathlib.Core.Path.{◌≡◌}
use Prim.Native.Nat.{suc, ◌≤◌, ◌<◌}
use native.Mathlib.Omega.{arith}
use mathlib.Core.Bool.{Bool, true, false, cond}
use mathlib.Core.List.{List, [], ◌∷◌}
use lib.Dec.{leb}
use lib.ListN.{length, take}
use borrow.Author.Tests.{le-leb, lt-leb}
use Rattle.model.specs.Lists.{count}
use Rattle.model.specs.Point.{Location, Point, State}
use Rattle.model.specs.Distance.{distance}
use Rattle.model.specs.Choice.{nearer, ordered, within, distance_at, by_count, choice_apart, coincident, choice}
use Rattle.laws.proofs.SortLaws.{length_sort}

module _ {A : Type 0} (f : A → Bool) where
  pub count_le : (l : List A) → count f l ≤ length l
  unfolding count
  count_le [] = omega arith
  count_le (a ∷ l) = go (f a) (count_le l)
    where
      go : (t : Bool) → count f l ≤ length l → cond t (suc (count f l)) (count f l) ≤ suc (length l)
      go true h = omega arith
      go false h = omega arith

module _ (s : State) (p : Location) where
  pub length_ordered : length (ordered s p) ≡ length s.contents.points
  unfolding ordered
  length_ordered = length_sort (nearer s p) s.contents.points

  pub within_le : within s p ≤ length s.contents.points
  unfolding within
  within_le = omega (arith, count_le (λ (a : Point). leb (distance s p a) s.extent.radius) (ordered s p), length_ordered)

  -- rules 3 to 5, by the count within R0
  pub rule_few : within s p ≤ 4 → length s.contents.points ≤ 4 → choice_apart s p ≡ record { points = take 4 (ordered s p); radius = 0 }
  unfolding choice_apart by_count
  rule_few h g = rw (le-leb (within s p) 4 h, le-leb (length s.contents.points) 4 g)

  pub rule_four : within s p ≤ 4 → 4 < length s.contents.points → choice_apart s p ≡ record { points = take 4 (ordered s p); radius = distance_at s p 4 }
  unfolding choice_apart by_count
  rule_four h g = rw (le-leb (within s p) 4 h, lt-leb (length s.contents.points) 4 g)

  pub rule_some : 4 < within s p → within s p ≤ 10 → choice_apart s p ≡ record { points = take (within s p) (ordered s p); radius = s.extent.radius }
  unfolding choice_apart by_count
  rule_some h g = rw (lt-leb (within s p) 4 h, le-leb (within s p) 10 g)

  pub rule_ten : 10 < within s p → choice_apart s p ≡ record { points = take 10 (ordered s p); radius = distance_at s p 10 }
  unfolding choice_apart by_count
  rule_ten g = rw (lt-leb (within s p) 4 (omega arith), lt-leb (within s p) 10 g)

  -- rule 1, or the others
  pub choice_coincident : coincident s p ≡ true → choice s p ≡ record { points = take 1 (ordered s p); radius = 0 }
  unfolding choice
  choice_coincident h = rw h

  pub choice_otherwise : coincident s p ≡ false → choice s p ≡ choice_apart s p
  unfolding choice
  choice_otherwise h = rw h
