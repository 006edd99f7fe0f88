-- From the squared distances to the first points in order: how many are within R0, and that as many are held as the choice goes by.
use mathlib.Core.Path.{◌≡◌, sym, ap, ◌∙◌}
use Prim.Native.Nat.{ℕ, ◌≤◌, ◌<◌, min}
use native.Mathlib.Omega.{arith}
use mathlib.Core.Bool.{true}
use mathlib.Core.List.{List, ◌++◌}
use lib.Dec.{leb}
use lib.IntN.{ℤ}
use lib.ListN.{length, take, length-map}
use lib.Seq.{length-take-le, take_at}
use Rattle.model.specs.Lists.{count, All}
use Rattle.model.specs.Point.{Location, Point, State, in_range}
use Rattle.model.specs.Distance.{squared, distance_of, distance}
use Rattle.model.specs.Choice.{ordered, within}
use Rattle.laws.proofs.ListLaws.{all_of_map, all_take}
use Rattle.laws.proofs.ChosenLaws.{ordered_all}
use Rattle.laws.proofs.MapLaws.{count_map, count_same}
use Rattle.laws.proofs.ChoiceLaws.{order_count}
use Rattle.laws.proofs.NearestLaws.{count_le}
use Rattle.point_arrays.specs.PointArrays.{HoldsPoints}
use Rattle.point_arrays.proofs.ReadLaws.{length_points}
use Rattle.squares.specs.Squares.{HoldsSquares, Words, count_within, needed}
use Rattle.candidates.specs.declared.Candidate.{Candidate}
use Rattle.candidates.specs.declared.Candidates.{Candidates}
use Rattle.candidates.specs.First.{candidate_at, list_of, HoldsFirst, InRange}
use Rattle.neighbours.specs.Selects.{HoldsEnough}

module _ (s : State) (p : Location) (squares : List ℕ) (held : HoldsSquares s p squares) where
  squares_all : length squares ≡ length s.contents.points
  squares_all = ap length held ∙ length-map s.contents.points (squared s p)

  -- by the limit that R0 sets
  within_is : (k r reach : ℕ) → Words squares → k ≡ count_within reach squares → r ≡ s.extent.radius
      → ((d : ℕ) → d < 4294967296 → leb d reach ≡ leb (distance_of d) r) → k ≡ within s p
  unfolding within distance
  within_is k r reach words ek er test =
      ek
      ∙ count_same (λ d. leb d reach) (λ d. leb (distance_of d) r) squares 0 (λ i h. test _ (words i h))
      ∙ ap (count (λ d. leb (distance_of d) r)) held
      ∙ count_map (squared s p) (λ d. leb (distance_of d) r) s.contents.points
      ∙ rw er (sym (order_count s p (λ (a : Point). leb (distance s p a) s.extent.radius)))

  pub gathered : All (λ (a : Point). (a.x < 4096) × (a.y < 4096)) s.contents.points → (k r reach limit : ℕ) (b : Candidates) → Words squares → k ≡ count_within reach squares → r ≡ s.extent.radius
      → ((d : ℕ) → d < 4294967296 → leb d reach ≡ leb (distance_of d) r) → needed k (length squares) ≤ count_within limit squares
      → HoldsFirst s p limit b → InRange (list_of b) → HoldsEnough s p k b
  unfolding candidate_at
  gathered below k r reach limit b words ek er test enough first values =
      let found : count_within limit squares ≡ count (λ (a : Point). leb (squared s p a) limit) s.contents.points =
      ap (count_within limit) held ∙ count_map (squared s p) (λ d. leb d limit) s.contents.points in
      record {
        within = within_is k r reach words ek er test;
        size = omega (arith, first.count);
        present = omega (arith, first.count, count_le (λ (a : Point). leb (squared s p a) limit) s.contents.points);
        enough = omega (arith, first.count, squares_all);
        items = first.items;
        inside = all_take _ b.count (ordered s p) (ordered_all s p _ below);
        values = all_of_map (λ (a : Candidate). in_range a.z ≡ true) (candidate_at s p) (take b.count (ordered s p)) (rw first.items at values);
      }

-- the squared distances of all points, at the front of what there is room for
module _ (n m : ℕ) (em : m ≡ min n 256) where
  pub room_taken : (room : List ℕ) → 256 ≡ length room → length (take m room) ≡ min n 256
  room_taken room e = length-take-le m room (omega arith) ∙ em

  pub filled_front : (s : State) (p : Location) (xs ys : List ℕ) (zs : List ℤ) (l d : List ℕ) → HoldsPoints s xs ys zs n → HoldsSquares s p l → take m (l ++ d) ≡ l
  filled_front s p xs ys zs l d points held = take_at l d m (squares_all s p l held ∙ ap length points ∙ length_points xs ys zs n ∙ sym em)
