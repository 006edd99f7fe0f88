-- The locations one after the other, and the refusals of the lookups there, as a loop meets them.
use mathlib.Core.Path.{◌≡◌, refl, sym, ◌∙◌}
use Prim.Native.Nat.{ℕ, ◌+◌, ◌*◌, ◌/◌, ◌≤◌, ◌<◌}
use native.Mathlib.Numerals.{add-one}
use native.Mathlib.Omega.{arith}
use mathlib.Core.Bool.{Bool, true, false, cond}
use mathlib.Core.List.{List, [], ◌∷◌}
use lib.Dec.{eqb}
use lib.ListN.{length, take, drop, get_or, drop_of_length-le}
use lib.Seq.{drop-cons, take-suc}
use borrow.Author.Tests.{eqb-true, eq-eqb}
use Rattle.model.specs.Lists.{All}
use Rattle.model.specs.Bytes.{word_at}
use Rattle.model.specs.Point.{Location, State, location}
use Rattle.model.specs.Refusals.{lookup_refusal, or_else}
use Rattle.laws.proofs.ListLaws.{length_tabulate, get_d_tabulate, all_append}
use Rattle.many_lookups.specs.Locations.{location_at, locations_in}
use Rattle.many_lookups.specs.AnswersInto.{first_refusal}

abbrev pub nowhere : Location
nowhere = location 0 0

-- both refusals are 0 where the first that applies is
or_else_zero : (a b : ℕ) → or_else a b ≡ 0 → (a ≡ 0) × (b ≡ 0)
or_else_zero a b h = by_test (eqb a 0) refl h
  where
    by_test : (t : Bool) → eqb a 0 ≡ t → cond t b a ≡ 0 → (a ≡ 0) × (b ≡ 0)
    by_test true u w = (eqb-true a 0 u, w)
    by_test false u w = let z : ◌≡◌ {A = Bool} true false = sym (eq-eqb a 0 w) ∙ u in let k : ◌≡◌ {A = ℕ} 0 1 = cc in absurd (omega arith)

pub all_more : (P : Location → Type 0) (l : List Location) (i : ℕ) → i < length l → All P (take i l) → P (get_or l i nowhere) → All P (take (i + 1) l)
all_more P l i h p q = rw (add-one i, take-suc l i nowhere h) (all_append P (take i l) (get_or l i nowhere ∷ []) p (q, tt))

module _ (b : List ℕ) where
  pub length_locations : length (locations_in b) ≡ length b / 4
  unfolding locations_in
  length_locations = length_tabulate (location_at b) (length b / 4)

  module _ (i : ℕ) (h : i < length b / 4) where
    pub location_at_lem : get_or (locations_in b) i nowhere ≡ location_at b i
    unfolding locations_in
    location_at_lem = get_d_tabulate (location_at b) (length b / 4) i nowhere h

    -- the lookup at index i, and those after it
    module _ (s : State) (x y : ℕ) (ex : x ≡ word_at b (4 * i)) (ey : y ≡ word_at b (4 * i + 2)) where
      first_from : first_refusal s (drop i (locations_in b)) ≡ or_else (lookup_refusal x y s) (first_refusal s (drop (i + 1) (locations_in b)))
      unfolding first_refusal
      first_from = rw (ex, ey, add-one i, drop-cons (locations_in b) i nowhere (omega (arith, length_locations)), location_at_lem)

      pub all_from : first_refusal s (drop i (locations_in b)) ≡ 0 → (lookup_refusal x y s ≡ 0) × (first_refusal s (drop (i + 1) (locations_in b)) ≡ 0)
      all_from e = or_else_zero (lookup_refusal x y s) (first_refusal s (drop (i + 1) (locations_in b))) (sym first_from ∙ e)

      pub counted_from : (k : ℕ) → k ≡ lookup_refusal x y s → first_refusal s (drop i (locations_in b)) ≡ or_else k (first_refusal s (drop (i + 1) (locations_in b)))
      counted_from k e = rw e first_from

  pub none_left : (i : ℕ) (s : State) → length b / 4 ≤ i → first_refusal s (drop i (locations_in b)) ≡ 0
  unfolding first_refusal
  none_left i s h = rw (drop_of_length-le (locations_in b) {i = i} (omega (arith, length_locations)))
