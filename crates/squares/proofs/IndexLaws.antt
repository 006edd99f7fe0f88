-- The indices that pass a test: they ascend, and the elements there are those of the list that pass.
use mathlib.Core.Path.{◌≡◌, refl}
use Prim.Native.Nat.{ℕ, zero, suc, ◌≤◌, ◌<◌}
use native.Mathlib.Omega.{arith}
use mathlib.Core.Bool.{Bool, true, false, cond}
use mathlib.Core.List.{List, [], ◌∷◌, ◌++◌, map, map-append, append-nil}
use lib.ListN.{length, take, get_or}
use lib.Seq.{take-suc}
use Rattle.model.specs.Lists.{All, Pairs}
use Rattle.laws.proofs.Tests.{cond_cases}
use Rattle.laws.proofs.ListLaws.{all_imp, all_append, pairs_last}
use Rattle.laws.proofs.PartLaws.{passing, passing_last}
use Rattle.squares.specs.Squares.{indices_of}

module _ (t : ℕ → Bool) where
  pub indices_below : (n : ℕ) → All (λ i. i < n) (indices_of t n)
  unfolding indices_of
  indices_below zero = tt
  indices_below (suc n) =
      all_append (λ i. i < suc n) (indices_of t n) (cond (t n) (n ∷ []) [])
      (all_imp (λ i. i < n) (λ i. i < suc n) (λ i h. omega arith) (indices_of t n) (indices_below n))
      (cond_cases (All (λ i. i < suc n)) (t n) (λ e. (omega arith, tt)) (λ e. tt))

  pub indices_ascend : (n : ℕ) → Pairs (λ i j. i < j) (indices_of t n)
  unfolding indices_of
  indices_ascend zero = tt
  indices_ascend (suc n) = go (t n) (indices_ascend n)
    where
      go : (u : Bool) → Pairs (λ i j. i < j) (indices_of t n) → Pairs (λ i j. i < j) (indices_of t n ++ cond u (n ∷ []) [])
      go true ih = pairs_last (λ i j. i < j) (indices_of t n) n ih (indices_below n)
      go false ih = rw append-nil ih

  -- t is the test f of the elements of l
  pub map_indices : {A : Type 0} (f : A → Bool) (l : List A) (d : A) (n : ℕ) → n ≤ length l → ((i : ℕ) → i < n → t i ≡ f (get_or l i d))
      → map (λ (i : ℕ). get_or l i d) (indices_of t n) ≡ passing f (take n l)
  unfolding indices_of passing
  map_indices f l d zero h e = refl
  map_indices f l d (suc n) h e =
      rw (map-append, take-suc l n d h, passing_last, map_indices f l d n (omega arith) (λ i k. e i (omega arith)), ← e n (omega arith))
      (go (t n))
    where
      go : (u : Bool) → passing f (take n l) ++ map (λ (i : ℕ). get_or l i d) (cond u (n ∷ []) []) ≡ passing f (take n l) ++ cond u (get_or l n d ∷ []) []
      go true = refl
      go false = refl
