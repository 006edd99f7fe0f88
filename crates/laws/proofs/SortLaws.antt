-- How a list in order grows by one element, what a map that keeps the test does to it, and that its first k follow from the first k before.
use mathlib.Core.Path.{◌≡◌, refl, ap, ◌∙◌}
use Prim.Native.Nat.{ℕ, zero, suc, ◌+◌}
use native.Mathlib.Omega.{arith}
use mathlib.Core.Bool.{Bool, true, false, cond}
use mathlib.Core.List.{List, [], ◌∷◌, ◌++◌, map}
use lib.ListN.{length, take}
use lib.Seq.{take-take}
use Rattle.model.specs.Lists.{All, Pairs}
use Rattle.model.specs.Order.{insert, sort_onto, sort}
use Rattle.laws.proofs.ListLaws.{all_any, all_both}
use Rattle.laws.proofs.OrderLaws.{all_insert}

module _ {A : Type 0} (before : A → A → Bool) where
  -- the last element is put into the others
  pub onto_last : (d l : List A) (a : A) → sort_onto before d (l ++ (a ∷ [])) ≡ insert before a (sort_onto before d l)
  unfolding sort_onto
  onto_last d [] a = refl
  onto_last d (b ∷ l) a = onto_last (insert before b d) l a

  pub take_insert : (k : ℕ) (a : A) (l : List A) → take k (insert before a (take k l)) ≡ take k (insert before a l)
  unfolding insert
  take_insert zero a l = refl
  take_insert (suc k) a [] = refl
  take_insert (suc k) a (b ∷ l) = go (before a b) (take_insert k a l)
    where
      cut : (j : ℕ) → take j (b ∷ take j l) ≡ take j (b ∷ l)
      cut zero = refl
      cut (suc j) = ap {B = List A} (λ r. b ∷ r) (take-take j (suc j) l (omega arith))

      go : (t : Bool) → take k (insert before a (take k l)) ≡ take k (insert before a l)
          → take (suc k) (cond t (a ∷ b ∷ take k l) (b ∷ insert before a (take k l))) ≡ take (suc k) (cond t (a ∷ b ∷ l) (b ∷ insert before a l))
      go true ih = ap {B = List A} (λ r. a ∷ r) (cut k)
      go false ih = ap {B = List A} (λ r. b ∷ r) ih

  pub length_insert : (a : A) (l : List A) → length (insert before a l) ≡ suc (length l)
  unfolding insert
  length_insert a [] = refl
  length_insert a (b ∷ l) = go (before a b) (length_insert a l)
    where
      go : (t : Bool) → length (insert before a l) ≡ suc (length l) → length (cond t (a ∷ b ∷ l) (b ∷ insert before a l)) ≡ suc (suc (length l))
      go true ih = refl
      go false ih = ap suc ih

  length_onto : (d l : List A) → length (sort_onto before d l) ≡ length d + length l
  unfolding sort_onto
  length_onto d [] = omega arith
  length_onto d (a ∷ l) = omega (arith, length_onto (insert before a d) l, length_insert a d)

  pub length_sort : (l : List A) → length (sort before l) ≡ length l
  unfolding sort
  length_sort l = omega (arith, length_onto [] l)

-- two tests that a map carries into each other, on the elements that are compared
module _ {A B : Type 0} (f : A → B) (s : A → A → Bool) (t : B → B → Bool) where
  abbrev Keeps : A → A → Type 0
  Keeps a b = t (f a) (f b) ≡ s a b

  map_insert : (a : A) (l : List A) → All (Keeps a) l → map f (insert s a l) ≡ insert t (f a) (map f l)
  unfolding insert
  map_insert a [] k = refl
  map_insert a (b ∷ l) k = go (s a b) (t (f a) (f b)) k.0 (map_insert a l k.1)
    where
      go : (u v : Bool) → v ≡ u → map f (insert s a l) ≡ insert t (f a) (map f l)
          → map f (cond u (a ∷ b ∷ l) (b ∷ insert s a l)) ≡ cond v (f a ∷ f b ∷ map f l) (f b ∷ insert t (f a) (map f l))
      go true v e ih = rw e
      go false v e ih = rw e (ap {B = List B} (λ r. f b ∷ r) ih)

  map_onto : (d l : List A) → All (λ a. All (Keeps a) d) l → Pairs (λ a b. Keeps b a) l → map f (sort_onto s d l) ≡ sort_onto t (map f d) (map f l)
  unfolding sort_onto
  map_onto d [] h k = refl
  map_onto d (a ∷ l) h k =
      map_onto (insert s a d) l (all_both (λ b. All (Keeps b) d) (λ b. Keeps b a) (λ b. All (Keeps b) (insert s a d)) (λ b p q. all_insert s (Keeps b) a d q p) l h.1 k.0) k.1
      ∙ ap (λ (m : List B). sort_onto t m (map f l)) (map_insert a d h.0)

  -- each element is compared with those before it alone
  pub map_sort : (l : List A) → Pairs (λ a b. t (f b) (f a) ≡ s b a) l → map f (sort s l) ≡ sort t (map f l)
  unfolding sort
  map_sort l k = map_onto [] l (all_any _ (λ a. tt) l) k
