-- A list parted by a test: what passes it, and what is put in order of it. Where all that passes comes before all that fails, the list in order is what passes in order,
-- and then the rest: a choice by what is within a limit is the choice by all.
use mathlib.Core.Path.{◌≡◌, refl, sym, ap, ◌∙◌}
use Prim.Native.Nat.{ℕ, suc, ◌≤◌}
use native.Mathlib.Omega.{arith}
use mathlib.Core.Bool.{Bool, true, false, cond, not}
use mathlib.Core.List.{List, [], ◌∷◌, ◌++◌}
use lib.ListN.{length, take}
use lib.Seq.{take-append-le}
use Rattle.model.specs.Lists.{count, All}
use Rattle.model.specs.Order.{insert, sort_onto, sort}
use Rattle.laws.proofs.OrderLaws.{all_insert}
use Rattle.laws.proofs.SortLaws.{length_sort}

module _ {A : Type 0} (f : A → Bool) where
  -- the elements that pass, in their order
  unfoldable pub passing : List A → List A
  passing [] = []
  passing (a ∷ l) = cond (f a) (a ∷ passing l) (passing l)

  pub passing_last : (l : List A) (a : A) → passing (l ++ (a ∷ [])) ≡ passing l ++ cond (f a) (a ∷ []) []
  unfolding passing
  passing_last [] a = refl
  passing_last (b ∷ l) a = rw (passing_last l a) (go (f b))
    where
      go : (t : Bool) → cond t (b ∷ (passing l ++ cond (f a) (a ∷ []) [])) (passing l ++ cond (f a) (a ∷ []) []) ≡ cond t (b ∷ passing l) (passing l) ++ cond (f a) (a ∷ []) []
      go true = refl
      go false = refl

  pub length_passing : (l : List A) → length (passing l) ≡ count f l
  unfolding passing count
  length_passing [] = refl
  length_passing (a ∷ l) = go (f a) (length_passing l)
    where
      go : (t : Bool) → length (passing l) ≡ count f l → length (cond t (a ∷ passing l) (passing l)) ≡ cond t (suc (count f l)) (count f l)
      go true ih = ap suc ih
      go false ih = ih

module _ {A : Type 0} (before : A → A → Bool) (f : A → Bool) where
  -- what passes comes before what fails, and not after it
  pub record Parted : Type 0 where
    pub first : (a b : A) → f a ≡ true → f b ≡ false → before a b ≡ true
    pub then : (a b : A) → f a ≡ true → f b ≡ false → before b a ≡ false

  module _ (P : Parted) where
    put_first : (a : A) (l m : List A) → f a ≡ true → All (λ b. f b ≡ false) m → insert before a (l ++ m) ≡ insert before a l ++ m
    unfolding insert
    put_first a [] [] e h = refl
    put_first a [] (b ∷ m) e h = rw (P.first a b e h.0)
    put_first a (b ∷ l) m e h = go (before a b) (put_first a l m e h)
      where
        go : (t : Bool) → insert before a (l ++ m) ≡ insert before a l ++ m
            → cond t (a ∷ b ∷ (l ++ m)) (b ∷ insert before a (l ++ m)) ≡ cond t (a ∷ b ∷ l) (b ∷ insert before a l) ++ m
        go true ih = refl
        go false ih = ap {B = List A} (λ r. b ∷ r) ih

    put_then : (a : A) (l m : List A) → f a ≡ false → All (λ b. f b ≡ true) l → insert before a (l ++ m) ≡ l ++ insert before a m
    unfolding insert
    put_then a [] m e h = refl
    put_then a (b ∷ l) m e h = rw (P.then b a h.0 e, put_then a l m e h.1)

    onto_parts : (d e l : List A) → All (λ b. f b ≡ true) d → All (λ b. f b ≡ false) e
        → sort_onto before (d ++ e) l ≡ sort_onto before d (passing f l) ++ sort_onto before e (passing (λ a. not (f a)) l)
    unfolding sort_onto passing
    onto_parts d e [] h g = refl
    onto_parts d e (a ∷ l) h g =
        go (f a) refl
        (λ k. onto_parts (insert before a d) e l (all_insert before (λ b. f b ≡ true) a d k h) g)
        (λ k. onto_parts d (insert before a e) l h (all_insert before (λ b. f b ≡ false) a e k g))
      where
        Apart : List A → List A → Type 0
        Apart d e = sort_onto before (d ++ e) l ≡ sort_onto before d (passing f l) ++ sort_onto before e (passing (λ b. not (f b)) l)

        go : (t : Bool) → f a ≡ t → (f a ≡ true → Apart (insert before a d) e) → (f a ≡ false → Apart d (insert before a e))
            → sort_onto before (insert before a (d ++ e)) l
            ≡ sort_onto before d (cond t (a ∷ passing f l) (passing f l)) ++ sort_onto before e (cond (not t) (a ∷ passing (λ b. not (f b)) l) (passing (λ b. not (f b)) l))
        go true k first then = rw (put_first a d e k g) (first k)
        go false k first then = rw (put_then a d e k h) (then k)

    sort_parts : (l : List A) → sort before l ≡ sort before (passing f l) ++ sort before (passing (λ a. not (f a)) l)
    unfolding sort
    sort_parts l = onto_parts [] [] l tt tt

    -- the first of those that pass are the first of all
    pub take_sort_passing : (k : ℕ) (l : List A) → k ≤ count f l → take k (sort before (passing f l)) ≡ take k (sort before l)
    take_sort_passing k l h =
        sym (ap (take k) (sort_parts l)
        ∙ take-append-le k (sort before (passing f l)) (sort before (passing (λ a. not (f a)) l)) (omega (arith, length_sort before (passing f l), length_passing f l)))
