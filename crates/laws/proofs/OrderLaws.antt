-- A list put in order holds the elements that it held, and no later one comes before an earlier one, where the test is strict and transitive.
use mathlib.Core.Path.{◌≡◌, refl, sym, ap, ◌∙◌}
use Prim.Native.Nat.{ℕ, suc, ◌+◌}
use native.Mathlib.Omega.{arith}
use mathlib.Core.Bool.{Bool, true, false, cond, false≢true}
use mathlib.Core.List.{List, [], ◌∷◌}
use Rattle.model.specs.Lists.{count, All, Pairs}
use Rattle.model.specs.Order.{insert, sort_onto, sort}
use Rattle.laws.proofs.Tests.{cond_cases}
use Rattle.laws.proofs.ListLaws.{all_imp, all_any}

-- one more where a test passes
abbrev more : Bool → ℕ → ℕ
more t n = cond t (suc n) n

more_more : (t u : Bool) (n : ℕ) → more t (more u n) ≡ more u (more t n)
more_more true true n = refl
more_more true false n = refl
more_more false u n = refl

more_plus : (t : Bool) (m n : ℕ) → more t m + n ≡ m + more t n
more_plus true m n = omega arith
more_plus false m n = refl

module _ {A : Type 0} (before : A → A → Bool) where
  insert_count : (f : A → Bool) (a : A) (l : List A) → count f (insert before a l) ≡ more (f a) (count f l)
  unfolding insert count
  insert_count f a [] = refl
  insert_count f a (b ∷ l) = go (before a b) (insert_count f a l)
    where
      go : (t : Bool) → count f (insert before a l) ≡ more (f a) (count f l)
          → count f (cond t (a ∷ b ∷ l) (b ∷ insert before a l)) ≡ more (f a) (more (f b) (count f l))
      go true ih = refl
      go false ih = ap (more (f b)) ih ∙ more_more (f b) (f a) (count f l)

  onto_count : (f : A → Bool) (d l : List A) → count f (sort_onto before d l) ≡ count f d + count f l
  unfolding sort_onto count
  onto_count f d [] = omega arith
  onto_count f d (a ∷ l) =
      onto_count f (insert before a d) l ∙ ap (λ (n : ℕ). n + count f l) (insert_count f a d) ∙ more_plus (f a) (count f d) (count f l)

  -- whatever is asked of the elements, as many answer to it
  pub sort_count : (f : A → Bool) (l : List A) → count f (sort before l) ≡ count f l
  unfolding sort count
  sort_count f l = omega (arith, onto_count f [] l)

  pub all_insert : (P : A → Type 0) (a : A) (l : List A) → P a → All P l → All P (insert before a l)
  unfolding insert
  all_insert P a [] p h = (p, tt)
  all_insert P a (b ∷ l) p h = go (before a b) (all_insert P a l p h.1)
    where
      go : (t : Bool) → All P (insert before a l) → All P (cond t (a ∷ b ∷ l) (b ∷ insert before a l))
      go true ih = (p, h)
      go false ih = (h.0, ih)

  onto_all : (P : A → Type 0) (d l : List A) → All P d → All P l → All P (sort_onto before d l)
  unfolding sort_onto
  onto_all P d [] g h = g
  onto_all P d (a ∷ l) g h = onto_all P (insert before a d) l (all_insert P a d h.0 g) h.1

  -- what all elements keep to
  pub sort_all : (P : A → Type 0) (l : List A) → All P l → All P (sort before l)
  unfolding sort
  sort_all P l h = onto_all P [] l tt h

  -- a fact of every two elements is kept: the test gives it of a and what follows a, and it is known of what a does not come before
  pub insert_pairs : (R : A → A → Type 0) → ((a b : A) → before a b ≡ true → R a b) → ((a b c : A) → before a b ≡ true → R b c → R a c)
      → (a : A) (l : List A) → All (λ b. before a b ≡ false → R b a) l → Pairs R l → Pairs R (insert before a l)
  unfolding insert
  insert_pairs R first on a [] g h = (tt, tt)
  insert_pairs R first on a (b ∷ l) g h =
      cond_cases (Pairs R) (before a b)
      (λ e. ((first a b e, all_imp (R b) (R a) (λ c r. on a b c e r) l h.0), h))
      (λ e. (all_insert (R b) a l (g.0 e) h.0, insert_pairs R first on a l g.1 h.1))

  module _ (self : (a : A) → before a a ≡ false) (trans : (a b c : A) → before a b ≡ true → before b c ≡ true → before a c ≡ true) where
    abbrev Settled : A → A → Type 0
    Settled a b = before b a ≡ false

    -- a comes before b, and c not before b: c does not come before a
    settled_on : (a b c : A) → before a b ≡ true → Settled b c → Settled a c
    settled_on a b c p q = go (before c a) refl
      where
        go : (t : Bool) → before c a ≡ t → t ≡ false
        go true e = absurd (false≢true (sym q ∙ trans c a b e p))
        go false e = refl

    insert_settled : (a : A) (l : List A) → Pairs Settled l → Pairs Settled (insert before a l)
    insert_settled a l h = insert_pairs Settled (λ b c e. settled_on b c c e (self c)) settled_on a l (all_any _ (λ b e. e) l) h

    onto_settled : (d l : List A) → Pairs Settled d → Pairs Settled (sort_onto before d l)
    unfolding sort_onto
    onto_settled d [] h = h
    onto_settled d (a ∷ l) h = onto_settled (insert before a d) l (insert_settled a d h)

    pub sort_settled : (l : List A) → Pairs (λ a b. before b a ≡ false) (sort before l)
    unfolding sort
    sort_settled l = onto_settled [] l tt
