-- A few words about lists that the definitions share.
use Rattle.std.specs.Prelude.{◌≡◌, ℕ, zero, suc, ◌<◌, Bool, cond, ◌⊎◌, length, drop}
use mathlib.Core.List.{List, [], ◌∷◌, ◌++◌, foldl}

module _ {A : Type 0} where
  -- f 0 to f (n - 1)
  unfoldable pub tabulate : (ℕ → A) → ℕ → List A
  tabulate f zero = []
  tabulate f (suc n) = tabulate f n ++ (f n ∷ [])

  -- how many elements pass a test
  unfoldable pub count : (A → Bool) → List A → ℕ
  count f [] = 0
  count f (a ∷ l) = cond (f a) (suc (count f l)) (count f l)

  -- an operation carried through a list from its first element on, as min or max; `none` of an empty list
  unfoldable pub through : A → (A → A → A) → List A → A
  through none op [] = none
  through none op (a ∷ l) = foldl op a l

  -- what a lent list l holds once b was written to its front
  abbrev pub laid : List A → List A → List A
  laid b l = b ++ drop (length b) l

  -- a fact of every element
  abbrev pub All : (A → Type 0) → List A → Type 0
  All P [] = Unit {0}
  All P (a ∷ l) = P a × All P l

  -- a fact of some element
  abbrev pub Some : (A → Type 0) → List A → Type 0
  Some P [] = ⊥
  Some P (a ∷ l) = P a ⊎ Some P l

  -- a is an element
  abbrev pub Among : A → List A → Type 0
  Among a l = Some (λ b. a ≡ b) l

  -- a fact of every two elements side by side
  abbrev pub Steps : (A → A → Type 0) → List A → Type 0
  Steps R [] = Unit {0}
  Steps R (a ∷ []) = Unit {0}
  Steps R (a ∷ b ∷ l) = R a b × Steps R (b ∷ l)

  -- a fact of every two elements, the earlier one first
  abbrev pub Pairs : (A → A → Type 0) → List A → Type 0
  Pairs R [] = Unit {0}
  Pairs R (a ∷ l) = All (R a) l × Pairs R l

  -- a fact of the two elements at each index of two lists, which are of one length
  abbrev pub Beside : (A → A → Type 0) → List A → List A → Type 0
  Beside R [] [] = Unit {0}
  Beside R [] (b ∷ m) = ⊥
  Beside R (a ∷ l) [] = ⊥
  Beside R (a ∷ l) (b ∷ m) = R a b × Beside R l m

-- a list of bytes
abbrev pub Bytes : List ℕ → Type 0
Bytes l = All (λ b. b < 256) l
