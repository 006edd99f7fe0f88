-- An operation carried through a list, as min or max: one element more; what it keeps to, what is beyond it, and that it is some element.
use mathlib.Core.Path.{◌≡◌, refl, sym, ◌∙◌}
use mathlib.Core.Logic.{◌⊎◌, inl, inr, ⊎_elim}
use Prim.Native.Nat.{◌<◌}
use native.Mathlib.Nat.{not-suc-le-zero}
use mathlib.Core.List.{List, [], ◌∷◌, ◌++◌, foldl, foldl-append}
use lib.ListN.{length}
use Rattle.model.specs.Lists.{All, Some, through}

module _ {A : Type 0} (none : A) (op : A → A → A) where
  pub through_last : (l : List A) (b : A) → 0 < length l → through none op (l ++ (b ∷ [])) ≡ op (through none op l) b
  unfolding through
  through_last [] b h = absurd (not-suc-le-zero h)
  through_last (a ∷ l) b h = foldl-append op a l (b ∷ [])

  -- what the operation keeps to, its result does
  module _ (P : A → Type 0) (one : (a b : A) → P a → P b → P (op a b)) where
    fold_keeps : (a : A) (l : List A) → P a → All P l → P (foldl op a l)
    fold_keeps a [] p h = p
    fold_keeps a (b ∷ l) p h = fold_keeps (op a b) l (one a b p h.0) h.1

    pub through_keeps : (l : List A) → P none → All P l → P (through none op l)
    unfolding through
    through_keeps [] p h = p
    through_keeps (a ∷ l) p h = fold_keeps a l h.0 h.1

    pub through_keeps_some : (l : List A) → 0 < length l → All P l → P (through none op l)
    unfolding through
    through_keeps_some [] p h = absurd (not-suc-le-zero p)
    through_keeps_some (a ∷ l) p h = fold_keeps a l h.0 h.1

  -- where the operation's result is beyond neither operand, on the side that R tells, that of the list is beyond no element
  module _ (R : A → A → Type 0) (self : (a : A) → R a a) (trans : (a b c : A) → R a b → R b c → R a c)
      (left : (a b : A) → R (op a b) a) (right : (a b : A) → R (op a b) b) where
    fold_start : (a : A) (l : List A) → R (foldl op a l) a
    fold_start a [] = self a
    fold_start a (b ∷ l) = trans (foldl op (op a b) l) (op a b) a (fold_start (op a b) l) (left a b)

    fold_all : (a : A) (l : List A) → All (λ b. R (foldl op a l) b) l
    fold_all a [] = tt
    fold_all a (b ∷ l) = (trans (foldl op (op a b) l) (op a b) b (fold_start (op a b) l) (right a b), fold_all (op a b) l)

    pub through_all : (l : List A) → All (λ b. R (through none op l) b) l
    unfolding through
    through_all [] = tt
    through_all (a ∷ l) = (fold_start a l, fold_all a l)

  -- an operation that gives one of its operands gives one of the elements
  module _ (either : (a b : A) → (op a b ≡ a) ⊎ (op a b ≡ b)) where
    fold_some : (a : A) (l : List A) → (foldl op a l ≡ a) ⊎ Some (λ b. b ≡ foldl op a l) l
    fold_some a [] = inl refl
    fold_some a (b ∷ l) =
        ⊎_elim
        (λ (e : foldl op (op a b) l ≡ op a b). ⊎_elim (λ (f : op a b ≡ a). inl (e ∙ f)) (λ (f : op a b ≡ b). inr (inl (sym (e ∙ f)))) (either a b))
        (λ (s : Some (λ c. c ≡ foldl op (op a b) l) l). inr (inr s))
        (fold_some (op a b) l)

    pub through_some : (l : List A) → 0 < length l → Some (λ b. b ≡ through none op l) l
    unfolding through
    through_some [] h = absurd (not-suc-le-zero h)
    through_some (a ∷ l) h = ⊎_elim (λ e. inl (sym e)) (λ s. inr s) (fold_some a l)
