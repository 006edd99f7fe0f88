-- Lists that a loop fills from the front.
use mathlib.Core.Path.{◌≡◌, sym, ◌∙◌, subst}
use mathlib.Core.List.{List, map, map-append}
use mathlib.Core.Logic.{⊎_elim}
use Prim.Native.Nat.{ℕ, ◌+◌, ◌<◌}
use native.Mathlib.Nat.{eq-or-lt_of_le, lt_irrefl}
use native.Mathlib.Numerals.{add-one}
use native.Mathlib.Omega.{arith}
use lib.ListN.{length, take, get_or, set}
use lib.Seq.{take-suc, take-suc-set, get_or-set_same, get_or-set_other}

-- a list whose first i elements are those of g, with g i written at i
pub filled : {A : Type 0} (g : ℕ → A) (l : List A) (i : ℕ) (d : A) {a : A} → i < length l → a ≡ g i → ((k : ℕ) → k < i → get_or l k d ≡ g k)
    → (k : ℕ) → k < i + 1 → get_or (set l i a) k d ≡ g k
filled {A} g l i d {a} L e h k b =
    ⊎_elim
    (λ (x : k ≡ i). subst (λ (j : ℕ). get_or (set l i a) j d ≡ g j) (sym x) (get_or-set_same l i a d L ∙ e))
    (λ (x : k < i). get_or-set_other l i k a d (λ (y : k ≡ i). lt_irrefl i (subst (λ (j : ℕ). j < i) y x)) ∙ h k x)
    (eq-or-lt_of_le {n = k} {m = i} (omega arith))

-- a list whose first i elements are what f makes of another's, with one more
pub map_more : {A B : Type 0} (f : A → B) (l : List A) (r : List B) (i : ℕ) (d : A) (v : B) → i < length l → i < length r → take i r ≡ map f (take i l) → v ≡ f (get_or l i d)
    → take (i + 1) (set r i v) ≡ map f (take (i + 1) l)
map_more f l r i d v h g was e = rw (add-one i, take-suc-set r i v g, was, e, take-suc l i d h, map-append)
