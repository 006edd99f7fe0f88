-- Two lists side by side, with a fact of the elements at each index: parts, elements and counts, what maps make of them, and that putting both in order keeps it.
use mathlib.Core.Path.{◌≡◌, refl, ap}
use Prim.Native.Nat.{ℕ, zero, suc}
use native.Mathlib.Omega.{arith}
use mathlib.Core.Bool.{Bool, true, false, cond}
use mathlib.Core.List.{List, [], ◌∷◌, map}
use lib.ListN.{length, take, get_or}
use Rattle.model.specs.Lists.{count, Beside}
use Rattle.model.specs.Order.{insert, sort_onto, sort}

module _ {A : Type 0} where
  pub beside_imp : (R S : A → A → Type 0) → ((a b : A) → R a b → S a b) → (l m : List A) → Beside R l m → Beside S l m
  beside_imp R S f [] [] h = tt
  beside_imp R S f (a ∷ l) (b ∷ m) h = (f a b h.0, beside_imp R S f l m h.1)
  beside_imp R S f [] (b ∷ m) h = elim h [ ]
  beside_imp R S f (a ∷ l) [] h = elim h [ ]

  pub beside_both : (R S T : A → A → Type 0) → ((a b : A) → R a b → S a b → T a b) → (l m : List A) → Beside R l m → Beside S l m → Beside T l m
  beside_both R S T f [] [] h g = tt
  beside_both R S T f (a ∷ l) (b ∷ m) h g = (f a b h.0 g.0, beside_both R S T f l m h.1 g.1)
  beside_both R S T f [] (b ∷ m) h g = elim h [ ]
  beside_both R S T f (a ∷ l) [] h g = elim h [ ]

module _ {A : Type 0} (R : A → A → Type 0) where
  pub beside_self : ((a : A) → R a a) → (l : List A) → Beside R l l
  beside_self f [] = tt
  beside_self f (a ∷ l) = (f a, beside_self f l)

  pub beside_length : (l m : List A) → Beside R l m → length l ≡ length m
  beside_length [] [] h = refl
  beside_length (a ∷ l) (b ∷ m) h = ap suc (beside_length l m h.1)
  beside_length [] (b ∷ m) h = elim h [ ]
  beside_length (a ∷ l) [] h = elim h [ ]

  pub beside_take : (k : ℕ) (l m : List A) → Beside R l m → Beside R (take k l) (take k m)
  beside_take zero l m h = tt
  beside_take (suc k) [] [] h = tt
  beside_take (suc k) (a ∷ l) (b ∷ m) h = (h.0, beside_take k l m h.1)
  beside_take (suc k) [] (b ∷ m) h = elim h [ ]
  beside_take (suc k) (a ∷ l) [] h = elim h [ ]

  pub beside_at : (l m : List A) (i : ℕ) (d : A) → R d d → Beside R l m → R (get_or l i d) (get_or m i d)
  beside_at [] [] i d r h = r
  beside_at (a ∷ l) (b ∷ m) zero d r h = h.0
  beside_at (a ∷ l) (b ∷ m) (suc i) d r h = beside_at l m i d r h.1
  beside_at [] (b ∷ m) i d r h = elim h [ ]
  beside_at (a ∷ l) [] i d r h = elim h [ ]

  pub beside_count : (f g : A → Bool) → ((a b : A) → R a b → f a ≡ g b) → (l m : List A) → Beside R l m → count f l ≡ count g m
  unfolding count
  beside_count f g e [] [] h = refl
  beside_count f g e (a ∷ l) (b ∷ m) h = rw (e a b h.0, beside_count f g e l m h.1)
  beside_count f g e [] (b ∷ m) h = elim h [ ]
  beside_count f g e (a ∷ l) [] h = elim h [ ]

  pub beside_map : {B : Type 0} (f g : A → B) → ((a b : A) → R a b → f a ≡ g b) → (l m : List A) → Beside R l m → map f l ≡ map g m
  beside_map f g e [] [] h = refl
  beside_map f g e (a ∷ l) (b ∷ m) h = rw (e a b h.0, beside_map f g e l m h.1)
  beside_map {B = B} f g e [] (b ∷ m) h = elim h [ ]
  beside_map {B = B} f g e (a ∷ l) [] h = elim h [ ]

  -- two tests that agree on elements side by side
  module _ (s t : A → A → Bool) (agree : (a b c d : A) → R a b → R c d → s a c ≡ t b d) where
    beside_insert : (a b : A) → R a b → (l m : List A) → Beside R l m → Beside R (insert s a l) (insert t b m)
    unfolding insert
    beside_insert a b r [] [] h = (r, tt)
    beside_insert a b r (c ∷ l) (d ∷ m) h = rw (agree a b c d r h.0) (go (t b d) (beside_insert a b r l m h.1))
      where
        go : (v : Bool) → Beside R (insert s a l) (insert t b m) → Beside R (cond v (a ∷ c ∷ l) (c ∷ insert s a l)) (cond v (b ∷ d ∷ m) (d ∷ insert t b m))
        go true ih = (r, h)
        go false ih = (h.0, ih)
    beside_insert a b r [] (d ∷ m) h = elim h [ ]
    beside_insert a b r (c ∷ l) [] h = elim h [ ]

    beside_onto : (d e l m : List A) → Beside R d e → Beside R l m → Beside R (sort_onto s d l) (sort_onto t e m)
    unfolding sort_onto
    beside_onto d e [] [] g h = g
    beside_onto d e (a ∷ l) (b ∷ m) g h = beside_onto (insert s a d) (insert t b e) l m (beside_insert a b h.0 d e g) h.1
    beside_onto d e [] (b ∷ m) g h = elim h [ ]
    beside_onto d e (a ∷ l) [] g h = elim h [ ]

    pub beside_sort : (l m : List A) → Beside R l m → Beside R (sort s l) (sort t m)
    unfolding sort
    beside_sort l m h = beside_onto [] [] l m tt h

-- two lists of which a map makes the same
pub map_beside : {A B : Type 0} (f : A → B) (l m : List A) → map f l ≡ map f m → Beside (λ a b. f a ≡ f b) l m
map_beside f [] [] e = tt
map_beside f [] (b ∷ m) e = let z : ◌≡◌ {A = ℕ} 0 1 = cc e in absurd (omega arith)
map_beside f (a ∷ l) [] e = let z : ◌≡◌ {A = ℕ} 0 1 = cc e in absurd (omega arith)
map_beside f (a ∷ l) (b ∷ m) e = (cc e, map_beside f l m (cc e))
