-- Laws of the words that specs/Lists has: facts of every element, carried over, joined, and of parts; tables; a map to lists, joined and by the element; and the part from an index to the end.
use mathlib.Core.Path.{◌≡◌, refl, sym, subst}
use mathlib.Core.Logic.{inl, inr}
use Prim.Native.Nat.{ℕ, zero, suc, ◌+◌, ◌-◌, ◌*◌, ◌<◌}
use native.Mathlib.Nat.{mul-zero, mul-suc}
use native.Mathlib.Numerals.{add-one}
use native.Mathlib.Omega.{arith}
use mathlib.Core.List.{List, [], ◌∷◌, ◌++◌, map, flat_map, append_assoc, append-nil}
use lib.ListN.{length, take, drop, get_or, length-append, length-drop}
use lib.Seq.{take-suc, take_all}
use Rattle.model.specs.Lists.{tabulate, All, Among, Pairs, Bytes}

module _ {A : Type 0} where
  pub all_imp : (P Q : A → Type 0) → ((a : A) → P a → Q a) → (l : List A) → All P l → All Q l
  all_imp P Q f [] h = tt
  all_imp P Q f (a ∷ l) h = (f a h.0, all_imp P Q f l h.1)

  pub all_any : (P : A → Type 0) → ((a : A) → P a) → (l : List A) → All P l
  all_any P f [] = tt
  all_any P f (a ∷ l) = (f a, all_any P f l)

  pub all_both : (P Q R : A → Type 0) → ((a : A) → P a → Q a → R a) → (l : List A) → All P l → All Q l → All R l
  all_both P Q R f [] h g = tt
  all_both P Q R f (a ∷ l) h g = (f a h.0 g.0, all_both P Q R f l h.1 g.1)

  pub all_take : (P : A → Type 0) (n : ℕ) (l : List A) → All P l → All P (take n l)
  all_take P zero l h = tt
  all_take P (suc n) [] h = tt
  all_take P (suc n) (a ∷ l) h = (h.0, all_take P n l h.1)

  pub all_drop : (P : A → Type 0) (n : ℕ) (l : List A) → All P l → All P (drop n l)
  all_drop P zero l h = h
  all_drop P (suc n) [] h = tt
  all_drop P (suc n) (a ∷ l) h = all_drop P n l h.1

  pub all_at : (P : A → Type 0) (l : List A) (i : ℕ) (d : A) → P d → All P l → P (get_or l i d)
  all_at P [] i d p h = p
  all_at P (a ∷ l) zero d p h = h.0
  all_at P (a ∷ l) (suc i) d p h = all_at P l i d p h.1

  pub all_below : (P : A → Type 0) (l : List A) (i : ℕ) (d : A) → All P l → i < length l → P (get_or l i d)
  all_below P [] i d h k = absurd (omega arith)
  all_below P (a ∷ l) zero d h k = h.0
  all_below P (a ∷ l) (suc i) d h k = all_below P l i d h.1 (omega arith)

  pub all_among : (P : A → Type 0) (l : List A) → All P l → (q : A) → Among q l → P q
  all_among P [] h q m = absurd m
  all_among P (a ∷ l) h q (inl e) = subst (λ (z : A). P z) (sym e) h.0
  all_among P (a ∷ l) h q (inr m) = all_among P l h.1 q m

  pub all_append : (P : A → Type 0) (l m : List A) → All P l → All P m → All P (l ++ m)
  all_append P [] m h g = g
  all_append P (a ∷ l) m h g = (h.0, all_append P l m h.1 g)

  pub all_map : {B : Type 0} (P : B → Type 0) (f : A → B) (l : List A) → All (λ a. P (f a)) l → All P (map f l)
  all_map P f [] h = tt
  all_map P f (a ∷ l) h = (h.0, all_map P f l h.1)

  pub all_of_map : {B : Type 0} (P : B → Type 0) (f : A → B) (l : List A) → All P (map f l) → All (λ a. P (f a)) l
  all_of_map P f [] h = tt
  all_of_map P f (a ∷ l) h = (h.0, all_of_map P f l h.1)

  -- one element more at the end
  pub pairs_last : (R : A → A → Type 0) (l : List A) (a : A) → Pairs R l → All (λ b. R b a) l → Pairs R (l ++ (a ∷ []))
  pairs_last R [] a h g = (tt, tt)
  pairs_last R (b ∷ l) a h g = (all_append (R b) l (a ∷ []) h.0 (g.0, tt), pairs_last R l a h.1 g.1)

  pub pairs_map : {B : Type 0} (R : B → B → Type 0) (f : A → B) (l : List A) → Pairs (λ a b. R (f a) (f b)) l → Pairs R (map f l)
  pairs_map R f [] h = tt
  pairs_map R f (a ∷ l) h = (all_map (R (f a)) f l h.0, pairs_map R f l h.1)

  -- a fact of every two elements and one of each give another of every two
  pub pairs_both : (R S : A → A → Type 0) (P : A → Type 0) → ((a b : A) → R a b → P a → P b → S a b) → (l : List A) → Pairs R l → All P l → Pairs S l
  pairs_both R S P f [] h g = tt
  pairs_both R S P f (a ∷ l) h g = (all_both (R a) P (S a) (λ b r p. f a b r g.0 p) l h.0 g.1, pairs_both R S P f l h.1 g.1)

  -- two functions with the same values make the same list
  pub map_same : {B : Type 0} (f g : A → B) (l : List A) → All (λ a. f a ≡ g a) l → map f l ≡ map g l
  map_same f g [] h = refl
  map_same f g (a ∷ l) h = rw (h.0, map_same f g l h.1)

  pub tabulate_same : (f g : ℕ → A) (n : ℕ) → ((i : ℕ) → i < n → f i ≡ g i) → tabulate f n ≡ tabulate g n
  unfolding tabulate
  tabulate_same f g zero h = refl
  tabulate_same f g (suc n) h = rw (tabulate_same f g n (λ i l. h i (omega arith)), h n (omega arith))

  pub tabulate_more : (f : ℕ → A) (n : ℕ) → tabulate f (n + 1) ≡ tabulate f n ++ (f n ∷ [])
  unfolding tabulate
  tabulate_more f n = rw add-one

  -- the first value in front
  pub tabulate_front : (f : ℕ → A) (n : ℕ) → tabulate f (suc n) ≡ f 0 ∷ tabulate (λ i. f (suc i)) n
  unfolding tabulate
  tabulate_front f zero = refl
  tabulate_front f (suc n) = rw (tabulate_front f n)

  pub get_d_tabulate : (f : ℕ → A) (n i : ℕ) (d : A) → i < n → get_or (tabulate f n) i d ≡ f i
  get_d_tabulate f zero i d h = absurd (omega arith)
  get_d_tabulate f (suc n) zero d h = rw (tabulate_front f n)
  get_d_tabulate f (suc n) (suc i) d h = rw (tabulate_front f n) (get_d_tabulate (λ k. f (suc k)) n i d (omega arith))

  pub length_tabulate : (f : ℕ → A) (n : ℕ) → length (tabulate f n) ≡ n
  unfolding tabulate
  length_tabulate f zero = refl
  length_tabulate f (suc n) = omega (arith, length-append (tabulate f n) (f n ∷ []), length_tabulate f n)

  pub flat_map_append : {B : Type 0} (f : A → List B) (l m : List A) → flat_map f (l ++ m) ≡ flat_map f l ++ flat_map f m
  unfolding flat_map
  flat_map_append f [] m = refl
  flat_map_append f (a ∷ l) m = rw (flat_map_append f l m, append_assoc)

  pub flat_map_more : {B : Type 0} (f : A → List B) (l : List A) (i : ℕ) (z : A) → i < length l → flat_map f (take (i + 1) l) ≡ flat_map f (take i l) ++ f (get_or l i z)
  unfolding flat_map
  flat_map_more f l i z h = rw (add-one i, take-suc l i z h, flat_map_append, append-nil)

  -- where f gives k elements of each
  pub length_flat_map : {B : Type 0} (f : A → List B) (k : ℕ) → ((a : A) → length (f a) ≡ k) → (l : List A) → length (flat_map f l) ≡ k * length l
  unfolding flat_map
  length_flat_map f k each [] = rw mul-zero
  length_flat_map f k each (a ∷ l) = rw (mul-suc) (omega (arith, length-append (f a) (flat_map f l), each a, length_flat_map f k each l))

-- a part up to the end of a list is all that follows its start
pub rest_whole : {A : Type 0} (n : ℕ) (l : List A) → take (length l - n) (drop n l) ≡ drop n l
rest_whole n l = take_all (length l - n) (drop n l) (omega (arith, length-drop n l))

pub byte_at : (l : List ℕ) (i : ℕ) → Bytes l → get_or l i 0 < 256
byte_at l i h = all_at (λ b. b < 256) l i 0 (omega arith) h
