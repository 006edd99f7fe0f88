-- Lists and what a map makes of them: parts, elements, counts and tables.
use mathlib.Core.Path.{◌≡◌, refl, sym, ap, ◌∙◌}
use Prim.Native.Nat.{ℕ, zero, suc, ◌+◌, ◌<◌}
use native.Mathlib.Nat.{le_of_suc-le-suc, not-suc-le-zero}
use native.Mathlib.Omega.{arith}
use mathlib.Core.Bool.{Bool, true, false, cond}
use mathlib.Core.List.{List, [], ◌∷◌, ◌++◌, map, map-append}
use lib.ListN.{length, take, drop, get_or, set, length-map}
use Rattle.model.specs.Lists.{tabulate, count}

-- an array of structs is known by a map of it
pub length_under : {X Y : Type 0} (f : X → Y) (l : List X) (n : ℕ) → length (map f l) ≡ n → length l ≡ n
length_under f l n h = sym (length-map l f) ∙ h

module _ {A B : Type 0} (f : A → B) where
  pub take_map : (k : ℕ) (l : List A) → take k (map f l) ≡ map f (take k l)
  take_map zero l = refl
  take_map (suc k) [] = refl
  take_map (suc k) (a ∷ l) = ap {B = List B} (λ r. f a ∷ r) (take_map k l)

  pub drop_map : (k : ℕ) (l : List A) → drop k (map f l) ≡ map f (drop k l)
  drop_map zero l = refl
  drop_map (suc k) [] = refl
  drop_map (suc k) (a ∷ l) = drop_map k l

  pub map_set : (l : List A) (i : ℕ) (e : A) → map f (set l i e) ≡ set (map f l) i (f e)
  map_set [] i e = refl
  map_set (a ∷ l) zero e = refl
  map_set (a ∷ l) (suc i) e = ap {B = List B} (λ r. f a ∷ r) (map_set l i e)

  pub get_d_map : (l : List A) (i : ℕ) (d : B) (e : A) → i < length l → get_or (map f l) i d ≡ f (get_or l i e)
  get_d_map [] i d e h = absurd (not-suc-le-zero h)
  get_d_map (a ∷ l) zero d e h = refl
  get_d_map (a ∷ l) (suc i) d e h = get_d_map l i d e (le_of_suc-le-suc h)

  pub count_map : (t : B → Bool) (l : List A) → count t (map f l) ≡ count (λ a. t (f a)) l
  unfolding count
  count_map t [] = refl
  count_map t (a ∷ l) = rw (count_map t l)

  pub map_tabulate : (g : ℕ → A) (n : ℕ) → map f (tabulate g n) ≡ tabulate (λ i. f (g i)) n
  unfolding tabulate
  map_tabulate g zero = refl
  map_tabulate g (suc n) = rw (map-append, map_tabulate g n)

-- two tests that agree on the elements of a list
pub count_same : {A : Type 0} (f g : A → Bool) (l : List A) (d : A) → ((i : ℕ) → i < length l → f (get_or l i d) ≡ g (get_or l i d)) → count f l ≡ count g l
unfolding count
count_same f g [] d h = refl
count_same f g (a ∷ l) d h = rw (h 0 (omega arith), count_same f g l d (λ i k. h (suc i) (omega arith)))

-- one element more at the end
pub count_last : {A : Type 0} (t : A → Bool) (l : List A) (a : A) → count t (l ++ (a ∷ [])) ≡ cond (t a) (count t l + 1) (count t l)
unfolding count
count_last t [] a = refl
count_last t (b ∷ l) a = rw (count_last t l a) (go (t a) (t b) (count t l))
  where
    go : (u v : Bool) (n : ℕ) → cond v (suc (cond u (n + 1) n)) (cond u (n + 1) n) ≡ cond u (cond v (suc n) n + 1) (cond v (suc n) n)
    go true true n = omega arith
    go true false n = refl
    go false true n = refl
    go false false n = refl
