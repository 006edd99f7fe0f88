-- Keys are ordered as their points are, and give back what they were made of.
use mathlib.Core.Path.{◌≡◌, refl, sym, ap, ◌∙◌}
use Prim.Native.Nat.{ℕ, zero, suc, ◌+◌, ◌*◌, ◌/◌, ◌%◌, ◌≤◌, ◌<◌}
use native.Mathlib.Numerals.{add-one}
use native.Mathlib.Omega.{arith}
use mathlib.Core.Bool.{Bool, true, false, cond}
use mathlib.Core.List.{List, [], ◌∷◌, ◌++◌, map, map-append}
use lib.Dec.{ltb}
use lib.ListN.{length, take, get_or, replicate}
use lib.Seq.{take-suc}
use borrow.Author.Tests.{ltb-true, ltb-false, lt-ltb, le-ltb}
use Rattle.model.specs.Lists.{All}
use Rattle.model.specs.Point.{lexical}
use Rattle.model.specs.Order.{insert, sort_onto, sort}
use Rattle.laws.proofs.PrecedesLaws.{lexical_number}
use Rattle.laws.proofs.SortLaws.{onto_last, take_insert}
use Rattle.candidates.specs.Keys.{key_of, key_at, no_key, first_keys}

module _ (d x y i : ℕ) (hx : x < 4096) (hy : y < 4096) (hi : i < 256) where
  pub key_squared : key_of d x y i / 4294967296 ≡ d
  key_squared = omega arith

  pub key_x : key_of d x y i / 1048576 % 4096 ≡ x
  key_x = omega arith

  pub key_y : key_of d x y i / 256 % 4096 ≡ y
  key_y = omega arith

  pub key_index : key_of d x y i % 256 ≡ i
  key_index = omega arith

-- of two numbers with an index behind each, the later index does not come first where they are equal
later : (m n i j : ℕ) → i < j → j < 256 → ltb m n ≡ ltb (m * 256 + j) (n * 256 + i)
later m n i j h k = go (ltb m n) refl
  where
    go : (t : Bool) → ltb m n ≡ t → t ≡ ltb (m * 256 + j) (n * 256 + i)
    go true e = sym (lt-ltb (m * 256 + j) (n * 256 + i) (omega (arith, ltb-true m n e)))
    go false e = sym (le-ltb (m * 256 + j) (n * 256 + i) (omega (arith, ltb-false m n e)))

-- the point of a later index comes first exactly where its key is less
pub key_before : (d x y i e u v j : ℕ) → x < 4096 → y < 4096 → u < 4096 → v < 4096 → i < j → j < 256
    → lexical e d (lexical u x (ltb v y)) ≡ ltb (key_of e u v j) (key_of d x y i)
key_before d x y i e u v j hx hy hu hv h k =
    let a : e * 16777216 + (u * 4096 + v) ≡ (e * 4096 + u) * 4096 + v = omega arith in
    let b : d * 16777216 + (x * 4096 + y) ≡ (d * 4096 + x) * 4096 + y = omega arith in
    ap (lexical e d) (lexical_number 4096 u x v y hv hy)
    ∙ rw (a, b) at (lexical_number 16777216 e d (u * 4096 + v) (x * 4096 + y) (omega arith) (omega arith))
    ∙ later ((e * 4096 + u) * 4096 + v) ((d * 4096 + x) * 4096 + y) i j h k

-- a number that none is above stays behind all
module _ (m : ℕ) where
  put_alone : (k e : ℕ) → e ≤ m → insert ltb e (replicate k m) ≡ e ∷ replicate k m
  unfolding insert
  put_alone zero e h = refl
  put_alone (suc k) e h = go (ltb e m) refl (put_alone k e h)
    where
      go : (t : Bool) → ltb e m ≡ t → insert ltb e (replicate k m) ≡ e ∷ replicate k m
          → cond t (e ∷ m ∷ replicate k m) (m ∷ insert ltb e (replicate k m)) ≡ e ∷ m ∷ replicate k m
      go true g ih = refl
      go false g ih = let same : m ≡ e = omega (arith, ltb-false e m g) in rw (ih, same)

  put_before : (k e : ℕ) (l : List ℕ) → e ≤ m → insert ltb e (l ++ replicate k m) ≡ insert ltb e l ++ replicate k m
  unfolding insert
  put_before k e [] h = put_alone k e h
  put_before k e (b ∷ l) h = go (ltb e b) (put_before k e l h)
    where
      go : (t : Bool) → insert ltb e (l ++ replicate k m) ≡ insert ltb e l ++ replicate k m
          → cond t (e ∷ b ∷ (l ++ replicate k m)) (b ∷ insert ltb e (l ++ replicate k m)) ≡ cond t (e ∷ b ∷ l) (b ∷ insert ltb e l) ++ replicate k m
      go true ih = refl
      go false ih = ap {B = List ℕ} (λ r. b ∷ r) ih

  onto_before : (k : ℕ) (d l : List ℕ) → All (λ e. e ≤ m) l → sort_onto ltb (d ++ replicate k m) l ≡ sort_onto ltb d l ++ replicate k m
  unfolding sort_onto
  onto_before k d [] h = refl
  onto_before k d (e ∷ l) h = rw (put_before k e d h.0) (onto_before k (insert ltb e d) l h.1)

  pub sort_before : (k : ℕ) (l : List ℕ) → All (λ e. e ≤ m) l → sort_onto ltb (replicate k m) l ≡ sort ltb l ++ replicate k m
  unfolding sort
  sort_before k l h = onto_before k [] l h

-- the first keys of one index more
pub first_more : (xs ys squares at : List ℕ) (j : ℕ) → j < length at
    → first_keys xs ys squares (take (j + 1) at) ≡ take 11 (insert ltb (key_at xs ys squares (get_or at j 0)) (first_keys xs ys squares (take j at)))
unfolding first_keys
first_more xs ys squares at j h =
    let keys = map (key_at xs ys squares) (take j at) in
    rw (add-one, take-suc at j 0 h, map-append, onto_last)
    (sym (take_insert ltb 11 (key_at xs ys squares (get_or at j 0)) (sort_onto ltb (replicate 11 no_key) keys)))
