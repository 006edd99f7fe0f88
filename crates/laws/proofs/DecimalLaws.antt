-- How many digits a number has; and what the text of a number states: read from the left it gives the number back, and it starts with no zero but of 0.
use mathlib.Core.Path.{◌≡◌, refl, sym, ◌∙◌}
use mathlib.Core.Bool.{Bool, true, false}
use mathlib.Core.Option.{some}
use Prim.Native.Nat.{ℕ, zero, suc, ◌+◌, ◌-◌, ◌*◌, ◌/◌, ◌%◌, ◌≤◌, ◌<◌, ◌^◌}
use native.Mathlib.Nat.{pow-succ'}
use native.Mathlib.Numerals.{add-one}
use native.Mathlib.Omega.{arith}
use mathlib.Core.List.{List, [], ◌∷◌, ◌++◌}
use lib.Dec.{ltb}
use lib.ListN.{length, get_or, length-append}
use borrow.Author.Tests.{ltb-true, ltb-false, lt-ltb, le-ltb, le-leb, eq-eqb, ne_eqb}
use Rattle.model.specs.Lists.{All}
use Rattle.model.specs.Decimal.{digits_of, places_in, places, decimal, stated_after, stated, cut}
use Rattle.laws.proofs.ListLaws.{all_append}

pub places_one : (most n : ℕ) → n < 10 → places_in (suc most) n ≡ 1
unfolding places_in
places_one most n h = rw (lt-ltb n 10 h)

pub places_more : (most n : ℕ) → 10 ≤ n → places_in (suc most) n ≡ suc (places_in most (n / 10))
unfolding places_in
places_more most n h = rw (le-ltb n 10 h)

-- what follows from a number below ten and from any other
by_ten : {X : Type 0} (n : ℕ) → (n < 10 → X) → (10 ≤ n → X) → X
by_ten {X = X} n f g = go (ltb n 10) refl
  where
    go : (t : Bool) → ltb n 10 ≡ t → X
    go true e = f (ltb-true n 10 e)
    go false e = g (ltb-false n 10 e)

pub tens_below : (k n : ℕ) → n < 10 ^ suc k → n / 10 < 10 ^ k
tens_below k n h = let p : n < 10 * 10 ^ k = rw pow-succ' at h in omega arith

below_power : (n : ℕ) → n < 10 ^ suc n
below_power zero = omega arith
below_power (suc n) = rw pow-succ' (omega (arith, below_power n))

places_same : (m k n : ℕ) → n < 10 ^ suc m → n < 10 ^ suc k → places_in (suc m) n ≡ places_in (suc k) n
places_same zero k n h g = places_one 0 n h ∙ sym (places_one k n h)
places_same (suc m) zero n h g = places_one (suc m) n g ∙ sym (places_one 0 n g)
places_same (suc m) (suc k) n h g =
    by_ten
    n
    (λ l. places_one (suc m) n l ∙ sym (places_one (suc k) n l))
    (λ l. rw (places_more (suc m) n l, places_more (suc k) n l, places_same m k (n / 10) (tens_below (suc m) n h) (tens_below (suc k) n g)))

-- every limit that holds a number counts its digits alike
pub places_in_lem : (m n : ℕ) → n < 10 ^ suc m → places n ≡ places_in (suc m) n
unfolding places
places_in_lem m n h = places_same n m n (below_power n) h

-- no more are counted than the limit
most_places : (most n : ℕ) → places_in most n ≤ most
unfolding places_in
most_places zero n = omega arith
most_places (suc most) n =
    by_ten n (λ l. rw (places_one most n l) (omega arith)) (λ l. rw (places_more most n l) (omega (arith, most_places most (n / 10))))

-- a number below a power of ten has no more digits than the power has zeros, and every number has one
pub places_most : (k n : ℕ) → n < 10 ^ suc k → places n ≤ suc k
places_most k n h = rw (places_in_lem k n h) (most_places (suc k) n)

pub places_some : (n : ℕ) → 0 < places n
unfolding places
places_some n = by_ten n (λ l. rw (places_one n n l) (omega arith)) (λ l. rw (places_more n n l) (omega arith))

places_hold : (most n : ℕ) → n < 10 ^ most → n < 10 ^ places_in most n
unfolding places_in
places_hold zero n h = h
places_hold (suc most) n h =
    by_ten n (λ l. rw (places_one most n l) l) (λ l. rw (places_more most n l, pow-succ') (omega (arith, places_hold most (n / 10) (tens_below most n h))))

pub length_digits : (k n : ℕ) → length (digits_of k n) ≡ k
unfolding digits_of
length_digits zero n = refl
length_digits (suc k) n = rw (length-append, length_digits k (n / 10)) (add-one k)

abbrev pub Digit : ℕ → Type 0
Digit c = (48 ≤ c) × (c ≤ 57)

pub all_digits : (k n : ℕ) → All Digit (digits_of k n)
unfolding digits_of
all_digits zero n = tt
all_digits (suc k) n = all_append Digit (digits_of k (n / 10)) ((48 + n % 10) ∷ []) (all_digits k (n / 10)) ((omega arith, omega arith), tt)

-- the number of digits that follow others of number a
abbrev value_after : ℕ → List ℕ → ℕ
value_after a [] = a
value_after a (c ∷ l) = value_after (10 * a + (c - 48)) l

value_more : (a : ℕ) (l : List ℕ) (c : ℕ) → value_after a (l ++ (c ∷ [])) ≡ 10 * value_after a l + (c - 48)
value_more a [] c = refl
value_more a (d ∷ l) c = value_more (10 * a + (d - 48)) l c

value_back : (width n : ℕ) → n < 10 ^ width → value_after 0 (digits_of width n) ≡ n
unfolding digits_of
value_back zero n h = omega arith
value_back (suc width) n h =
    rw (value_more 0 (digits_of width (n / 10)) (48 + n % 10), value_back width (n / 10) (tens_below width n h)) (omega arith)

stated_value : (a : ℕ) (l : List ℕ) → All Digit l → stated_after a l ≡ some (value_after a l)
stated_value a [] h = refl
stated_value a (c ∷ l) h = rw (le-leb 48 c h.0.0, le-leb c 57 h.0.1) (stated_value (10 * a + (c - 48)) l h.1)

stated_some : (l : List ℕ) → 0 < length l → All Digit l → stated l ≡ some (value_after 0 l)
stated_some [] p h = absurd (omega arith)
stated_some (c ∷ l) p h = stated_value 0 (c ∷ l) h

-- the digits of a width that holds the number
pub digits_back : (width n : ℕ) → 0 < width → n < 10 ^ width → stated (digits_of width n) ≡ some n
digits_back width n p h =
    rw (stated_some (digits_of width n) (rw length_digits p) (all_digits width n), value_back width n h)

pub decimal_back : (n : ℕ) → stated (decimal n) ≡ some n
unfolding places
decimal_back n = digits_back (places n) n (places_some n) (places_hold (suc n) n (below_power n))

first_same : (l m : List ℕ) → 48 < get_or l 0 0 → 48 < get_or (l ++ m) 0 0
first_same [] m h = absurd (omega arith)
first_same (c ∷ l) m h = h

first_above : (most n : ℕ) → 0 < n → n < 10 ^ most → 48 < get_or (digits_of (places_in most n) n) 0 0
unfolding digits_of
first_above zero n p h = absurd (omega arith)
first_above (suc most) n p h =
    by_ten
    n
    (λ l. rw (places_one most n l) (omega arith))
    (λ l. rw (places_more most n l) (first_same (digits_of (places_in most (n / 10)) (n / 10)) ((48 + n % 10) ∷ []) (first_above most (n / 10) (omega arith) (tens_below most n h))))

pub no_leading_zero : (n : ℕ) → 0 < n → 48 < get_or (decimal n) 0 0
unfolding places
no_leading_zero n p = first_above (suc n) n p (below_power n)

-- lists cut at a code: one that the list does not have, and the first one that it has
pub cut_none : (b : ℕ) (l : List ℕ) → All (λ c. c ≡ b → ⊥) l → cut b l ≡ l ∷ []
unfolding cut
cut_none b [] h = refl
cut_none b (c ∷ l) h = rw (ne_eqb c b h.0, cut_none b l h.1)

pub cut_at : (b : ℕ) (p l : List ℕ) → All (λ c. c ≡ b → ⊥) p → cut b (p ++ (b ∷ l)) ≡ p ∷ cut b l
unfolding cut
cut_at b [] l h = rw (eq-eqb b b refl)
cut_at b (c ∷ p) l h = rw (ne_eqb c b h.0, cut_at b p l h.1)
