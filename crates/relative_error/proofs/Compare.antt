-- Comparing floats that are not negative is comparing the fractions that they equal.
use mathlib.Core.Path.{◌≡◌, refl, sym, ap, ◌∙◌}
use mathlib.Core.Bool.{Bool, true, false, not, ◌&&◌, ◌||◌, false≢true}
use Prim.Native.Nat.{ℕ, ◌*◌, ◌≤◌, ◌<◌}
use native.Mathlib.Nat.{le_of_lt, le_of_eq, mul-one}
use lib.Dec.{T, leb, ltb, eqb, leb→le, le→leb, ltb→lt, eqb→eq, lit<}
use lib.Ieee.{Float, nan, inf, fin, le, is_nan}
use lib.Ieee.Exact.{HasValue}
use lib.Ieee.Order.{transfer, le_of_values}
use lib.Ieee.Positive.{num, den, den_pos, value→cross}
use Rattle.model.specs.Computed.{float}
use Rattle.relative_error.specs.Close.{plain}
use Rattle.relative_error.proofs.Laws.{int_value}
use Rattle.relative_error.proofs.Rounding.{plain_of_value}

-- a float that compares with another is no NaN
pub compared : (x y : Float) → le x y ≡ true → T (not (is_nan y))
unfolding le is_nan
compared nan nan h = absurd (false≢true h)
compared (inf s) nan h = absurd (false≢true h)
compared (fin s m e) nan h = absurd (false≢true h)
compared x (inf s) h = tt
compared x (fin s m e) h = tt

-- two tests that hold together
same_test : (s t : Bool) → (T s → T t) → (T t → T s) → s ≡ t
same_test true true h k = refl
same_test true false h k = absurd (h tt)
same_test false true h k = absurd (k tt)
same_test false false h k = refl

either : (a b : ℕ) → T (ltb a b || (eqb a b && true)) → a ≤ b
either a b t = go (ltb a b) (eqb a b) (ltb→lt a b) (eqb→eq a b) t
  where
    go : (s e : Bool) → (T s → a < b) → (T e → a ≡ b) → T (s || (e && true)) → a ≤ b
    go true e h k t = le_of_lt (h tt)
    go false true h k t = le_of_eq (k tt)
    go false false h k t = absurd t

-- by the floats' own fractions
own : (x : Float) → T (plain x) → HasValue x false (num x) (den x)
own nan p = absurd p
own (inf s) p = absurd p
own (fin true m e) p = absurd p
own (fin false m e) p = (refl, refl)

le_own : (x y : Float) → T (plain x) → T (plain y) → T (le x y) → num x * den y ≤ num y * den x
unfolding le
le_own nan y p q h = absurd p
le_own (inf s) y p q h = absurd p
le_own (fin true m e) y p q h = absurd p
le_own (fin false m e) nan p q h = absurd q
le_own (fin false m e) (inf t) p q h = absurd q
le_own (fin false m e) (fin true n d) p q h = absurd q
le_own (fin false m e) (fin false n d) p q h = either (num (fin false m e) * den (fin false n d)) (num (fin false n d) * den (fin false m e)) h

-- by any fractions that they equal
module _ (x y : Float) (a c b c' : ℕ) (C : 0 < c) (C' : 0 < c') (v : HasValue x false a c) (w : HasValue y false b c') where
  p : T (plain x)
  p = plain_of_value x a c v

  q : T (plain y)
  q = plain_of_value y b c' w

  into : num x * den y ≤ num y * den x → a * c' ≤ b * c
  into h = transfer a b c c' (num x) (num y) (den x) (den y) (den_pos x) (den_pos y) (sym (value→cross x a c v)) (sym (value→cross y b c' w)) h

  le_at : le x y ≡ leb (a * c') (b * c)
  le_at = same_test (le x y) (leb (a * c') (b * c)) (λ t. le→leb (a * c') (b * c) (into (le_own x y p q t))) (λ t. le_of_values x y a c b c' C C' v w (leb→le (a * c') (b * c) t))

-- a whole number up to 2 ^ 53 is at most a float that is not negative
pub int_le_float : (n : ℕ) → n ≤ 9007199254740992 → (x : Float) → T (plain x) → le (float n) x ≡ leb (n * den x) (num x)
int_le_float n N x p = le_at (float n) x n 1 (num x) (den x) (lit< tt) (den_pos x) (int_value n N) (own x p) ∙ ap (λ (z : ℕ). leb (n * den x) z) (mul-one (num x))
