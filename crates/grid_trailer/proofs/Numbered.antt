-- A test of some number from 1 to n, as the definitions count it.
use mathlib.Core.Path.{◌≡◌, refl}
use Prim.Native.Nat.{ℕ, zero, suc, ◌+◌}
use native.Mathlib.Omega.{arith}
use mathlib.Core.Bool.{Bool, true, false, ◌||◌}
use Rattle.std.specs.List.{list_any, range_with_len}
use Rattle.model.specs.GridReading.{some_below}

or_none : (t : Bool) → t || false ≡ t
or_none true = refl
or_none false = refl

or_assoc : (s t u : Bool) → s || (t || u) ≡ (s || t) || u
or_assoc true t u = refl
or_assoc false t u = refl

one_more : (f : ℕ → Bool) (a n : ℕ) → list_any f (range_with_len a (suc n)) ≡ list_any f (range_with_len a n) || f (a + n)
one_more f a zero = let e : a + 0 ≡ a = omega arith in rw (e) (or_none (f a))
one_more f a (suc n) =
    let e : a + 1 + n ≡ a + suc n = omega arith in
    rw (one_more f (a + 1) n, e) (or_assoc (f a) (list_any f (range_with_len (a + 1) n)) (f (a + suc n)))

pub some_numbered : (f : ℕ → Bool) (n : ℕ) → list_any f (range_with_len 1 n) ≡ some_below (λ k. f (suc k)) n
unfolding some_below
some_numbered f zero = refl
some_numbered f (suc n) =
    let e : 1 + n ≡ suc n = omega arith in
    rw (one_more f 1 n, some_numbered f n, e)
