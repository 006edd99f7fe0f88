-- Lexical order: what it says in numbers, as an order of single numbers, and that it is strict, transitive and total; of points by x, then y.
use mathlib.Core.Path.{◌≡◌, refl, sym, ap, ◌∙◌}
use mathlib.Core.Logic.{◌⊎◌, inl, inr}
use Prim.Native.Nat.{ℕ, ◌+◌, ◌*◌, ◌≤◌, ◌<◌}
use native.Mathlib.Nat.{mul-le-mul_right}
use native.Mathlib.Omega.{arith}
use native.Mathlib.Decide.{dec_le}
use mathlib.Core.Bool.{Bool, true, false, ◌&&◌, ◌||◌, true≢false, false≢true, and-eq-true_iff}
use lib.Dec.{ltb, eqb}
use borrow.Author.Tests.{ltb-true, ltb-false, lt-ltb, le-ltb, eqb-true, eqb-false, eq-eqb, ne_eqb}
use Rattle.model.specs.Point.{Point, at, lexical, precedes}

pub lexical_true : (m n : ℕ) (t : Bool) → lexical m n t ≡ true → (m < n) ⊎ ((m ≡ n) × (t ≡ true))
lexical_true m n t h = go (ltb m n) (eqb m n) refl refl h
  where
    go : (a b : Bool) → ltb m n ≡ a → eqb m n ≡ b → a || (b && t) ≡ true → (m < n) ⊎ ((m ≡ n) × (t ≡ true))
    go true b ea eb h = inl (ltb-true m n ea)
    go false true ea eb h = inr (eqb-true m n eb, h)
    go false false ea eb h = absurd (false≢true h)

pub less_lexical : (m n : ℕ) (t : Bool) → m < n → lexical m n t ≡ true
less_lexical m n t h = rw (lt-ltb m n h)

pub more_lexical : (m n : ℕ) (t : Bool) → n < m → lexical m n t ≡ false
more_lexical m n t h = rw (le-ltb m n (omega arith), ne_eqb m n (λ e. omega arith))

-- of equal numbers the rest decides
pub tie_lexical : (m n : ℕ) (t : Bool) → m ≡ n → lexical m n t ≡ t
tie_lexical m n t e = rw (le-ltb m n (omega arith), eq-eqb m n e)

-- as an order of numbers, where what decides last is below b
pub lexical_number : (b m n i j : ℕ) → i < b → j < b → lexical m n (ltb i j) ≡ ltb (m * b + i) (n * b + j)
lexical_number b m n i j h k = elim (dec_le n m) [
  | no g ↦
      let l : (m + 1) * b ≤ n * b = mul-le-mul_right b (omega arith) in
      less_lexical m n (ltb i j) (omega arith) ∙ sym (lt-ltb (m * b + i) (n * b + j) (omega arith))
  | yes g ↦ elim (dec_le m n) [
    | no l ↦
        let p : (n + 1) * b ≤ m * b = mul-le-mul_right b (omega arith) in
        more_lexical m n (ltb i j) (omega arith) ∙ sym (le-ltb (m * b + i) (n * b + j) (omega arith))
    | yes l ↦ tie_lexical m n (ltb i j) (omega arith) ∙ go (ltb i j) refl (ap (λ (q : ℕ). q * b) {x = m} {y = n} (omega arith))
  ]
]
  where
    go : (t : Bool) → ltb i j ≡ t → m * b ≡ n * b → t ≡ ltb (m * b + i) (n * b + j)
    go true e q = sym (lt-ltb (m * b + i) (n * b + j) (omega (arith, ltb-true i j e)))
    go false e q = sym (le-ltb (m * b + i) (n * b + j) (omega (arith, ltb-false i j e)))

pub equal_lexical : (m n : ℕ) (t : Bool) → m ≡ n → t ≡ true → lexical m n t ≡ true
equal_lexical m n t e h = tie_lexical m n t e ∙ h

pub lexical_trans : (m n k : ℕ) (s t u : Bool) → (s ≡ true → t ≡ true → u ≡ true) → lexical m n s ≡ true → lexical n k t ≡ true → lexical m k u ≡ true
lexical_trans m n k s t u rest p q = go (lexical_true m n s p) (lexical_true n k t q)
  where
    go : (m < n) ⊎ ((m ≡ n) × (s ≡ true)) → (n < k) ⊎ ((n ≡ k) × (t ≡ true)) → lexical m k u ≡ true
    go (inl a) (inl b) = less_lexical m k u (omega arith)
    go (inl a) (inr b) = less_lexical m k u (omega arith)
    go (inr a) (inl b) = less_lexical m k u (omega arith)
    go (inr a) (inr b) = equal_lexical m k u (omega arith) (rest a.1 b.1)

pub lexical_self : (m : ℕ) (t : Bool) → t ≡ false → lexical m m t ≡ false
lexical_self m t h = tie_lexical m m t refl ∙ h

-- where the rest decides one way or the other, so does the whole
lexical_other : (m n : ℕ) (t u : Bool) → (m ≡ n → t ≡ false → u ≡ true) → lexical m n t ≡ false → lexical n m u ≡ true
lexical_other m n t u rest h = go (ltb m n) (eqb m n) refl refl h
  where
    go : (a b : Bool) → ltb m n ≡ a → eqb m n ≡ b → a || (b && t) ≡ false → lexical n m u ≡ true
    go true b ea eb h = absurd (true≢false h)
    go false true ea eb h = let e = eqb-true m n eb in equal_lexical n m u (omega arith) (rest e h)
    go false false ea eb h = less_lexical n m u (omega (arith, ltb-false m n ea, eqb-false m n eb))

less_trans : (m n k : ℕ) → ltb m n ≡ true → ltb n k ≡ true → ltb m k ≡ true
less_trans m n k p q = lt-ltb m k (omega (arith, ltb-true m n p, ltb-true n k q))

pub precedes_trans : (a b c : Point) → precedes a b ≡ true → precedes b c ≡ true → precedes a c ≡ true
precedes_trans a b c =
    lexical_trans a.x b.x c.x (ltb a.y b.y) (ltb b.y c.y) (ltb a.y c.y) (less_trans a.y b.y c.y)

pub precedes_self : (a : Point) → precedes a a ≡ false
precedes_self a = lexical_self a.x (ltb a.y a.y) (le-ltb a.y a.y (omega arith))

pub at_same : (x y : ℕ) (a : Point) → at x y a ≡ true → (a.x ≡ x) × (a.y ≡ y)
at_same x y a h = let t = (and-eq-true_iff (eqb a.x x) (eqb a.y y)).0 h in (eqb-true a.x x t.0, eqb-true a.y y t.1)

-- of two points at different locations one precedes the other
pub precedes_other : (a b : Point) → at a.x a.y b ≡ false → precedes a b ≡ false → precedes b a ≡ true
precedes_other a b apart = lexical_other a.x b.x (ltb a.y b.y) (ltb b.y a.y) by_y
  where
    by_y : a.x ≡ b.x → ltb a.y b.y ≡ false → ltb b.y a.y ≡ true
    by_y e f =
        let k : eqb b.y a.y ≡ false = rw (eq-eqb b.x a.x (sym e)) at apart in
        lt-ltb b.y a.y (omega (arith, ltb-false a.y b.y f, eqb-false b.y a.y k))
