-- The laws of `Close`: one for each operation on floats that are not negative. k counts roundings, and d and u bound the exact fraction from below and above.
-- An operation asks for `small k d u` of what k, d and u come to before its own rounding: `tt` proves that where they are numerals.
use mathlib.Core.Path.{◌≡◌, refl, sym, ap, ◌∙◌, subst}
use mathlib.Core.Bool.{Bool, true, false, ◌&&◌, cond}
use Prim.Native.Nat.{ℕ, ◌+◌, ◌*◌, ◌^◌, ◌≤◌, ◌<◌, max}
use native.Mathlib.Nat.{le_of_eq, lt_irrefl, add_comm, mul_comm, mul-pos, le-max_left, le-max_right}
use native.Mathlib.Omega.{arith}
use lib.Dec.{T, leb, eqb, leb→le, le→leb, eqb→eq, lit<}
use lib.IntN.{pos}
use lib.Ieee.{Float, nan, inf, fin, binary64, round, add, mul, div, of_int, in_float, up, down}
use lib.Ieee.Fits.{and_i, and_l, and_r}
use lib.Ieee.Exact.{HasValue}
use lib.Ieee.Back.{round_whole}
use lib.Ieee.Positive.{num, den, den_pos, first_pos, value→cross}
use Rattle.model.specs.Fraction.{Fraction, whole, plus, times, over}
use Rattle.model.specs.Computed.{float}
use Rattle.relative_error.specs.Close.{Range, hi, lo, Under, plain, Close}
use Rattle.relative_error.proofs.Ratio.{chain, more, product, turned, total, above_zero}
use Rattle.relative_error.proofs.Rounding.{rounded, plain_of_value}
use Rattle.relative_error.proofs.Ranges.{wider, of_whole, of_times, of_over, of_plus, of_near}

abbrev pub small : ℕ → ℕ → ℕ → Bool
small k d u = leb k 256 && leb d 899 && leb u 899

pub is_small : (k d u : ℕ) → k ≤ 256 → d ≤ 899 → u ≤ 899 → T (small k d u)
is_small k d u K D U = and_i (leb k 256 && leb d 899) (leb u 899) (and_i (leb k 256) (leb d 899) (le→leb k 256 K) (le→leb d 899 D)) (le→leb u 899 U)

next : (d : ℕ) → d ≤ 899 → d + 1 ≤ 900
next d h = omega arith

-- weakening, and another way to write the fraction
pub weaken : {k d u k' d' u' : ℕ} {x : Float} {f : Fraction} → k ≤ k' → d ≤ d' → u ≤ u' → Close k d u x f → Close k' d' u' x f
weaken {k} {d} {u} {k'} {d'} {u'} {x} {f} K D U c = record {
  finite = c.finite;
  proper = c.proper;
  above = more k k' f.top f.bot (num x) (den x) K c.above;
  below = more k k' (num x) (den x) f.top f.bot K c.below;
  range = wider D U c.range;
}

-- a / c is near f, and is rounded
finish : (k d u a c : ℕ) (f : Fraction) → T (small k d u) → 0 < c → 0 < f.bot → Under k a c f.top f.bot → Under k f.top f.bot a c → Range d u f
    → Close (k + 1) d u (round binary64 false a c) f
finish k d u a c f s C F x y r =
    let K : k ≤ 256 = leb→le k 256 (and_l (leb k 256) (leb d 899) (and_l (leb k 256 && leb d 899) (leb u 899) s)) in
    let D : d ≤ 899 = leb→le d 899 (and_r (leb k 256) (leb d 899) (and_l (leb k 256 && leb d 899) (leb u 899) s)) in
    let U : u ≤ 899 = leb→le u 899 (and_r (leb k 256 && leb d 899) (leb u 899) s) in
    let z = round binary64 false a c in
    let o : Close 1 900 900 z (record { top = a; bot = c }) = rounded (record { top = a; bot = c }) C (wider (next d D) (next u U) (of_near k a c K F x y r)) in
    record {
      finite = o.finite;
      proper = F;
      above = chain k 1 f.top f.bot a c (num z) (den z) C y o.above;
      below = subst (λ (i : ℕ). Under i (num z) (den z) f.top f.bot) (add_comm 1 k) (chain 1 k (num z) (den z) a c f.top f.bot C o.below x);
      range = r;
    }

-- the operations, by the operands' fractions
mul_is : (x y : Float) → T (plain x) → T (plain y) → mul binary64 x y ≡ round binary64 false (num x * num y) (den x * den y)
unfolding mul
mul_is nan y p q = absurd p
mul_is (inf s) y p q = absurd p
mul_is (fin true m e) y p q = absurd p
mul_is (fin false m e) nan p q = absurd q
mul_is (fin false m e) (inf t) p q = absurd q
mul_is (fin false m e) (fin true n d) p q = absurd q
mul_is (fin false m e) (fin false n d) p q = refl

add_is : (x y : Float) → T (plain x) → T (plain y) → add binary64 x y ≡ round binary64 false (num x * den y + num y * den x) (den x * den y)
unfolding add
add_is nan y p q = absurd p
add_is (inf s) y p q = absurd p
add_is (fin true m e) y p q = absurd p
add_is (fin false m e) nan p q = absurd q
add_is (fin false m e) (inf t) p q = absurd q
add_is (fin false m e) (fin true n d) p q = absurd q
add_is (fin false m e) (fin false n d) p q = refl

not_zero : (n : ℕ) (v w : Float) → 0 < n → cond (eqb n 0) v w ≡ w
not_zero n v w h = go (eqb n 0) (eqb→eq n 0)
  where
    go : (b : Bool) → (T b → n ≡ 0) → cond b v w ≡ w
    go true e = absurd (lt_irrefl 0 (subst (λ (z : ℕ). 0 < z) (e tt) h))
    go false e = refl

div_is : (x y : Float) → T (plain x) → T (plain y) → 0 < num y → div binary64 x y ≡ round binary64 false (num x * den y) (den x * num y)
unfolding div
div_is nan y p q h = absurd p
div_is (inf s) y p q h = absurd p
div_is (fin true m e) y p q h = absurd p
div_is (fin false m e) nan p q h = absurd q
div_is (fin false m e) (inf t) p q h = absurd q
div_is (fin false m e) (fin true n d) p q h = absurd q
div_is (fin false m e) (fin false n d) p q h =
    not_zero n (cond (eqb m 0) nan (inf false)) (round binary64 false (m * up e * down d) (n * up d * down e)) (first_pos n (up d) h)
    ∙ ap (λ (z : ℕ). round binary64 false (m * up e * down d) z) (mul_comm (n * up d) (down e))

-- the product, the quotient and the sum of two close floats
pub mul_close : {k d u k' d' u' : ℕ} {x y : Float} {f g : Fraction} → Close k d u x f → Close k' d' u' y g → T (small (k + k') (d + d') (u + u'))
    → Close (k + k' + 1) (d + d') (u + u') (mul binary64 x y) (times f g)
unfolding times
mul_close {k} {d} {u} {k'} {d'} {u'} {x} {y} {f} {g} a b s =
    subst (λ (z : Float). Close (k + k' + 1) (d + d') (u + u') z (times f g)) (sym (mul_is x y a.finite b.finite))
    (finish (k + k') (d + d') (u + u') (num x * num y) (den x * den y) (times f g) s (mul-pos (den_pos x) (den_pos y)) (mul-pos a.proper b.proper)
    (product k k' (num x) (den x) f.top f.bot (num y) (den y) g.top g.bot a.below b.below)
    (product k k' f.top f.bot (num x) (den x) g.top g.bot (num y) (den y) a.above b.above)
    (of_times a.range b.range))

pub div_close : {k d u k' d' u' : ℕ} {x y : Float} {f g : Fraction} → 0 < g.top → Close k d u x f → Close k' d' u' y g → T (small (k + k') (d + u') (u + d'))
    → Close (k + k' + 1) (d + u') (u + d') (div binary64 x y) (over f g)
unfolding over
div_close {k} {d} {u} {k'} {d'} {u'} {x} {y} {f} {g} G a b s =
    let Y : 0 < num y = above_zero k' g.top g.bot (num y) (den y) (den_pos y) b.above G in
    subst (λ (z : Float). Close (k + k' + 1) (d + u') (u + d') z (over f g)) (sym (div_is x y a.finite b.finite Y))
    (finish (k + k') (d + u') (u + d') (num x * den y) (den x * num y) (over f g) s (mul-pos (den_pos x) Y) (mul-pos a.proper G)
    (product k k' (num x) (den x) f.top f.bot (den y) (num y) g.bot g.top a.below (turned k' g.top g.bot (num y) (den y) b.above))
    (product k k' f.top f.bot (num x) (den x) g.bot g.top (den y) (num y) a.above (turned k' (num y) (den y) g.top g.bot b.below))
    (of_over G a.range b.range))

-- of two floats that are alike in k, d and u
pub add_like : {k d u : ℕ} {x y : Float} {f g : Fraction} → Close k d u x f → Close k d u y g → T (small k d (u + 1))
    → Close (k + 1) d (u + 1) (add binary64 x y) (plus f g)
unfolding plus
add_like {k} {d} {u} {x} {y} {f} {g} a b s =
    subst (λ (z : Float). Close (k + 1) d (u + 1) z (plus f g)) (sym (add_is x y a.finite b.finite))
    (finish k d (u + 1) (num x * den y + num y * den x) (den x * den y) (plus f g) s (mul-pos (den_pos x) (den_pos y)) (mul-pos a.proper b.proper)
    (total k (num x) (den x) f.top f.bot (num y) (den y) g.top g.bot a.below b.below)
    (total k f.top f.bot (num x) (den x) g.top g.bot (num y) (den y) a.above b.above)
    (of_plus a.range b.range))

pub add_close : {k d u k' d' u' : ℕ} {x y : Float} {f g : Fraction} → Close k d u x f → Close k' d' u' y g → T (small (max k k') (max d d') (max u u' + 1))
    → Close (max k k' + 1) (max d d') (max u u' + 1) (add binary64 x y) (plus f g)
add_close {k} {d} {u} {k'} {d'} {u'} a b s =
    add_like (weaken (le-max_left k k') (le-max_left d d') (le-max_left u u') a) (weaken (le-max_right k k') (le-max_right d d') (le-max_right u u') b) s

-- a whole number as a float
pub int_value : (n : ℕ) → n ≤ 9007199254740992 → HasValue (float n) false n 1
unfolding float of_int
int_value n h = round_whole binary64 false n h

-- what Rattle asks of such a cast
pub int_fits : (n : ℕ) → n ≤ 9007199254740992 → T (in_float binary64 (pos n))
unfolding in_float
int_fits n h = le→leb n 9007199254740992 h

scaled : (a b t : ℕ) → a ≡ b → a * t ≤ b * t
scaled a b t e = le_of_eq (ap (λ (z : ℕ). z * t) e)

pub int_close : (n u : ℕ) → n ≤ 9007199254740992 → n ≤ 2 ^ u → Close 0 0 u (float n) (whole n)
unfolding whole lo hi
int_close n u h b =
    let x = float n in
    let v = int_value n h in
    let e : num x * 1 ≡ n * den x = value→cross x n 1 v in
    record {
      finite = plain_of_value x n 1 v;
      proper = lit< tt;
      above = scaled (n * den x) (num x * 1) 1 (sym e);
      below = scaled (num x * 1) (n * den x) 1 e;
      range = of_whole n u b;
    }
