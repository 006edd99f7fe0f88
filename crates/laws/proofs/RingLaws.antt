-- The two sides joined to a ring: its corners are among the locations, it comes back to the first of them, no location lies outside it, and its sides bend one way.
use Prim.Native.Nat.{◌<◌}
use native.Mathlib.Omega.{arith}
use mathlib.Core.Path.{◌≡◌, refl, sym, subst}
use mathlib.Core.Logic.{◌⊎◌, inl, inr, ⊎_elim}
use mathlib.Core.Bool.{Bool, true, false, cond}
use mathlib.Core.List.{List, [], ◌∷◌, reverse_aux}
use lib.ListN.{length, drop, length-reverse_aux}
use Rattle.model.specs.Lists.{Pairs, Steps, Among}
use Rattle.model.specs.Point.{Location}
use Rattle.model.specs.Polygon.{trim, extend, turns_left, turns_right, lower, upper, polygon, Left, Before}
use Rattle.laws.proofs.ChainLaws.{Holds, Bends, chain_holds, among_reverse, reverse_among}
use Rattle.laws.proofs.SideLaws.{NotAfter, Right, lower_laws, upper_laws}

-- the list begins or ends with an element
abbrev pub Begins : {A : Type 0} → A → List A → Type 0
Begins a [] = ⊥
Begins a (b ∷ l) = b ≡ a

abbrev pub Ends : {A : Type 0} → A → List A → Type 0
Ends a [] = ⊥
Ends a (b ∷ []) = b ≡ a
Ends a (b ∷ c ∷ l) = Ends a (c ∷ l)

-- two lists begin alike
abbrev pub Tops : {A : Type 0} → List A → List A → Type 0
Tops [] [] = Unit {0}
Tops [] (b ∷ t) = ⊥
Tops (a ∷ s) [] = ⊥
Tops (a ∷ s) (b ∷ t) = a ≡ b

ends_more : {A : Type 0} (z p : A) (s : List A) → Ends z s → Ends z (p ∷ s)
ends_more z p [] h = absurd h
ends_more z p (b ∷ r) h = h

module _ (f : Location → Location → Location → Bool) where
  trim_among : (q p : Location) (s : List Location) → Among q (trim f s p) → Among q s
  unfolding trim
  trim_among q p [] m = m
  trim_among q p (b ∷ []) m = m
  trim_among q p (b ∷ a ∷ r) m = go (f a b p) (trim_among q p (a ∷ r)) m
    where
      go : (t : Bool) → (Among q (trim f (a ∷ r) p) → Among q (a ∷ r)) → Among q (cond t (b ∷ a ∷ r) (trim f (a ∷ r) p)) → Among q (b ∷ a ∷ r)
      go true ih k = k
      go false ih k = inr (ih k)

  extend_among : (q : Location) (l s : List Location) → Among q (extend f s l) → Among q s ⊎ Among q l
  unfolding extend
  extend_among q [] s m = inl m
  extend_among q (p ∷ l) s m = ⊎_elim (λ k. ⊎_elim (λ e. inr (inl e)) (λ j. inl (trim_among q p s j)) k) (λ k. inr (inr k)) (extend_among q l (p ∷ trim f s p) m)

  trim_ends : (z p : Location) (s : List Location) → Ends z s → Ends z (trim f s p)
  unfolding trim
  trim_ends z p [] h = h
  trim_ends z p (b ∷ []) h = h
  trim_ends z p (b ∷ a ∷ r) h = go (f a b p) (trim_ends z p (a ∷ r) h)
    where
      go : (t : Bool) → Ends z (trim f (a ∷ r) p) → Ends z (cond t (b ∷ a ∷ r) (trim f (a ∷ r) p))
      go true ih = h
      go false ih = ih

  extend_ends : (z : Location) (l s : List Location) → Ends z s → Ends z (extend f s l)
  unfolding extend
  extend_ends z [] s h = h
  extend_ends z (p ∷ l) s h = extend_ends z l (p ∷ trim f s p) (ends_more z p (trim f s p) (trim_ends z p s h))

same_top : (f g : Location → Location → Location → Bool) (l s t : List Location) → Tops s t → Tops (extend f s l) (extend g t l)
unfolding extend
same_top f g [] s t h = h
same_top f g (p ∷ l) s t h = same_top f g l (p ∷ trim f s p) (p ∷ trim g t p) refl

module _ {A : Type 0} where
  ends_reverse : (z : A) (s l : List A) → Ends z l → Ends z (reverse_aux s l)
  ends_reverse z [] l h = h
  ends_reverse z (a ∷ s) l h = ends_reverse z s (a ∷ l) (ends_more z a l h)

  begins_reverse : (z c : A) (s l : List A) → Ends z (c ∷ s) → Begins z (reverse_aux s (c ∷ l))
  begins_reverse z c [] l h = h
  begins_reverse z c (b ∷ s) l h = begins_reverse z b s (c ∷ l) h

  steps_reverse : (P : A → A → Type 0) (c : A) (s l : List A) → Steps (λ b a. P a b) (c ∷ s) → Steps P (c ∷ l) → Steps P (reverse_aux s (c ∷ l))
  steps_reverse P c [] l g h = h
  steps_reverse P c (a ∷ s) l g h = steps_reverse P a s (c ∷ l) g.1 (g.0, h)

  pub steps_imp : (P Q : A → A → Type 0) → ((a b : A) → P a b → Q a b) → (l : List A) → Steps P l → Steps Q l
  steps_imp P Q f [] h = tt
  steps_imp P Q f (a ∷ []) h = tt
  steps_imp P Q f (a ∷ b ∷ l) h = (f a b h.0, steps_imp P Q f (b ∷ l) h.1)

  -- two chains from one location to another, joined
  joined : (P : A → A → Type 0) (s t : List A) → Tops s t → Steps (λ b a. P a b) s → Steps P t → Steps P (reverse_aux (drop 1 s) t)
  joined P [] [] e g h = h
  joined P [] (b ∷ t) e g h = absurd e
  joined P (a ∷ s) [] e g h = absurd e
  joined P (a ∷ s) (b ∷ t) e g h =
      subst (λ (z : A). Steps P (reverse_aux s (z ∷ t))) e (steps_reverse P a s t g (subst (λ (z : A). Steps P (z ∷ t)) (sym e) h))

pub tops : (l : List Location) → Tops (lower l) (upper l)
unfolding lower upper
tops l = same_top turns_left turns_right l [] [] tt

tail_among : {A : Type 0} (q : A) (s : List A) → Among q (drop 1 s) → Among q s
tail_among q [] m = m
tail_among q (a ∷ s) m = inr m

-- each side ends at the first location, and its own are among the locations
pub lower_ends : (a : Location) (l : List Location) → Ends a (lower (a ∷ l))
unfolding lower extend trim
lower_ends a l = extend_ends turns_left a l (a ∷ []) refl

pub upper_ends : (a : Location) (l : List Location) → Ends a (upper (a ∷ l))
unfolding upper extend trim
upper_ends a l = extend_ends turns_right a l (a ∷ []) refl

pub lower_among : (l : List Location) (q : Location) → Among q (lower l) → Among q l
unfolding lower
lower_among l q m = ⊎_elim (λ k. absurd k) (λ k. k) (extend_among turns_left q l [] m)

pub upper_among : (l : List Location) (q : Location) → Among q (upper l) → Among q l
unfolding upper
upper_among l q m = ⊎_elim (λ k. absurd k) (λ k. k) (extend_among turns_right q l [] m)

-- each corner is among the locations, in whatever order they stand
pub corners_among : (l : List Location) (q : Location) → Among q (polygon l) → Among q l
unfolding polygon
corners_among l q m =
    ⊎_elim (λ k. lower_among l q (tail_among q (lower l) k)) (upper_among l q) (reverse_among q (drop 1 (lower l)) (upper l) m)

-- the corners go from the first location round to it
pub record Closed (a : Location) (l : List Location) : Type 0 where
  pub begins : Begins a l
  pub ends : Ends a l

pub polygon_closed : (a : Location) (l : List Location) → Closed a (polygon (a ∷ l))
unfolding polygon
polygon_closed a l = record {
  begins = start (lower (a ∷ l)) (upper (a ∷ l)) (tops (a ∷ l)) (lower_ends a l);
  ends = ends_reverse a (drop 1 (lower (a ∷ l))) (upper (a ∷ l)) (upper_ends a l);
}
  where
    start : (s t : List Location) → Tops s t → Ends a s → Begins a (reverse_aux (drop 1 s) t)
    start [] t e h = absurd h
    start (b ∷ s) [] e h = absurd e
    start (b ∷ s) (c ∷ t) e h = subst (λ (z : Location). Begins a (reverse_aux s (z ∷ t))) e (begins_reverse a b s t h)

lower_holds : (l : List Location) → Pairs Before l → Holds Before NotAfter Left turns_left lower_laws (reverse_aux l []) (lower l)
unfolding lower
lower_holds l h = chain_holds Before NotAfter Left turns_left lower_laws l h

upper_holds : (l : List Location) → Pairs Before l → Holds Before NotAfter Right turns_right upper_laws (reverse_aux l []) (upper l)
unfolding upper
upper_holds l h = chain_holds Before NotAfter Right turns_right upper_laws l h

-- no location lies outside: each lies left of every edge, or on its line
pub lower_edges : (l : List Location) → Pairs Before l → Steps (λ b a. (q : Location) → Among q l → Left a b q) (lower l)
lower_edges l h = steps_imp _ _ (λ b a k q m. k q (among_reverse q l [] (inl m))) (lower l) (lower_holds l h).edges

pub upper_edges : (l : List Location) → Pairs Before l → Steps (λ b a. (q : Location) → Among q l → Left b a q) (upper l)
upper_edges l h = steps_imp _ _ (λ b a k q m. k q (among_reverse q l [] (inl m))) (upper l) (upper_holds l h).edges

pub none_outside : (l : List Location) → Pairs Before l → Steps (λ a b. (q : Location) → Among q l → Left a b q) (polygon l)
unfolding polygon
none_outside l h = joined (λ (a b : Location). (q : Location) → Among q l → Left a b q) (lower l) (upper l) (tops l) (lower_edges l h) (upper_edges l h)

-- the lower side turns left at each inner corner, the upper one right, and both ascend
pub lower_bends : (l : List Location) → Pairs Before l → Bends turns_left (lower l)
lower_bends l h = (lower_holds l h).bends

pub upper_bends : (l : List Location) → Pairs Before l → Bends turns_right (upper l)
upper_bends l h = (upper_holds l h).bends

pub lower_rises : (l : List Location) → Pairs Before l → Steps (λ b a. Before a b) (lower l)
lower_rises l h = (lower_holds l h).rises

pub upper_rises : (l : List Location) → Pairs Before l → Steps (λ b a. Before a b) (upper l)
upper_rises l h = (upper_holds l h).rises

-- of two locations or more the polygon goes on from the first
module _ (f : Location → Location → Location → Bool) where
  trim_some : (p : Location) (s : List Location) → 0 < length s → 0 < length (trim f s p)
  unfolding trim
  trim_some p [] h = h
  trim_some p (b ∷ []) h = h
  trim_some p (b ∷ a ∷ r) h = go (f a b p) (trim_some p (a ∷ r) (omega arith))
    where
      go : (t : Bool) → 0 < length (trim f (a ∷ r) p) → 0 < length (cond t (b ∷ a ∷ r) (trim f (a ∷ r) p))
      go true ih = omega arith
      go false ih = ih

  extend_long : (l s : List Location) → 1 < length s → 1 < length (extend f s l)
  unfolding extend
  extend_long [] s h = h
  extend_long (p ∷ l) s h = let k = trim_some p s (omega arith) in extend_long l (p ∷ trim f s p) (omega arith)

pub polygon_long : (a b : Location) (l : List Location) → 1 < length (polygon (a ∷ b ∷ l))
unfolding polygon upper extend trim
polygon_long a b l =
    omega (arith, length-reverse_aux (drop 1 (lower (a ∷ b ∷ l))) (upper (a ∷ b ∷ l)), extend_long turns_right l (b ∷ a ∷ []) (omega arith))

-- each corner is at another location than the next
pub polygon_moves : (l : List Location) → Pairs Before l → Steps (λ a b. Before a b ⊎ Before b a) (polygon l)
unfolding polygon
polygon_moves l h =
    joined (λ (a b : Location). Before a b ⊎ Before b a) (lower l) (upper l) (tops l)
    (steps_imp (λ (b a : Location). Before a b) (λ (b a : Location). Before a b ⊎ Before b a) (λ b a k. inl k) (lower l) (lower_rises l h))
    (steps_imp (λ (b a : Location). Before a b) (λ (b a : Location). Before b a ⊎ Before a b) (λ b a k. inr k) (upper l) (upper_rises l h))
