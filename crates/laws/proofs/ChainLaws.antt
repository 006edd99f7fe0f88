-- A chain that goes on to locations in ascending order has all of them on one side, whichever side it turns to. Side a b q: q lies on that side of the line from a to b, or on it.
use mathlib.Core.Path.{◌≡◌, refl, sym, subst}
use mathlib.Core.Logic.{◌⊎◌, inl, inr, ⊎_elim}
use mathlib.Core.Bool.{Bool, true, false, cond}
use mathlib.Core.List.{List, [], ◌∷◌, reverse_aux}
use Rattle.model.specs.Lists.{All, Pairs, Steps, Among}
use Rattle.model.specs.Point.{Location}
use Rattle.model.specs.Polygon.{trim, extend}

-- what a chain's proof needs of an order and a side
pub record Laws (Lt Le : Location → Location → Type 0) (Side : Location → Location → Location → Type 0) (turn : Location → Location → Location → Bool) : Type 0 where
  pub split : (a b : Location) → Le a b ⊎ Lt b a
  pub weak : (a b : Location) → Lt a b → Le a b
  pub opens : (a b c : Location) → turn a b c ≡ true → Side a b c
  pub shuts : (a b c : Location) → turn a b c ≡ false → Side a c b
  pub end : (a b : Location) → Side a b b
  pub same : (a b p : Location) → Le a b → Le b a → Side a p b
  -- what lies beyond the next edge's line lies beyond this one's
  pub far : (a b c p : Location) → Lt a b → Lt b c → Lt c p → Side a b c → Side b c p → Side a b p
  pub near : (s t p q : Location) → Lt s t → Lt t p → Le q t → Side s t q → Side s t p → Side t p q
  pub across : (t b p q : Location) → Lt t b → Lt t p → Le t q → Side t b q → Side t p b → Side t p q

-- a chain turns at each of its inner locations
abbrev pub Bends : (Location → Location → Location → Bool) → List Location → Type 0
Bends turn [] = Unit {0}
Bends turn (c ∷ []) = Unit {0}
Bends turn (c ∷ b ∷ []) = Unit {0}
Bends turn (c ∷ b ∷ a ∷ l) = (turn a b c ≡ true) × Bends turn (b ∷ a ∷ l)

module _ (Lt Le : Location → Location → Type 0) (Side : Location → Location → Location → Type 0) (turn : Location → Location → Location → Bool) (law : Laws Lt Le Side turn) where
  -- every location of d lies on the side of the edge from a to b
  abbrev Edge : List Location → Location → Location → Type 0
  Edge d b a = (q : Location) → Among q d → Side a b q

  abbrev Rise : Location → Location → Type 0
  Rise b a = Lt a b

  -- the chain's first location is the least
  abbrev Base : List Location → List Location → Type 0
  Base d [] = Unit {0}
  Base d (b ∷ []) = (q : Location) → Among q d → Le b q
  Base d (b ∷ a ∷ r) = Base d (a ∷ r)

  -- what holds of a chain s that has gone along the locations d
  pub record Holds (d s : List Location) : Type 0 where
    pub inside : (q : Location) → Among q s → Among q d
    pub rises : Steps Rise s
    pub bends : Bends turn s
    pub base : Base d s
    pub edges : Steps (Edge d) s

  -- p lies on the side of each edge of the chain, the last two locations of which are b and a
  beyond : (p b a : Location) (r : List Location) → Lt b p → Side a b p → Steps Rise (b ∷ a ∷ r) → Bends turn (b ∷ a ∷ r) → ((q : Location) → Among q (a ∷ r) → Lt q p) → Steps (λ v u. Side u v p) (b ∷ a ∷ r)
  beyond p b a [] hb side rise bend below = (side, tt)
  beyond p b a (z ∷ r) hb side rise bend below =
      let lt : Lt a p = below a (inl refl) in
      (side, beyond p a z r lt (law.far z a b p rise.1.0 rise.0 hb (law.opens z a b bend.0) side) rise.1 bend.1 (λ q m. below q (inr m)))

  module _ (d : List Location) (p : Location) (below : (q : Location) → Among q d → Lt q p) where
    -- what trimming leaves: with p added it is a chain again
    pub record Trimmed (s : List Location) : Type 0 where
      pub old : Holds d s
      pub fresh : Steps (λ v u. Side u v p) s
      pub last : Steps (Edge d) (p ∷ s)
      pub rise : Steps Rise (p ∷ s)
      pub bend : Bends turn (p ∷ s)
      pub base : Base d (p ∷ s)

    -- the chain from b on, with all that lies after b on the side of the edge to p
    trimmed : (b : Location) (r : List Location) → Holds d (b ∷ r) → ((q : Location) → Among q d → Le b q → Side b p q) → Trimmed (trim turn (b ∷ r) p)
    unfolding trim
    trimmed b [] h after = record {
      old = h;
      fresh = tt;
      last = (λ q m. after q m (h.base q m), tt);
      rise = (below b (h.inside b (inl refl)), tt);
      bend = tt;
      base = h.base;
    }
    trimmed b (a ∷ r) h after = go (turn a b p) refl (λ side. trimmed a r shorter (nearer side))
      where
        shorter : Holds d (a ∷ r)
        shorter = record {
          inside = λ q m. h.inside q (inr m);
          rises = h.rises.1;
          bends = less r h.bends;
          base = h.base;
          edges = h.edges.1;
        }
          where
            less : (l : List Location) → Bends turn (b ∷ a ∷ l) → Bends turn (a ∷ l)
            less [] k = tt
            less (z ∷ l) k = k.1

        nearer : Side a p b → (q : Location) → Among q d → Le a q → Side a p q
        nearer side q m le = law.across a b p q h.rises.0 (below a (h.inside a (inr (inl refl)))) le (h.edges.0 q m) side

        kept : turn a b p ≡ true → Trimmed (b ∷ a ∷ r)
        kept e = record {
          old = h;
          fresh = beyond p b a r (below b (h.inside b (inl refl))) (law.opens a b p e) h.rises h.bends (λ q m. below q (h.inside q (inr m)));
          last = (
            λ q m. ⊎_elim
                (λ le. law.near a b p q h.rises.0 (below b (h.inside b (inl refl))) le (h.edges.0 q m) (law.opens a b p e))
                (λ lt. after q m (law.weak b q lt))
                (law.split q b),
            h.edges,
          );
          rise = (below b (h.inside b (inl refl)), h.rises);
          bend = (e, h.bends);
          base = h.base;
        }

        go : (t : Bool) → turn a b p ≡ t → (Side a p b → Trimmed (trim turn (a ∷ r) p)) → Trimmed (cond t (b ∷ a ∷ r) (trim turn (a ∷ r) p))
        go true e rest = kept e
        go false e rest = rest (law.shuts a b p e)

  le_self : (p : Location) → Le p p
  le_self p = ⊎_elim (λ h. h) (λ h. law.weak p p h) (law.split p p)

  base_more : (d : List Location) (p : Location) (s : List Location) → ((q : Location) → Among q s → Le q p) → Base d s → Base (p ∷ d) s
  base_more d p [] up h = tt
  base_more d p (b ∷ []) up h = λ q m. ⊎_elim (λ e. subst (λ (z : Location). Le b z) (sym e) (up b (inl refl))) (λ k. h q k) m
  base_more d p (b ∷ a ∷ r) up h = base_more d p (a ∷ r) (λ q m. up q (inr m)) h

  edges_more : (d : List Location) (p : Location) (s : List Location) → Steps (Edge d) s → Steps (λ v u. Side u v p) s → Steps (Edge (p ∷ d)) s
  edges_more d p [] h g = tt
  edges_more d p (b ∷ []) h g = tt
  edges_more d p (b ∷ a ∷ r) h g = (λ q m. ⊎_elim (λ e. subst (λ (z : Location). Side a b z) (sym e) g.0) (λ k. h.0 q k) m, edges_more d p (a ∷ r) h.1 g.1)

  own : (p : Location) (s : List Location) → Steps (λ v u. Side u v p) s → Steps (λ v u. Side u v p) (p ∷ s)
  own p [] h = tt
  own p (a ∷ r) h = (law.end a p, h)

  -- the chain with p added
  longer : (d : List Location) (p : Location) (below : (q : Location) → Among q d → Lt q p) (s : List Location) → Trimmed d p below s → Holds (p ∷ d) (p ∷ s)
  longer d p below s h = record {
    inside = λ q m. ⊎_elim (λ e. inl e) (λ k. inr (h.old.inside q k)) m;
    rises = h.rise;
    bends = h.bend;
    base = base_more d p (p ∷ s) (λ q m. ⊎_elim (λ e. subst (λ (z : Location). Le z p) (sym e) (le_self p)) (λ k. law.weak q p (below q (h.old.inside q k))) m) h.base;
    edges = edges_more d p (p ∷ s) h.last (own p s h.fresh);
  }

  -- no location stands after the chain's last one
  abbrev pub Last : List Location → List Location → Type 0
  Last d [] = Unit {0}
  Last d (t ∷ r) = (q : Location) → Among q d → Le q t

  extended : (l d : List Location) (t : Location) (r : List Location) → Holds d (t ∷ r) → ((q : Location) → Among q d → Le q t) → Pairs Lt l
      → All (λ p. (q : Location) → Among q d → Lt q p) l → Holds (reverse_aux l d) (extend turn (t ∷ r) l) × Last (reverse_aux l d) (extend turn (t ∷ r) l)
  unfolding extend
  extended [] d t r h top up below = (h, top)
  extended (p ∷ l) d t r h top up below =
      let g : Trimmed d p below.0 (trim turn (t ∷ r) p) = trimmed d p below.0 t r h (λ q m le. law.same t q p le (top q m)) in
      extended l (p ∷ d) p (trim turn (t ∷ r) p) (longer d p below.0 (trim turn (t ∷ r) p) g)
      (λ q m. ⊎_elim (λ e. subst (λ (z : Location). Le z p) (sym e) (le_self p)) (λ k. law.weak q p (below.0 q k)) m)
      up.1 (both l up.0 below.1)
    where
      both : (m : List Location) → All (Lt p) m → All (λ z. (q : Location) → Among q d → Lt q z) m → All (λ z. (q : Location) → Among q (p ∷ d) → Lt q z) m
      both [] u v = tt
      both (z ∷ m) u v = (λ q k. ⊎_elim (λ e. subst (λ (w : Location). Lt w z) (sym e) u.0) (λ j. v.0 q j) k, both m u.1 v.1)

  -- the chain of locations in ascending order
  chain_both : (l : List Location) → Pairs Lt l → Holds (reverse_aux l []) (extend turn [] l) × Last (reverse_aux l []) (extend turn [] l)
  unfolding extend trim
  chain_both [] up = (record { inside = λ q m. m; rises = tt; bends = tt; base = tt; edges = tt }, tt)
  chain_both (a ∷ l) up = extended l (a ∷ []) a [] first (λ q m. ⊎_elim (λ e. subst (λ (z : Location). Le z a) (sym e) (le_self a)) (λ k. absurd k) m) up.1 (one l up.0)
    where
      first : Holds (a ∷ []) (a ∷ [])
      first = record {
        inside = λ q m. m;
        rises = tt;
        bends = tt;
        base = λ q m. ⊎_elim (λ e. subst (λ (z : Location). Le a z) (sym e) (le_self a)) (λ k. absurd k) m;
        edges = tt;
      }

      one : (m : List Location) → All (Lt a) m → All (λ z. (q : Location) → Among q (a ∷ []) → Lt q z) m
      one [] u = tt
      one (z ∷ m) u = (λ q k. ⊎_elim (λ e. subst (λ (w : Location). Lt w z) (sym e) u.0) (λ j. absurd j) k, one m u.1)

  pub chain_holds : (l : List Location) → Pairs Lt l → Holds (reverse_aux l []) (extend turn [] l)
  chain_holds l up = (chain_both l up).0

  pub chain_last : (l : List Location) → Pairs Lt l → Last (reverse_aux l []) (extend turn [] l)
  chain_last l up = (chain_both l up).1

-- the reversed list has the same elements
pub among_reverse : {A : Type 0} (q : A) (l d : List A) → Among q l ⊎ Among q d → Among q (reverse_aux l d)
among_reverse q [] d m = ⊎_elim (λ k. absurd k) (λ k. k) m
among_reverse q (a ∷ l) d m = among_reverse q l (a ∷ d) (⊎_elim (λ k. ⊎_elim (λ e. inr (inl e)) (λ j. inl j) k) (λ k. inr (inr k)) m)

pub reverse_among : {A : Type 0} (q : A) (l d : List A) → Among q (reverse_aux l d) → Among q l ⊎ Among q d
reverse_among q [] d m = inr m
reverse_among q (a ∷ l) d m = ⊎_elim (λ k. inl (inr k)) (λ k. ⊎_elim (λ e. inl (inl e)) (λ j. inr j) k) (reverse_among q l (a ∷ d) m)
