-- A side held in arrays: its end cut off and a location put on, and its shoelace sums; twice the area from what the code adds up.
use Prim.Native.Nat.{ℕ, zero, suc, ◌+◌, ◌*◌, ◌-◌, ◌%◌, ◌≤◌, ◌<◌, max, min}
use mathlib.Core.Path.{◌≡◌, refl, sym, ap, ◌∙◌}
use mathlib.Core.Logic.{◌≢◌}
use mathlib.Core.Bool.{Bool, true, false, cond}
use mathlib.Core.List.{List, [], ◌∷◌, ◌++◌}
use native.Mathlib.Omega.{arith}
use native.Mathlib.Numerals.{add-one}
use native.Mathlib.Nat.{mul-le-mul}
use lib.ListN.{length, get_or, set}
use lib.Seq.{get_or-set_same, get_or-set_other}
use Rattle.model.specs.Point.{Location, location}
use Rattle.model.specs.Polygon.{trim, extend, lower, upper, shoelace_plus, shoelace_minus, enclosed}
use Rattle.laws.proofs.AreaLaws.{plus_sides, minus_sides}
use Rattle.point_arrays.specs.PointArrays.{locations_in}
use Rattle.point_arrays.proofs.ReadLaws.{locations_more}
use Rattle.polygon.specs.Stacked.{stacked, turn_of, laced}

pub product_most : (a b : ℕ) → a < 65536 → b < 65536 → a * b ≤ 4294836225
product_most a b g h =
    let k : a * b ≤ 65535 * 65535 = mul-le-mul {n₂ = 65535} {m₂ = 65535} (omega arith) (omega arith) in
    omega arith

module _ (f : Location → Location → Location → Bool) (xs ys : List ℕ) (p : Location) where
  -- a side of two or more, whose end is at i: the test says whether it stays
  trim_test : (i : ℕ) (t : Bool) → 1 ≤ i
      → t ≡ f (location (get_or xs (i - 1) 0) (get_or ys (i - 1) 0)) (location (get_or xs i 0) (get_or ys i 0)) p
      → trim f (stacked xs ys (i + 1)) p ≡ cond t (stacked xs ys (i + 1)) (trim f (stacked xs ys i) p)
  unfolding trim stacked
  trim_test zero t h e = absurd (omega arith)
  trim_test (suc m) t h e =
      let e₁ : suc m - 1 ≡ m = omega arith in
      let g : t ≡ f (location (get_or xs m 0) (get_or ys m 0)) (location (get_or xs (suc m) 0) (get_or ys (suc m) 0)) p = rw e₁ at e in
      rw (add-one, g) refl

  pub trim_stays : (i : ℕ) (t : Bool) → 1 ≤ i
      → t ≡ f (location (get_or xs (i - 1) 0) (get_or ys (i - 1) 0)) (location (get_or xs i 0) (get_or ys i 0)) p → t ≡ true
      → trim f (stacked xs ys (i + 1)) p ≡ stacked xs ys (i + 1)
  trim_stays i t h e is = trim_test i t h e ∙ ap (λ (b : Bool). cond b (stacked xs ys (i + 1)) (trim f (stacked xs ys i) p)) is

  pub trim_less : (i : ℕ) (t : Bool) → 1 ≤ i
      → t ≡ f (location (get_or xs (i - 1) 0) (get_or ys (i - 1) 0)) (location (get_or xs i 0) (get_or ys i 0)) p → t ≡ false
      → trim f (stacked xs ys (i + 1)) p ≡ trim f (stacked xs ys i) p
  trim_less i t h e is = trim_test i t h e ∙ ap (λ (b : Bool). cond b (stacked xs ys (i + 1)) (trim f (stacked xs ys i) p)) is

  pub trim_short : (k : ℕ) → k < 2 → trim f (stacked xs ys k) p ≡ stacked xs ys k
  unfolding trim stacked
  trim_short zero h = refl
  trim_short (suc zero) h = refl
  trim_short (suc (suc m)) h = absurd (omega arith)

-- a store above the side leaves it
stacked_set : (xs ys : List ℕ) (j u v d : ℕ) → d ≤ j → stacked (set xs j u) (set ys j v) d ≡ stacked xs ys d
unfolding stacked
stacked_set xs ys j u v zero h = refl
stacked_set xs ys j u v (suc d) h =
    let ne : d ≢ j = omega arith in
    rw (get_or-set_other xs j d u 0 ne, get_or-set_other ys j d v 0 ne, stacked_set xs ys j u v d (omega arith))

stacked_more : (xs ys : List ℕ) (k u v : ℕ) → k < length xs → k < length ys → stacked (set xs k u) (set ys k v) (k + 1) ≡ location u v ∷ stacked xs ys k
unfolding stacked
stacked_more xs ys k u v g h = rw (add-one, get_or-set_same xs k u 0 g, get_or-set_same ys k v 0 h, stacked_set xs ys k u v k (omega arith))

extend_last : (f : Location → Location → Location → Bool) (s l : List Location) (p : Location) → extend f s (l ++ (p ∷ [])) ≡ p ∷ trim f (extend f s l) p
unfolding extend
extend_last f s [] p = refl
extend_last f s (q ∷ l) p = extend_last f (q ∷ trim f s q) l p

-- the side with the next point
module _ (f : Location → Location → Location → Bool) (xs ys sx sy : List ℕ) where
  pub side_none : stacked sx sy 0 ≡ extend f [] (locations_in xs ys 0)
  unfolding stacked locations_in extend
  side_none = refl

  pub side_more : (i d k u v : ℕ) → i < 256 → k < length sx → k < length sy → u ≡ get_or xs i 0 % 4096 → v ≡ get_or ys i 0 % 4096
      → trim f (stacked sx sy d) (location u v) ≡ stacked sx sy k → stacked sx sy d ≡ extend f [] (locations_in xs ys i)
      → stacked (set sx k u) (set sy k v) (k + 1) ≡ extend f [] (locations_in xs ys (i + 1))
  side_more i d k u v room gx gy eu ev cut was =
      stacked_more sx sy k u v gx gy ∙ ap (λ (s : List Location). location u v ∷ s) (sym cut)
      ∙ rw (locations_more xs ys i room, ← eu, ← ev, extend_last, was) refl

-- the shoelace sums of a side
pub laced_next : (us vs : List ℕ) (i : ℕ) → 1 ≤ i → laced us vs (i + 1) ≡ get_or us i 0 * get_or vs (i - 1) 0 + laced us vs i
unfolding laced
laced_next us vs zero h = absurd (omega arith)
laced_next us vs (suc i) h =
    let e : suc i - 1 ≡ i = omega arith in
    rw (add-one, e)

pub laced_end : (us vs : List ℕ) (i d : ℕ) → 1 ≤ i → d ≤ i → i ≤ max d 1 → laced us vs i ≡ laced us vs d
unfolding laced
laced_end us vs i zero h g k = let e : i ≡ 1 = omega arith in rw e
laced_end us vs i (suc d) h g k = let e : i ≡ suc d = omega arith in rw e

plus_stacked : (xs ys : List ℕ) (d : ℕ) → shoelace_plus (stacked xs ys d) ≡ laced xs ys d
unfolding shoelace_plus stacked laced
plus_stacked xs ys zero = refl
plus_stacked xs ys (suc zero) = refl
plus_stacked xs ys (suc (suc d)) = ap (λ t. get_or xs (suc d) 0 * get_or ys d 0 + t) (plus_stacked xs ys (suc d))

minus_stacked : (xs ys : List ℕ) (d : ℕ) → shoelace_minus (stacked xs ys d) ≡ laced ys xs d
unfolding shoelace_minus stacked laced
minus_stacked xs ys zero = refl
minus_stacked xs ys (suc zero) = refl
minus_stacked xs ys (suc (suc d)) = ap (λ t. get_or ys (suc d) 0 * get_or xs d 0 + t) (minus_stacked xs ys (suc d))

-- twice the area, from what the code adds up
pub enclosed_sums : (l : List Location) (xl yl xh yh : List ℕ) (dl dh f₁ f₂ g₁ g₂ : ℕ)
    → stacked xl yl dl ≡ extend (turn_of false) [] l → stacked xh yh dh ≡ extend (turn_of true) [] l
    → f₁ ≡ laced yl xl dl → f₂ ≡ laced xh yh dh → g₁ ≡ laced xl yl dl → g₂ ≡ laced yh xh dh
    → f₁ + f₂ - (g₁ + g₂) ≡ enclosed l
unfolding enclosed lower upper turn_of
enclosed_sums l xl yl xh yh dl dh f₁ f₂ g₁ g₂ low high e₁ e₂ e₃ e₄ =
    let a₁ : shoelace_minus (lower l) ≡ f₁ = ap shoelace_minus (sym low) ∙ minus_stacked xl yl dl ∙ sym e₁ in
    let a₂ : shoelace_plus (upper l) ≡ f₂ = ap shoelace_plus (sym high) ∙ plus_stacked xh yh dh ∙ sym e₂ in
    let a₃ : shoelace_plus (lower l) ≡ g₁ = ap shoelace_plus (sym low) ∙ plus_stacked xl yl dl ∙ sym e₃ in
    let a₄ : shoelace_minus (upper l) ≡ g₂ = ap shoelace_minus (sym high) ∙ minus_stacked xh yh dh ∙ sym e₄ in
    rw (plus_sides l, minus_sides l, a₁, a₂, a₃, a₄) refl

-- of the points that arrays hold, as many as a count says that is read as at most 256
pub clamped_same : (xs ys : List ℕ) (n m : ℕ) → m ≡ min n 256 → enclosed (locations_in xs ys m) ≡ enclosed (locations_in xs ys n)
unfolding locations_in
clamped_same xs ys n m e = let k : min m 256 ≡ min n 256 = omega arith in rw k
