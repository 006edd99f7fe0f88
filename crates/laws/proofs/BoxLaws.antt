-- What locations enclose is no more than an upright rectangle around them; with that, document 02's sentences of the area: `area-is`.
use Prim.Native.Nat.{ℕ, ◌+◌, ◌*◌, ◌-◌, ◌≤◌}
use mathlib.Core.Path.{◌≡◌, refl, sym, subst}
use mathlib.Core.Logic.{inl, inr}
use mathlib.Core.List.{List, [], ◌∷◌}
use native.Mathlib.Omega.{arith}
use native.Mathlib.Nat.{mul-le-mul_left, mul-le-mul_right, add-sub_of_le}
use Rattle.model.specs.Lists.{All, Pairs, Steps, Among}
use Rattle.model.specs.Point.{Location}
use Rattle.model.specs.Polygon.{lower, upper, polygon, shoelace_plus, shoelace_minus, enclosed, Before, IsArea}
use Rattle.laws.proofs.ListLaws.{all_among}
use Rattle.laws.proofs.SideLaws.{before_x}
use Rattle.laws.proofs.RingLaws.{Ends, Tops, tops, steps_imp, lower_rises, upper_rises, lower_ends, upper_ends, lower_among, upper_among}
use Rattle.laws.proofs.AreaLaws.{enclosed_whole, line_enclosed, plus_sides, minus_sides}
use Rattle.laws.proofs.FlatLaws.{first_least, flat_only}

abbrev Ascent : Location → Location → Type 0
Ascent b a = a.x ≤ b.x

-- the area below one edge, between heights
edge_low : (ax d ay ty k : ℕ) → k ≤ ay → k ≤ ty → ty * ax + ax * ay + 2 * k * (ax + d) ≤ (ax + d) * ay + (ax + d) * ty + 2 * k * ax
edge_low ax d ay ty k g h =
    let u : d * k ≤ d * ay = mul-le-mul_left d g in
    let v : d * k ≤ d * ty = mul-le-mul_left d h in
    omega arith

edge_high : (ax d ay ty k : ℕ) → ay ≤ k → ty ≤ k → (ax + d) * ay + (ax + d) * ty + 2 * k * ax ≤ ty * ax + ax * ay + 2 * k * (ax + d)
edge_high ax d ay ty k g h =
    let u : d * ay ≤ d * k = mul-le-mul_left d g in
    let v : d * ty ≤ d * k = mul-le-mul_left d h in
    omega arith

low_at : (a t : Location) (k : ℕ) → a.x ≤ t.x → k ≤ a.y → k ≤ t.y → t.y * a.x + a.x * a.y + 2 * k * t.x ≤ t.x * a.y + t.x * t.y + 2 * k * a.x
low_at a t k x g h = rw (add-sub_of_le x) at (edge_low a.x (t.x - a.x) a.y t.y k g h)

high_at : (a t : Location) (k : ℕ) → a.x ≤ t.x → a.y ≤ k → t.y ≤ k → t.x * a.y + t.x * t.y + 2 * k * a.x ≤ t.y * a.x + a.x * a.y + 2 * k * t.x
high_at a t k x g h = rw (add-sub_of_le x) at (edge_high a.x (t.x - a.x) a.y t.y k g h)

chain_low : (k : ℕ) (t z : Location) (r : List Location) → Steps Ascent (t ∷ r) → ((q : Location) → Among q (t ∷ r) → k ≤ q.y) → Ends z (t ∷ r)
    → shoelace_minus (t ∷ r) + z.x * z.y + 2 * k * t.x ≤ shoelace_plus (t ∷ r) + t.x * t.y + 2 * k * z.x
unfolding shoelace_plus shoelace_minus
chain_low k t z [] h g e = subst (λ (q : Location). 0 + q.x * q.y + 2 * k * t.x ≤ 0 + t.x * t.y + 2 * k * q.x) e (omega arith)
chain_low k t z (a ∷ r) h g e =
    let ih = chain_low k a z r h.1 (λ q m. g q (inr m)) e in
    let s = low_at a t k h.0 (g a (inr (inl refl))) (g t (inl refl)) in
    omega arith

chain_high : (k : ℕ) (t z : Location) (r : List Location) → Steps Ascent (t ∷ r) → ((q : Location) → Among q (t ∷ r) → q.y ≤ k) → Ends z (t ∷ r)
    → shoelace_plus (t ∷ r) + t.x * t.y + 2 * k * z.x ≤ shoelace_minus (t ∷ r) + z.x * z.y + 2 * k * t.x
unfolding shoelace_plus shoelace_minus
chain_high k t z [] h g e = subst (λ (q : Location). 0 + t.x * t.y + 2 * k * q.x ≤ 0 + q.x * q.y + 2 * k * t.x) e (omega arith)
chain_high k t z (a ∷ r) h g e =
    let ih = chain_high k a z r h.1 (λ q m. g q (inr m)) e in
    let s = high_at a t k h.0 (g a (inr (inl refl))) (g t (inl refl)) in
    omega arith

between : (area low wide ax y₀ y₁ cx x₁ : ℕ) → low ≡ y₁ - y₀ → wide ≡ cx - ax → y₀ ≤ y₁ → ax ≤ cx → cx ≤ x₁
    → area + 2 * y₀ * cx + 2 * y₁ * ax ≤ 2 * y₁ * cx + 2 * y₀ * ax → area ≤ 2 * ((x₁ - ax) * (y₁ - y₀))
between area low wide ax y₀ y₁ cx x₁ e f g h k s =
    let y : y₁ ≡ y₀ + low = omega arith in
    let c : cx ≡ ax + wide = omega arith in
    let s' : area + 2 * y₀ * (ax + wide) + 2 * (y₀ + low) * ax ≤ 2 * (y₀ + low) * (ax + wide) + 2 * y₀ * ax = rw (y, c) at s in
    let w : wide ≤ x₁ - ax = omega arith in
    let m : wide * low ≤ (x₁ - ax) * low = mul-le-mul_right low w in
    rw (← e) (omega arith)

module _ (a : Location) (l : List Location) (x₁ y₀ y₁ : ℕ) (up : Pairs Before (a ∷ l))
    (box : (q : Location) → Among q (a ∷ l) → (a.x ≤ q.x) × (q.x ≤ x₁) × (y₀ ≤ q.y) × (q.y ≤ y₁)) where
  sides_fit : (s t : List Location) → Tops s t → Steps Ascent s → Steps Ascent t → Ends a s → Ends a t
      → ((q : Location) → Among q s → Among q (a ∷ l)) → ((q : Location) → Among q t → Among q (a ∷ l))
      → enclosed (a ∷ l) + (shoelace_plus s + shoelace_minus t) ≡ shoelace_minus s + shoelace_plus t → enclosed (a ∷ l) ≤ 2 * ((x₁ - a.x) * (y₁ - y₀))
  sides_fit [] t e g h u v m n w = absurd u
  sides_fit (c ∷ s) [] e g h u v m n w = absurd v
  sides_fit (c ∷ s) (d ∷ t) e g h u v m n w =
      let low = chain_low y₀ c a s g (λ q k. (box q (m q k)).2) u in
      let high = chain_high y₁ d a t h (λ q k. (box q (n q k)).3) v in
      let same : d ≡ c = sym e in
      let high' : shoelace_plus (d ∷ t) + c.x * c.y + 2 * y₁ * a.x ≤ shoelace_minus (d ∷ t) + a.x * a.y + 2 * y₁ * c.x
      = subst (λ (q : Location). shoelace_plus (d ∷ t) + q.x * q.y + 2 * y₁ * a.x ≤ shoelace_minus (d ∷ t) + a.x * a.y + 2 * y₁ * q.x) same high in
      let b = box c (m c (inl refl)) in
      between (enclosed (a ∷ l)) (y₁ - y₀) (c.x - a.x) a.x y₀ y₁ c.x x₁ refl refl (omega arith) b.0 b.1 (omega arith)

  -- the first location's x is on the left
  enclosed_box : enclosed (a ∷ l) ≤ 2 * ((x₁ - a.x) * (y₁ - y₀))
  unfolding polygon
  enclosed_box =
      sides_fit (lower (a ∷ l)) (upper (a ∷ l)) (tops (a ∷ l))
      (steps_imp _ _ (λ p q k. before_x q p k) (lower (a ∷ l)) (lower_rises (a ∷ l) up)) (steps_imp _ _ (λ p q k. before_x q p k) (upper (a ∷ l)) (upper_rises (a ∷ l) up))
      (lower_ends a l) (upper_ends a l) (lower_among (a ∷ l)) (upper_among (a ∷ l)) total
    where
      total : enclosed (a ∷ l) + (shoelace_plus (lower (a ∷ l)) + shoelace_minus (upper (a ∷ l))) ≡ shoelace_minus (lower (a ∷ l)) + shoelace_plus (upper (a ∷ l))
      total =
          let w = enclosed_whole (a ∷ l) up in
          let f = plus_sides (a ∷ l) in
          let g = minus_sides (a ∷ l) in
          omega arith

wider : (a l x₀ x₁ h : ℕ) → x₀ ≤ l → a ≤ 2 * ((x₁ - l) * h) → a ≤ 2 * ((x₁ - x₀) * h)
wider a l x₀ x₁ h g k = let m : (x₁ - l) * h ≤ (x₁ - x₀) * h = mul-le-mul_right h (omega arith) in omega arith

pub area_is : (l : List Location) → Pairs Before l → IsArea l (enclosed l)
area_is l up = record { flat = (flat_only l up, line_enclosed l); most = fits l up }
  where
    fits : (l : List Location) → Pairs Before l → (x₀ x₁ y₀ y₁ : ℕ) → All (λ q. (x₀ ≤ q.x) × (q.x ≤ x₁) × (y₀ ≤ q.y) × (q.y ≤ y₁)) l → enclosed l ≤ 2 * ((x₁ - x₀) * (y₁ - y₀))
    fits [] up x₀ x₁ y₀ y₁ h = let z = line_enclosed [] (λ a b c m n o. absurd m) in omega arith
    fits (a ∷ l) up x₀ x₁ y₀ y₁ h =
        wider (enclosed (a ∷ l)) a.x x₀ x₁ (y₁ - y₀) h.0.0
        (enclosed_box a l x₁ y₀ y₁ up (λ q m. let k = all_among _ (a ∷ l) h q m in ((first_least a q l up.0 m).x_le, k.1, k.2, k.3)))
