-- Left and right turns among locations in order: what a chain's proof needs of the lower side (`lower-laws`) and of the upper one (`upper-laws`), and what follows where there is no turn.
use Prim.Native.Nat.{ℕ, zero, suc, ◌+◌, ◌*◌, ◌-◌, ◌≤◌, ◌<◌}
use mathlib.Core.Path.{◌≡◌, refl, ap}
use mathlib.Core.Logic.{◌⊎◌, inl, inr, ⊎_elim}
use native.Mathlib.Nat.{mul-le-mul_left, mul-le-mul_right, le_of_mul-le-mul_right, add-sub_of_le}
use native.Mathlib.Decide.{dec_le}
use native.Mathlib.Omega.{arith}
use borrow.Author.Tests.{ltb-true, ltb-false}
use Rattle.model.specs.Point.{Location}
use Rattle.model.specs.Polygon.{turns_left, turns_right, cross_plus, cross_minus, Left, Before}
use Rattle.laws.proofs.ChainLaws.{Laws}

-- A vector with the x difference ux and the y difference up - um; Turn u v: v points along u, or left of it.
abbrev Turn : ℕ → ℕ → ℕ → ℕ → ℕ → ℕ → Type 0
Turn ux up um vx vp vm = up * vx + ux * vm ≤ um * vx + ux * vp

-- the identity behind all: vx (u × w) = wx (u × v) + ux (v × w)
turn_across : (ux up um vx vp vm wx wp wm : ℕ) → 0 < vx → Turn ux up um vx vp vm → Turn vx vp vm wx wp wm → Turn ux up um wx wp wm
turn_across ux up um vx vp vm wx wp wm pos g h =
    let g' : (up * vx + ux * vm) * wx ≤ (um * vx + ux * vp) * wx = mul-le-mul_right wx g in
    let h' : (vp * wx + vx * wm) * ux ≤ (vm * wx + vx * wp) * ux = mul-le-mul_right ux h in
    let k : (up * wx + ux * wm) * vx ≤ (um * wx + ux * wp) * vx = omega arith in
    le_of_mul-le-mul_right k pos

-- v points straight up
turn_up : (ux up um vp vm wx wp wm : ℕ) → vm < vp → (wx ≡ 0 → wm ≤ wp) → Turn 0 vp vm wx wp wm → Turn ux up um wx wp wm
turn_up ux up um vp vm wx wp wm v w h = elim (dec_le wx 0) [
  | yes z ↦
      let e : wx ≡ 0 = omega arith in
      let k : ux * wm ≤ ux * wp = mul-le-mul_left ux (w e) in
      rw e (omega arith)
  | no z ↦
      let k : suc vm * wx ≤ vp * wx = mul-le-mul_right wx v in
      absurd (omega arith)
]

turn_trans : (ux up um vx vp vm wx wp wm : ℕ) → (vx ≡ 0 → vm < vp) → (wx ≡ 0 → wm ≤ wp)
    → Turn ux up um vx vp vm → Turn vx vp vm wx wp wm → Turn ux up um wx wp wm
turn_trans ux up um zero vp vm wx wp wm v w g h = turn_up ux up um vp vm wx wp wm (v refl) w h
turn_trans ux up um (suc vx) vp vm wx wp wm v w g h = turn_across ux up um (suc vx) vp vm wx wp wm (omega arith) g h

abbrev L : ℕ → ℕ → ℕ → ℕ → ℕ → ℕ → Type 0
L ax ay bx by cx cy = ay * bx + by * cx + cy * ax ≤ ax * by + bx * cy + cx * ay

-- the vectors from a to b and from c to d
abbrev Way : Location → Location → Location → Location → Type 0
Way a b c d = Turn (b.x - a.x) b.y a.y (d.x - c.x) d.y c.y

module _ (ay by cy : ℕ) where
  fan_to : (ax u v : ℕ) → L ax ay (ax + u) by (ax + v) cy → Turn u by ay v cy ay
  fan_to ax u v h = omega arith

  fan_from : (ax u v : ℕ) → Turn u by ay v cy ay → L ax ay (ax + u) by (ax + v) cy
  fan_from ax u v h = omega arith

  chain_to : (ax u v : ℕ) → L ax ay (ax + u) by (ax + u + v) cy → Turn u by ay v cy by
  chain_to ax u v h = omega arith

  chain_from : (ax u v : ℕ) → Turn u by ay v cy by → L ax ay (ax + u) by (ax + u + v) cy
  chain_from ax u v h = omega arith

  back_to : (ax u v : ℕ) → L (ax + u) by ax ay (ax + u + v) cy → Turn v cy by u by ay
  back_to ax u v h = omega arith

  back_from : (ax u v : ℕ) → Turn v cy by u by ay → L (ax + u) by ax ay (ax + u + v) cy
  back_from ax u v h = omega arith

-- from s to t, and q: as vectors to t
cofan_to : (sx sy qx qy ty u z : ℕ) → sx + u ≡ qx + z → L sx sy (sx + u) ty qx qy → Turn z ty qy u ty sy
cofan_to sx sy qx qy ty u z e h =
    let e₁ : (sx + u) * qy ≡ (qx + z) * qy = ap (λ t. t * qy) e in
    let e₂ : (sx + u) * ty ≡ (qx + z) * ty = ap (λ t. t * ty) e in
    let e₃ : (sx + u) * sy ≡ (qx + z) * sy = ap (λ t. t * sy) e in
    omega arith

cofan_from : (sx sy qx qy ty u z : ℕ) → sx + u ≡ qx + z → Turn z ty qy u ty sy → L sx sy (sx + u) ty qx qy
cofan_from sx sy qx qy ty u z e h =
    let e₁ : (sx + u) * qy ≡ (qx + z) * qy = ap (λ t. t * qy) e in
    let e₂ : (sx + u) * ty ≡ (qx + z) * ty = ap (λ t. t * ty) e in
    let e₃ : (sx + u) * sy ≡ (qx + z) * sy = ap (λ t. t * sy) e in
    omega arith

-- from a location to another: x does not fall, and where it stays, y does not fall
pub record NotAfter (a b : Location) : Type 0 where
  pub x_le : a.x ≤ b.x
  pub y_le : a.x ≡ b.x → a.y ≤ b.y

pub before_x : (a b : Location) → Before a b → a.x ≤ b.x
before_x a b h = ⊎_elim (λ k. omega arith) (λ k. omega arith) h

before_y : (a b : Location) → Before a b → a.x ≡ b.x → a.y < b.y
before_y a b h e = ⊎_elim (λ k. absurd (omega arith)) (λ k. k.1) h

left_fan : (a b c : Location) → a.x ≤ b.x → a.x ≤ c.x → Left a b c → Way a b a c
left_fan a b c g h k =
    fan_to a.y b.y c.y a.x (b.x - a.x) (c.x - a.x)
    (rw (add-sub_of_le g, add-sub_of_le h) k.le)

fan_left : (a b c : Location) → a.x ≤ b.x → a.x ≤ c.x → Way a b a c → Left a b c
fan_left a b c g h k =
    record { le = rw (add-sub_of_le g, add-sub_of_le h) at (fan_from a.y b.y c.y a.x (b.x - a.x) (c.x - a.x) k) }

module _ (a b c : Location) (g : a.x ≤ b.x) (h : b.x ≤ c.x) where
  left_chain : Left a b c → Way a b b c
  left_chain k = chain_to a.y b.y c.y a.x (b.x - a.x) (c.x - b.x) (rw (add-sub_of_le g, add-sub_of_le h) k.le)

  chain_left : Way a b b c → Left a b c
  chain_left k = record { le = rw (add-sub_of_le g, add-sub_of_le h) at (chain_from a.y b.y c.y a.x (b.x - a.x) (c.x - b.x) k) }

  pub left_back : Left b a c → Way b c a b
  left_back k = back_to a.y b.y c.y a.x (b.x - a.x) (c.x - b.x) (rw (add-sub_of_le g, add-sub_of_le h) k.le)

  pub back_left : Way b c a b → Left b a c
  back_left k = record { le = rw (add-sub_of_le g, add-sub_of_le h) at (back_from a.y b.y c.y a.x (b.x - a.x) (c.x - b.x) k) }

pub left_cofan : (s t q : Location) → s.x ≤ t.x → q.x ≤ t.x → Left s t q → Way q t s t
left_cofan s t q g h k =
    cofan_to s.x s.y q.x q.y t.y (t.x - s.x) (t.x - q.x) (omega arith) (rw (add-sub_of_le g) k.le)

-- the same three, from another one on
pub left_next : (a b c : Location) → Left a b c → Left b c a
left_next a b c h = record { le = let k = h.le in omega arith }

pub way_trans : (a b c d e f : Location) → Before c d → NotAfter e f → Way a b c d → Way c d e f → Way a b e f
way_trans a b c d e f v w g h =
    turn_trans (b.x - a.x) b.y a.y (d.x - c.x) d.y c.y (f.x - e.x) f.y e.y
    (λ z. before_y c d v (let k = before_x c d v in omega arith)) (λ z. w.y_le (let k = w.x_le in omega arith)) g h

pub weaken : (a b : Location) → Before a b → NotAfter a b
weaken a b h = record { x_le = before_x a b h; y_le = λ e. let k = before_y a b h e in omega arith }

order : (a b : Location) → NotAfter a b ⊎ Before b a
order a b = elim (dec_le a.x b.x) [
  | yes g ↦ elim (dec_le b.x a.x) [
    | yes h ↦ elim (dec_le a.y b.y) [
      | yes k ↦ inl (record { x_le = g; y_le = λ e. k })
      | no k ↦ inr (inr (omega arith, omega arith))
    ]
    | no h ↦ inl (record { x_le = g; y_le = λ e. absurd (omega arith) })
  ]
  | no g ↦ inr (inl (omega arith))
]

-- a and b are one location
same_left : (a b p : Location) → NotAfter a b → NotAfter b a → (Left a p b) × (Left p a b)
same_left a b p g h =
    let u = g.x_le in
    let v = h.x_le in
    let ex : a.x ≡ b.x = omega arith in
    let e : b.x ≡ a.x = omega arith in
    let k = g.y_le ex in
    let m = h.y_le e in
    let ey : b.y ≡ a.y = omega arith in
    (record { le = rw (e, ey) (omega arith) }, record { le = rw (e, ey) (omega arith) })

pub lower_laws : Laws Before NotAfter Left turns_left
unfolding turns_left
lower_laws = record {
  split = order;
  weak = weaken;
  opens = λ a b c e. record { le = let k = ltb-true (cross_minus a b c) (cross_plus a b c) e in omega arith };
  shuts = λ a b c e. record { le = let k = ltb-false (cross_minus a b c) (cross_plus a b c) e in omega arith };
  end = λ a b. record { le = omega arith };
  same = λ a b p g h. (same_left a b p g h).0;
  far = λ a b c p ab bc cp g h.
      let x₁ = before_x a b ab in
      let x₂ = before_x b c bc in
      let x₃ = before_x c p cp in
      let x₄ : b.x ≤ p.x = omega arith in
      let bp : NotAfter b p = far_off b c p bc cp in
      chain_left a b p x₁ x₄ (way_trans a b b c b p bc bp (left_chain a b c x₁ x₂ g) (left_fan b c p x₂ x₄ h));
  near = λ s t p q st tp qt g h.
      let x₁ = before_x s t st in
      let x₂ = before_x t p tp in
      let x₃ = qt.x_le in
      left_next q t p (chain_left q t p x₃ x₂ (way_trans q t s t t p st (weaken t p tp) (left_cofan s t q x₁ x₃ g) (left_chain s t p x₁ x₂ h)));
  across = λ t b p q tb tp tq g h.
      let x₁ = before_x t b tb in
      let x₂ = before_x t p tp in
      let x₃ = tq.x_le in
      fan_left t p q x₂ x₃ (way_trans t p t b t q tb tq (left_fan t p b x₂ x₁ h) (left_fan t b q x₁ x₃ g));
}
  where
    far_off : (b c p : Location) → Before b c → Before c p → NotAfter b p
    far_off b c p g h =
        let x₁ = before_x b c g in
        let x₂ = before_x c p h in
        record {
          x_le = omega arith;
          y_le = λ e. let y₁ = before_y b c g (omega arith) in let y₂ = before_y c p h (omega arith) in omega arith;
        }

abbrev pub Right : Location → Location → Location → Type 0
Right a b c = Left b a c

pub upper_laws : Laws Before NotAfter Right turns_right
unfolding turns_right
upper_laws = record {
  split = order;
  weak = weaken;
  opens = λ a b c e. record { le = let k = ltb-true (cross_plus a b c) (cross_minus a b c) e in omega arith };
  shuts = λ a b c e. record { le = let k = ltb-false (cross_plus a b c) (cross_minus a b c) e in omega arith };
  end = λ a b. record { le = omega arith };
  same = λ a b p g h. (same_left a b p g h).1;
  far = λ a b c p ab bc cp g h.
      let x₁ = before_x a b ab in
      let x₂ = before_x b c bc in
      let x₃ = before_x c p cp in
      let x₄ : b.x ≤ p.x = omega arith in
      back_left a b p x₁ x₄ (way_trans b p b c a b bc (weaken a b ab) (left_fan b p c x₄ x₂ (left_next c b p h)) (left_back a b c x₁ x₂ g));
  near = λ s t p q st tp qt g h.
      let x₁ = before_x s t st in
      let x₂ = before_x t p tp in
      let x₃ = qt.x_le in
      left_next q p t (left_next t q p (back_left q t p x₃ x₂ (way_trans t p s t q t st qt (left_back s t p x₁ x₂ h) (left_cofan q t s x₃ x₁ (left_next s q t (left_next t s q g))))));
  across = λ t b p q tb tp tq g h.
      let x₁ = before_x t b tb in
      let x₂ = before_x t p tp in
      let x₃ = tq.x_le in
      left_next q p t (left_next t q p (fan_left t q p x₃ x₂ (way_trans t q t b t p tb (weaken t p tp) (left_fan t q b x₃ x₁ (left_next b t q g)) (left_fan t b p x₁ x₂ (left_next p t b h)))));
}

-- what lies on the line through two locations
pub line_through : (a v p q : Location) → Before a v → NotAfter a p → NotAfter a q → cross_plus a v p ≡ cross_minus a v p → cross_plus a v q ≡ cross_minus a v q → cross_plus a p q ≡ cross_minus a p q
line_through a v p q av ap aq e f =
    let x₁ = before_x a v av in
    let x₂ = ap.x_le in
    let x₃ = aq.x_le in
    let one : (r s : Location) → NotAfter a r → NotAfter a s → cross_plus a v r ≡ cross_minus a v r → cross_plus a v s ≡ cross_minus a v s → Left a r s
    = λ r s ar as' g h.
    fan_left a r s ar.x_le as'.x_le (way_trans a r a v a s av as'
    (left_fan a r v ar.x_le x₁ (record { le = omega arith })) (left_fan a v s x₁ as'.x_le (record { le = omega arith }))) in
    let g = (one p q ap aq e f).le in
    let h = (one q p aq ap f e).le in
    omega arith

cofan_left : (s t q : Location) → s.x ≤ t.x → q.x ≤ t.x → Way q t s t → Left s t q
cofan_left s t q g h k =
    record { le = rw (add-sub_of_le g) at (cofan_from s.x s.y q.x q.y t.y (t.x - s.x) (t.x - q.x) (omega arith) k) }

-- the same, on the line from a location on to the last one
pub line_to : (x c p q : Location) → Before x c → NotAfter p c → NotAfter q c → cross_plus x c p ≡ cross_minus x c p → cross_plus x c q ≡ cross_minus x c q → cross_plus c p q ≡ cross_minus c p q
line_to x c p q xc pc qc e f =
    let x₁ = before_x x c xc in
    let one : (r s : Location) → NotAfter r c → NotAfter s c → cross_plus x c r ≡ cross_minus x c r → cross_plus x c s ≡ cross_minus x c s → Left s c r
    = λ r s rc sc g h.
    cofan_left s c r sc.x_le rc.x_le (way_trans r c x c s c xc sc
    (left_cofan x c r x₁ rc.x_le (record { le = omega arith })) (left_cofan s c x sc.x_le x₁ (record { le = omega arith }))) in
    let g = (one p q pc qc e f).le in
    let h = (one q p qc pc f e).le in
    omega arith

-- no turn at the last location: all that lies between the two edges there is on one line
pub last_flat : (x y c q : Location) → Before x c → Before y c → NotAfter q c → Left y c x → Left x c q → Left c y q → cross_plus x c q ≡ cross_minus x c q
last_flat x y c q xc yc qc no-turn g h =
    let x₁ = before_x x c xc in
    let x₂ = before_x y c yc in
    let x₃ = qc.x_le in
    let k = (cofan_left q c x x₃ x₁ (way_trans x c y c q c yc qc (left_cofan y c x x₂ x₁ no-turn) (left_cofan q c y x₃ x₂ (left_next y q c (left_next c y q h))))).le in
    let m = g.le in
    omega arith

-- and at the first location
pub first_flat : (x y a q : Location) → Before a x → Before a y → NotAfter a q → Left a y x → Left a x q → Left y a q → cross_plus a x q ≡ cross_minus a x q
first_flat x y a q ax ay aq no-turn g h =
    let x₁ = before_x a x ax in
    let x₂ = before_x a y ay in
    let x₃ = aq.x_le in
    let k = (fan_left a q x x₃ x₁ (way_trans a q a y a x ay (weaken a x ax) (left_fan a q y x₃ x₂ (left_next y a q h)) (left_fan a y x x₂ x₁ no-turn))).le in
    let m = g.le in
    omega arith
