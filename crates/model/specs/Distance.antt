-- Squared distance d², distance D in 256ths of a step, and the inner product of two offsets: document 01, "Distance".
use Rattle.std.specs.Prelude.{ℕ, zero, suc, ◌+◌, ◌-◌, ◌*◌, ◌/◌, ◌≤◌, ◌<◌, cond, true, false, leb, eqb, ℤ, pos, ◌+ℤ◌, ◌-ℤ◌, ◌*ℤ◌}
use Rattle.model.specs.Point.{Location, Point, State}

-- r is the greatest whole number whose square does not exceed n
pub record IsRoot (n r : ℕ) : Type 0 where
  pub low : r * r ≤ n
  pub high : n < (r + 1) * (r + 1)

-- the root of n, from the root r of n / 4: one bit more
unfoldable pub root_step : ℕ → ℕ → ℕ
root_step n r = cond (leb ((2 * r + 1) * (2 * r + 1)) n) (2 * r + 1) (2 * r)

unfoldable pub root_in : ℕ → ℕ → ℕ
unfolding root_step
root_in zero n = 0
root_in (suc k) n = elim (eqb n 0) [ true ↦ 0 | false ↦ root_step n (root_in k (n / 4)) ]

-- the greatest whole number whose square does not exceed n: `root_is` of the crate laws
unfoldable pub root : ℕ → ℕ
unfolding root_in
root n = root_in n n

-- the difference of two numbers, whichever is the greater
abbrev pub gap : ℕ → ℕ → ℕ
gap m n = (m - n) + (n - m)

-- d²
unfoldable pub squared : State → Location → Point → ℕ
squared s p a = gap p.x a.x * gap p.x a.x + gap p.y a.y * gap p.y a.y

-- D of a squared distance, and of a point
unfoldable pub distance_of : ℕ → ℕ
unfolding root
distance_of n = root (65536 * n)

unfoldable pub distance : State → Location → Point → ℕ
unfolding distance_of squared
distance s p a = distance_of (squared s p a)

-- a point's offset from p, in x and in y
unfoldable pub offset_x : State → Location → Point → ℤ
offset_x s p a = pos a.x -ℤ pos p.x

unfoldable pub offset_y : State → Location → Point → ℤ
offset_y s p a = pos a.y -ℤ pos p.y

-- g, the inner product of the offsets of two points from p
unfoldable pub inner : State → Location → Point → Point → ℤ
unfolding offset_x offset_y
inner s p a b = (offset_x s p a *ℤ offset_x s p b) +ℤ (offset_y s p a *ℤ offset_y s p b)
