-- Why calls are refused, by number, and the order in which the numbers are tried: document 01, "Refused"; and of which a lookup is.
use Rattle.std.specs.Prelude.{ℕ, cond, ltb, eqb, ℤ, length}
use Rattle.model.specs.Point.{State, in_domain, in_range}

-- 1, off the domain, or else whatever follows
abbrev pub on_domain : ℕ → ℕ → ℕ → ℕ
on_domain x y n = cond (in_domain x y) n 1

-- 2: the value is out of range
abbrev pub within_range : ℤ → ℕ → ℕ
within_range z n = cond (in_range z) n 2

-- 6: no point is present
abbrev pub non_empty : State → ℕ → ℕ
non_empty s n = cond (eqb (length s.contents.points) 0) 6 n

-- 8: fewer are lent than needed
abbrev pub enough : ℕ → ℕ → ℕ
enough lent needed = cond (ltb lent needed) 8 0

-- a lookup at (x, y), and one that is lent n neighbour records (document 01's listing): the first refusal that applies, 0 where it is accepted
unfoldable pub lookup_refusal : ℕ → ℕ → State → ℕ
lookup_refusal x y s = on_domain x y (non_empty s 0)

unfoldable pub neighbours_refusal : ℕ → ℕ → ℕ → State → ℕ
neighbours_refusal x y n s = on_domain x y (non_empty s (enough n 10))

-- the first refusal that applies: a, or, where that is 0, b
abbrev pub or_else : ℕ → ℕ → ℕ
or_else a b = cond (eqb a 0) b a

-- what something lent holds after a call that gave the number n: refused, it is unaltered
abbrev pub afterwards : {A : Type 0} → ℕ → A → A → A
afterwards n new old = cond (eqb n 0) new old
