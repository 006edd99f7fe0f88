-- The fault of a record by its rank: a location (x, y) in the domain comes after another exactly where 4,096 x + y is greater.
use Rattle.std.specs.Prelude.{ℕ, ◌+◌, ◌*◌, cond, List, [], ◌∷◌, ltb}
use Rattle.model.specs.Point.{Point, in_domain}

abbrev pub rank : ℕ → ℕ → ℕ
rank x y = 4096 * x + y

-- 14 off the domain, 15 for a rank below `least`, and otherwise whatever follows
abbrev pub fault_by : ℕ → ℕ → ℕ → ℕ → ℕ
fault_by least x y n = cond (in_domain x y) (cond (ltb (rank x y) least) 15 n) 14

-- of records whose first has a rank of at least `least`
unfoldable pub fault_from : ℕ → List Point → ℕ
fault_from least [] = 0
fault_from least (a ∷ l) = fault_by least a.x a.y (fault_from (rank a.x a.y + 1) l)
