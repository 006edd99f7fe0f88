-- How a chosen point bears on a lookup, its kind and its factor s: document 01, "Pull and mean".
use Rattle.std.specs.Prelude.{ℕ, ◌-◌, ◌*◌, Bool, true, false, cond, leb, ltb, eqb}
use Rattle.model.specs.Fraction.{Fraction, whole}

-- document 01's pull: spot, near, tapered, rim. What a factor is worked out from stands with it: the distance, or the radius and the distance
pub data Influence : Type 0 where
  coincident : Influence
  inverse : ℕ → Influence
  tapered : ℕ → ℕ → Influence
  edge : Influence

-- the influence of a chosen point at the distance d, for the radius r; few: four points or fewer are present
unfoldable pub influence_at : Bool → ℕ → ℕ → Influence
influence_at few r d =
    cond (eqb d 0) coincident
    (cond few (inverse d)
    (cond (leb (3 * d) r) (inverse d)
    (cond (ltb d r) (tapered r d) edge)))

-- the reported number
abbrev pub kind : Influence → ℕ
kind coincident = 0
kind (inverse d) = 1
kind (tapered r d) = 2
kind edge = 3

abbrev pub is_edge : Influence → Bool
is_edge coincident = false
is_edge (inverse d) = false
is_edge (tapered r d) = false
is_edge edge = true

-- s, document 01's strength. A coincident point is alone, and its factor has no say
unfoldable pub factor : Influence → Fraction
unfolding whole
factor coincident = whole 1
factor (inverse d) = record { top = 1; bot = d }
factor (tapered r d) = record { top = 27 * ((r - d) * (r - d)); bot = 4 * (r * (r * r)) }
factor edge = whole 0
