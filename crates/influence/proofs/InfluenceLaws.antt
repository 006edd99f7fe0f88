-- Which influence a neighbour has, from the tests that the code makes; and what the enum carries of it.
use mathlib.Core.Path.{◌≡◌, refl, ap, ◌∙◌}
use mathlib.Core.Bool.{Bool, true, false}
use Prim.Native.Nat.{ℕ, ◌*◌, ◌≤◌, ◌<◌}
use lib.Ieee.{Float}
use borrow.Author.Tests.{le-leb, lt-leb, lt-ltb, le-ltb, eq-eqb, ne_eqb}
use Rattle.model.specs.Influence.{Influence, coincident, inverse, tapered, edge, influence_at, kind, is_edge}
use Rattle.model.specs.Computed.{factor_f}
use Rattle.influence.specs.declared.Influence.{Influence as Declared}
use Rattle.influence.specs.Carried.{carried, kind_of, factor_of, edge_of}

module _ (few : Bool) (r d : ℕ) where
  pub is_coincident : d ≡ 0 → influence_at few r d ≡ coincident
  unfolding influence_at
  is_coincident e = rw (eq-eqb d 0 e)

  module _ (apart : d ≡ 0 → ⊥) where
    pub is_few : few ≡ true → influence_at few r d ≡ inverse d
    unfolding influence_at
    is_few f = rw (ne_eqb d 0 apart, f)

    pub is_inverse : few ≡ false → 3 * d ≤ r → influence_at few r d ≡ inverse d
    unfolding influence_at
    is_inverse f h = rw (ne_eqb d 0 apart, f, le-leb (3 * d) r h)

    pub is_tapered : few ≡ false → r < 3 * d → d < r → influence_at few r d ≡ tapered r d
    unfolding influence_at
    is_tapered f h k = rw (ne_eqb d 0 apart, f, lt-leb (3 * d) r h, lt-ltb d r k)

    pub is_edge_lem : few ≡ false → r < 3 * d → r ≤ d → influence_at few r d ≡ edge
    unfolding influence_at
    is_edge_lem f h k = rw (ne_eqb d 0 apart, f, lt-leb (3 * d) r h, le-ltb d r k)

pub kind_carried : (f : Influence) → kind_of (carried f) ≡ kind f
kind_carried coincident = refl
kind_carried (inverse d) = refl
kind_carried (tapered r d) = refl
kind_carried edge = refl

pub factor_carried : (f : Influence) → factor_of (carried f) ≡ factor_f f
unfolding factor_f
factor_carried coincident = refl
factor_carried (inverse d) = refl
factor_carried (tapered r d) = refl
factor_carried edge = refl

pub edge_carried : (f : Influence) → edge_of (carried f) ≡ is_edge f
edge_carried coincident = refl
edge_carried (inverse d) = refl
edge_carried (tapered r d) = refl
edge_carried edge = refl

-- what the code reads off the enum, once it is known what that carries
pub factor_read : (f : Influence) {s : Float} {e : Declared} → s ≡ factor_of e → e ≡ carried f → s ≡ factor_f f
factor_read f h g = h ∙ ap factor_of g ∙ factor_carried f

pub edge_read : (f : Influence) {t : Bool} {e : Declared} → t ≡ edge_of e → e ≡ carried f → t ≡ is_edge f
edge_read f h g = h ∙ ap edge_of g ∙ edge_carried f
