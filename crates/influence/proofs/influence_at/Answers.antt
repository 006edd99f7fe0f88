-- `influence_at` meets its contract: each return has the influence that its tests say.
use mathlib.Core.Path.{sym, ap, ◌∙◌}
use native.Mathlib.Omega.{arith}
use Rattle.influence.specs.Carried.{carried}
use Rattle.influence.specs.declared.Influence.TheVariants.{Inverse, Tapered}
use Rattle.influence.proofs.InfluenceLaws.{is_coincident, is_few, is_inverse, is_tapered, is_edge_lem}
use Rattle.influence.proofs.influence_at.Goals as goal

pub returns-then-distance-eq0 : goal.returns-then-distance-eq0
returns-then-distance-eq0 c = ap carried (sym (is_coincident _ _ _ c.if-distance-eq0.true))

pub returns-then-few : goal.returns-then-few
returns-then-few c = ap Inverse c.inverse_factor.ensures ∙ ap carried (sym (is_few _ _ _ c.if-distance-eq0.false c.if-few.true))

pub returns-then-from : goal.returns-then-from
returns-then-from c =
    ap Inverse c.inverse_factor-then-from.ensures ∙ ap carried (sym (is_inverse _ _ _ c.if-distance-eq0.false c.if-few.false (omega arith)))

pub returns-then-distance-radius : goal.returns-then-distance-radius
returns-then-distance-radius c =
    ap Tapered c.tapered_factor.ensures
    ∙ ap carried (sym (is_tapered _ _ _ c.if-distance-eq0.false c.if-few.false (omega arith) c.if-distance-radius.true))

pub returns : goal.returns
returns c =
    ap carried (sym (is_edge_lem _ _ _ c.if-distance-eq0.false c.if-few.false (omega arith) c.if-distance-radius.false))
