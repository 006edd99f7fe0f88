use mathlib.Core.Path.{refl, sym, ◌∙◌}
use Rattle.model.specs.Order.{sort_onto}
use Rattle.candidates.specs.Keys.{no_key, first_keys}
use Rattle.candidates.proofs.Exchange.{ascending_put, ascending_same}
use Rattle.candidates.proofs.KeyLaws.{first_more}
use Rattle.candidates.proofs.first_keys.Goals as goal

pub loop-i-init : goal.loop-i-init
unfolding first_keys sort_onto
loop-i-init c = (ascending_same 11 no_key, refl)

pub loop-i-preserved : goal.loop-i-preserved
loop-i-preserved c =
    let l = c.loop-i in
    let a = c.args in (
      rw c.put-next.ensures (ascending_put 11 _ l.keys l.invariant.0),
      c.put-next.ensures ∙ rw (c.key_at.ensures, l.invariant.1) (sym (first_more a.xs.now a.ys.now a.squares.now a.at.now l.i-index c.loop-i-test.true)),
    )
