-- `staying` meets its contract. The invariant: of the corners below `last` the same stay.
use mathlib.Core.Path.{◌≡◌, ap, ◌∙◌}
use Prim.Native.Nat.{ℕ, ◌+◌, ◌-◌}
use native.Mathlib.Omega.{arith}
use Rattle.model.specs.Point.{location}
use Rattle.model.specs.Polygon.{trim}
use Rattle.polygon.specs.Stacked.{stacked, turn_of}
use Rattle.polygon.proofs.StackedLaws.{trim_stays, trim_less, trim_short}
use Rattle.polygon.proofs.staying.Goals as goal

pub returns-then-turns : goal.returns-then-turns
returns-then-turns c =
    let a = c.args in
    let e : c.loop-last.last ≡ c.loop-last.last - 1 + 1 = omega arith in
    record {
      upper_bound = omega arith;
      py_value = c.loop-last.invariant.1 ∙ ap (λ (n : ℕ). trim (turn_of a.up) (stacked a.xs.now a.ys.now n) (location a.px a.py)) e
          ∙ trim_stays _ _ _ _ (c.loop-last.last - 1) c.turns.result (omega arith) c.turns.ensures c.if-turns.true;
    }

pub loop-last-preserved : goal.loop-last-preserved
loop-last-preserved c =
    let a = c.args in
    let e : c.loop-last.last ≡ c.loop-last.last - 1 + 1 = omega arith in (
      omega arith,
      c.loop-last.invariant.1 ∙ ap (λ (n : ℕ). trim (turn_of a.up) (stacked a.xs.now a.ys.now n) (location a.px a.py)) e
          ∙ trim_less _ _ _ _ (c.loop-last.last - 1) c.turns.result (omega arith) c.turns.ensures c.if-turns.false,
    )

pub returns : goal.returns
returns c =
    let e : c.min.result ≡ c.loop-last.last = omega (arith, c.loop-last.invariant.0) in
    record {
      upper_bound = omega arith;
      py_value = rw e (c.loop-last.invariant.1 ∙ trim_short _ _ _ _ c.loop-last.last (omega arith));
    }
