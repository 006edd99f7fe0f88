-- `of_lookup_neighbours` meets its contract: the lookup's own refusals, and then the length of the list.
use mathlib.Core.Path.{◌≡◌, sym, ◌∙◌}
use Prim.Native.Nat.{ℕ}
use native.Mathlib.Omega.{arith}
use borrow.Author.Tests.{ne_eqb}
use Rattle.model.specs.Point.{State}
use Rattle.model.specs.Refusals.{lookup_refusal, neighbours_refusal}
use Rattle.laws.proofs.CallLaws.{neighbours_refusal_lem, neighbours_short, neighbours_enough}
use Rattle.refusal.specs.Numbered.{code}
use Rattle.refusal.proofs.Coded.{never_0, passed_on}
use Rattle.refusals.proofs.of_lookup_neighbours.Goals as goal

stopped : (x y lent : ℕ) (s : State) (n : ℕ) → n ≡ lookup_refusal x y s → (n ≡ 0 → ⊥) → n ≡ neighbours_refusal x y lent s
stopped x y lent s n e h = rw (neighbours_refusal_lem, ← e, ne_eqb n 0 h)

pub returns-in_err-of_lookup : goal.returns-in_err-of_lookup
returns-in_err-of_lookup c s h =
    let e = c.in_err-of_lookup.field-0.0 in
    passed_on _ e c.from_residual.ensures.1 ∙ stopped c.args.x c.args.y c.args.lent s _ (c.in_err-of_lookup.ensures s h) (never_0 e)

pub returns-then-lent-lt10 : goal.returns-then-lent-lt10
returns-then-lent-lt10 c s h =
    sym (neighbours_short c.args.x c.args.y c.args.lent s (sym (c.in_ok-of_lookup.ensures s h)) c.if-lent-lt10.true)

pub returns : goal.returns
returns c s h =
    c.in_ok-of_lookup.ensures s h ∙ sym (neighbours_enough c.args.x c.args.y c.args.lent s c.if-lent-lt10.false)
