-- `run_call` meets its contract: each operation is the call that its number says.
use mathlib.Core.Path.{◌≡◌, sym, ap, subst, ◌∙◌}
use Prim.Native.Nat.{ℕ}
use mathlib.Core.List.{List}
use native.Mathlib.Omega.{arith}
use borrow.Author.Tests.{ne_eqb}
use lib.IntN.{ℤ}
use lib.ListN.{get_or}
use mir.Facts.{to_z-of_z}
use mir.Syntax.{w32}
use Rattle.model.specs.Point.{Contents}
use Rattle.model.specs.Extent.{settled}
use Rattle.model.specs.Bytes.{signed}
use Rattle.model.specs.Calls.{Add, Change, Drop, Clear, Load, after}
use Rattle.laws.proofs.CallLaws.{after_ask}
use Rattle.survey.specs.Replies.{Replies}
use Rattle.history.specs.Encoding.{call_of}
use Rattle.history.proofs.Runs.{replied}
use Rattle.history.proofs.run_call.Goals as goal

-- an operation by its number
numbered : {o op : ℕ} (w f : List ℕ) (q : Contents) → op ≡ o → settled (after (call_of o w f) q) ≡ settled (after (call_of op w f) q)
numbered w f q e = ap (λ (k : ℕ). settled (after (call_of k w f) q)) (sym e)

pub returns-in-0 : goal.returns-in-0
unfolding call_of
returns-in-0 c q e =
    let a = c.args in
    let w = a.w in
    let z = to_z-of_z {w = w32} {z = c.signed.result} (record { sfits = c.signed.type_inv }) ∙ c.signed.ensures in
    replied (Add (get_or w 0 0) (get_or w 1 0) (signed 2147483648 (get_or w 2 0))) a.s _ _
    (subst (λ (k : ℤ). Replies (Add (get_or w 0 0) (get_or w 1 0) k) a.s c.add.result c.add.new.s) z c.add.ensures) q e
    ∙ numbered w a.file.now q c.in-0.is

pub returns-in-1 : goal.returns-in-1
unfolding call_of
returns-in-1 c q e =
    let a = c.args in
    let w = a.w in
    let z = to_z-of_z {w = w32} {z = c.signed-in-1.result} (record { sfits = c.signed-in-1.type_inv }) ∙ c.signed-in-1.ensures in
    replied (Change (get_or w 0 0) (get_or w 1 0) (signed 2147483648 (get_or w 2 0))) a.s _ _
    (subst (λ (k : ℤ). Replies (Change (get_or w 0 0) (get_or w 1 0) k) a.s c.change.result c.change.new.s) z c.change.ensures) q e
    ∙ numbered w a.file.now q c.in-1.is

pub returns-in-2 : goal.returns-in-2
unfolding call_of
returns-in-2 c q e =
    let a = c.args in
    replied (Drop (get_or a.w 0 0) (get_or a.w 1 0)) a.s _ _ c.drop.ensures q e ∙ numbered a.w a.file.now q c.in-2.is

pub returns-in-3 : goal.returns-in-3
unfolding call_of
returns-in-3 c q e =
    let a = c.args in
    replied Clear a.s _ _ c.clear.ensures q e ∙ numbered a.w a.file.now q c.in-3.is

pub returns-in-4 : goal.returns-in-4
unfolding call_of
returns-in-4 c q e =
    let a = c.args in
    replied (Load a.file.now) a.s _ _ c.load.ensures q e ∙ numbered a.w a.file.now q c.in-4.is

pub returns-in_default : goal.returns-in_default
unfolding call_of
returns-in_default c q e =
    let a = c.args in
    let n0 : a.op ≡ 0 → ⊥ = omega arith in
    let n1 : a.op ≡ 1 → ⊥ = omega arith in
    let n2 : a.op ≡ 2 → ⊥ = omega arith in
    let n3 : a.op ≡ 3 → ⊥ = omega arith in
    let n4 : a.op ≡ 4 → ⊥ = omega arith in
    rw (ne_eqb a.op 0 n0, ne_eqb a.op 1 n1, ne_eqb a.op 2 n2, ne_eqb a.op 3 n3, ne_eqb a.op 4 n4) (e ∙ ap settled (sym (after_ask q)))
