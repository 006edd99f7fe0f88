-- What the answer of a call that writes tells its caller of the lent bytes: they begin with what it writes.
use mathlib.Core.Path.{◌≡◌}
use Prim.Native.Nat.{ℕ, ◌≤◌}
use native.Mathlib.Omega.{arith}
use mathlib.Core.List.{List}
use lib.ListN.{length, take, drop, length-append}
use lib.Seq.{take-append_seam}
use borrow.Author.Tests.{eq-eqb}
use Rattle.std.specs.Prelude.{Result, Ok}
use Rattle.model.specs.Lists.{laid}
use Rattle.model.specs.Refusals.{afterwards}
use Rattle.refusal.specs.Numbered.{told}
use Rattle.refusal.proofs.Told.{told_value}

pub told_front : (n : ℕ) (text : List ℕ) (q : Result ℕ ℕ) → q ≡ told n (length text) → (k : ℕ) → q ≡ Ok k
    → (d : List ℕ) → (take k (afterwards n (laid text d) d) ≡ text) × (k ≤ length (afterwards n (laid text d) d))
told_front n text q e k h d =
    let t = told_value n (length text) q e k h in
    rw (eq-eqb n 0 t.0, t.1)
    (take-append_seam text (drop (length text) d), omega (arith, length-append text (drop (length text) d)))
