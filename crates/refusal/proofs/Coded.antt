-- What the number that a call answers tells: a refusal is not 0, and one that is passed on keeps its number.
use mathlib.Core.Path.{◌≡◌, ap, sym}
use Prim.Native.Nat.{ℕ}
use native.Mathlib.Omega.{arith}
use mathlib.Core.Path.{refl}
use borrow.Author.Tests.{ne_eqb}
use mathlib.Core.Bool.{true, false, true≢false}
use Rattle.std.specs.Prelude.{Result, Ok, Err, IsErrAnd, is_ok}
use Rattle.std.specs.Result.{result_and}
use Rattle.refusal.specs.declared.Refusal.{Refusal}
use Rattle.refusal.specs.declared.Refusal.TheVariants.{OffDomain, OutOfRange, Taken, Missing, Full, Empty, GridRules, TooFewLent, FileLength, Magic, Count, BackDistance, Sum, RecordOffDomain, RecordOrder, UnequalSteps, NoRow}
use Rattle.model.specs.Refusals.{or_else}
use Rattle.refusal.specs.Numbered.{number_of, code}

pub never_0 : (e : Refusal) → number_of e ≡ 0 → ⊥
never_0 OffDomain h = omega arith
never_0 OutOfRange h = omega arith
never_0 Taken h = omega arith
never_0 Missing h = omega arith
never_0 Full h = omega arith
never_0 Empty h = omega arith
never_0 GridRules h = omega arith
never_0 TooFewLent h = omega arith
never_0 FileLength h = omega arith
never_0 Magic h = omega arith
never_0 Count h = omega arith
never_0 BackDistance h = omega arith
never_0 Sum h = omega arith
never_0 RecordOffDomain h = omega arith
never_0 RecordOrder h = omega arith
never_0 UnequalSteps h = omega arith
never_0 NoRow h = omega arith

pub passed_on : {A : Type 0} (r : Result A Refusal) (e : Refusal) → IsErrAnd r (λ x. x ≡ e) → code r ≡ number_of e
passed_on (Ok a) e h = absurd h
passed_on (Err x) e h = ap number_of h

-- of two calls that are tried in order, the first that is refused
pub code_and : {A B : Type 0} (a : Result A Refusal) (b c : Result B Refusal) (m n : ℕ) → c ≡ result_and a b → code a ≡ m → code b ≡ n → code c ≡ or_else m n
code_and (Ok x) b c m n e p q = rw (e, ← p) q
code_and (Err x) b c m n e p q = rw (e, ← p, ne_eqb (number_of x) 0 (never_0 x)) refl

-- accepted, the number is 0, and refused it is not
pub code_ok : {A : Type 0} (r : Result A Refusal) → is_ok r ≡ true → code r ≡ 0
code_ok (Ok x) h = refl
code_ok (Err e) h = absurd (true≢false (sym h))

pub code_err : {A : Type 0} (r : Result A Refusal) → is_ok r ≡ false → code r ≡ 0 → ⊥
code_err (Ok x) h = absurd (true≢false h)
code_err (Err e) h = never_0 e

pub accepted_by : (r : Result (Unit {0}) Refusal) → code r ≡ 0 → r ≡ Ok tt
accepted_by (Ok x) h = refl
accepted_by (Err e) h = absurd (never_0 e h)
