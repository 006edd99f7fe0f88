-- What a result tells: why it is refused, or what is given.
use mathlib.Core.Path.{◌≡◌, refl, sym, ap, ◌∙◌}
use Prim.Native.Nat.{ℕ}
use native.Mathlib.Omega.{arith}
use mathlib.Core.Bool.{Bool, true, false, cond}
use lib.Dec.{eqb}
use borrow.Author.Tests.{eqb-true, eqb-false, eq-eqb, ne_eqb}
use Rattle.std.specs.Prelude.{Result, Ok, Err, IsErrAnd}
use Rattle.refusal.specs.declared.Refusal.{Refusal}
use Rattle.refusal.specs.declared.Refusal.TheVariants.{OffDomain, OutOfRange, Taken, Missing, Full, Empty, GridRules, TooFewLent, FileLength, Magic, Count, BackDistance, Sum, RecordOffDomain, RecordOrder, UnequalSteps, NoRow}
use Rattle.refusal.specs.Numbered.{number_of, numbered, told}

module _ {A : Type 0} (no : ℕ) (a : A) where
  pub told_given : no ≡ 0 → told no a ≡ Ok a
  told_given e = rw (eq-eqb no 0 e) refl

  pub told_none : (no ≡ 0 → ⊥) → told no a ≡ Err no
  told_none h = rw (ne_eqb no 0 h) refl

  module _ (q : Result A ℕ) (e : q ≡ told no a) where
    pub told_refused : (k : ℕ) → q ≡ Err k → (k ≡ no) × (k ≡ 0 → ⊥)
    told_refused k h = by_test (eqb no 0) refl (sym e ∙ h)
      where
        by_test : (t : Bool) → eqb no 0 ≡ t → cond {A = Result A ℕ} t (Ok a) (Err no) ≡ Err k → (k ≡ no) × (k ≡ 0 → ⊥)
        by_test true u w = let z : ◌≡◌ {A = ℕ} 0 1 = cc in absurd (omega arith)
        by_test false u w = let z : k ≡ no = cc in (z, λ v. eqb-false no 0 u (sym z ∙ v))

    pub told_value : (x : A) → q ≡ Ok x → (no ≡ 0) × (x ≡ a)
    told_value x h = by_test (eqb no 0) refl (sym e ∙ h)
      where
        by_test : (t : Bool) → eqb no 0 ≡ t → cond {A = Result A ℕ} t (Ok a) (Err no) ≡ Ok x → (no ≡ 0) × (x ≡ a)
        by_test true u w = (eqb-true no 0 u, cc)
        by_test false u w = let z : ◌≡◌ {A = ℕ} 0 1 = cc in absurd (omega arith)

-- a refusal that is passed on keeps its number
pub passed_number : {A : Type 0} (r : Result A Refusal) (e : Refusal) → IsErrAnd r (λ x. x ≡ e) → numbered r ≡ Err (number_of e)
passed_number (Ok a) e h = absurd h
passed_number (Err x) e h = ap (λ y. Err (number_of y)) h

-- no two refusals have one number, so a result is known by its own
abbrev refusal_at : ℕ → Refusal
refusal_at n = cond (eqb n 1) OffDomain (cond (eqb n 2) OutOfRange (cond (eqb n 3) Taken (cond (eqb n 4) Missing (cond (eqb n 5) Full (cond (eqb n 6) Empty (cond (eqb n 7) GridRules (cond (eqb n 8) TooFewLent (cond (eqb n 9) FileLength (cond (eqb n 10) Magic (cond (eqb n 11) Count (cond (eqb n 12) BackDistance (cond (eqb n 13) Sum (cond (eqb n 14) RecordOffDomain (cond (eqb n 15) RecordOrder (cond (eqb n 16) UnequalSteps (NoRow))))))))))))))))

at_number : (e : Refusal) → refusal_at (number_of e) ≡ e
at_number OffDomain = refl
at_number OutOfRange = refl
at_number Taken = refl
at_number Missing = refl
at_number Full = refl
at_number Empty = refl
at_number GridRules = refl
at_number TooFewLent = refl
at_number FileLength = refl
at_number Magic = refl
at_number Count = refl
at_number BackDistance = refl
at_number Sum = refl
at_number RecordOffDomain = refl
at_number RecordOrder = refl
at_number UnequalSteps = refl
at_number NoRow = refl

pub numbered_same : {A : Type 0} (a b : Result A Refusal) → numbered a ≡ numbered b → a ≡ b
numbered_same (Ok x) (Ok y) h = let e : x ≡ y = cc in rw e refl
numbered_same (Ok x) (Err d) h = let z : ◌≡◌ {A = ℕ} 0 1 = cc in absurd (omega arith)
numbered_same (Err e) (Ok y) h = let z : ◌≡◌ {A = ℕ} 0 1 = cc in absurd (omega arith)
numbered_same (Err e) (Err d) h =
    let n : number_of e ≡ number_of d = cc in
    ap (λ y. Err y) (sym (at_number e) ∙ ap refusal_at n ∙ at_number d)
