-- What writing the answers gives and leaves, refused and accepted.
use mathlib.Core.Path.{◌≡◌, refl, ap, ◌∙◌}
use Prim.Native.Nat.{ℕ, ◌*◌, ◌/◌, ◌≤◌, ◌<◌}
use native.Mathlib.Omega.{arith}
use mathlib.Core.List.{List}
use lib.ListN.{length}
use borrow.Author.Tests.{ne_eqb, lt-ltb, le-ltb}
use Rattle.std.specs.Prelude.{Result, Ok, Err, IsErrAnd}
use Rattle.model.specs.Lists.{laid}
use Rattle.model.specs.Point.{State}
use Rattle.refusal.specs.declared.Refusal.{Refusal}
use Rattle.refusal.specs.Numbered.{code, number_of}
use Rattle.refusal.proofs.Coded.{never_0}
use Rattle.many_lookups.specs.Locations.{locations_in}
use Rattle.many_lookups.specs.AnswersInto.{first_refusal, answers_bytes, AllRight, AnswersInto}
use Rattle.many_lookups.proofs.Turns.{length_locations}

module _ (s : State) (b d : List ℕ) where
  -- the refusal e that is passed on
  pub writes_none : (r : Result (Unit {0}) Refusal) (e : Refusal) → IsErrAnd r (λ x. x ≡ e) → number_of e ≡ first_refusal s (locations_in b) → AnswersInto s b d (code r) d
  writes_none (Ok x) e f h = absurd f
  writes_none (Err x) e f h =
      let n : number_of x ≡ first_refusal s (locations_in b) = ap number_of f ∙ h in
      let z = ne_eqb (number_of x) 0 (never_0 x) in
      record { number = rw (← n, z) refl; bytes = rw z refl; right = λ k. absurd (never_0 x k) }

  module _ (none : 0 ≡ first_refusal s (locations_in b)) where
    pub writes_short : length d / 8 < length b / 4 → AnswersInto s b d 8 d
    writes_short h =
        record { number = rw (← none, lt-ltb (length d) (8 * length (locations_in b)) (omega (arith, length_locations b))) refl; bytes = refl; right = λ k. absurd (omega arith) }

    pub writes_all : length b / 4 ≤ length d / 8 → (d' : List ℕ) → d' ≡ laid (answers_bytes s (locations_in b)) d → AllRight s (locations_in b) → AnswersInto s b d 0 d'
    writes_all h d' w right = record { number = rw (← none, le-ltb (length d) (8 * length (locations_in b)) (omega (arith, length_locations b))) refl; bytes = w; right = λ _. right }
