-- What a lookup answers, from the refusal and from the answer worked out over the arrays.
use mathlib.Core.Path.{◌≡◌, refl, sym, ap, ◌∙◌}
use Prim.Native.Nat.{ℕ, ◌^◌, min}
use native.Mathlib.Omega.{arith}
use lib.IntN.{ℤ}
use borrow.Author.Tests.{eq-eqb, ne_eqb}
use Rattle.std.specs.Prelude.{Result, Ok, Err, IsErrAnd}
use Rattle.model.specs.Point.{State, location}
use Rattle.model.specs.Refusals.{lookup_refusal, neighbours_refusal}
use Rattle.model.specs.Lent.{neighbours_into}
use Rattle.laws.proofs.RecordLaws.{domain_bounds}
use Rattle.laws.proofs.CallLaws.{lookup_accepted, neighbours_accepted}
use Rattle.refusal.specs.declared.Refusal.{Refusal}
use Rattle.refusal.specs.Numbered.{number_of, numbered}
use Rattle.refusal.proofs.Coded.{never_0}
use Rattle.refusal.proofs.Told.{passed_number}
use Rattle.neighbour_records.specs.declared.RecordList.{RecordList}
use Rattle.neighbour_records.specs.Records.{Listed}
use Rattle.lookup.specs.declared.Answered.{Answered}
use Rattle.lookup.specs.Asked.{Handed}
use Rattle.lookup.specs.AnswersAs.{AnswersAs}
use Rattle.survey.specs.declared.Survey.{Survey}
use Rattle.survey.specs.declared.Found.{Found}
use Rattle.survey.specs.declared.Decision.{Decision}
use Rattle.survey.specs.StateOf.{state_of}
use Rattle.survey.specs.LookedUp.{found, looked_up, looked_up_lent, Rounded, Decides}
use Rattle.survey.proofs.Becoming.{holds, points_held}

-- what an accepted lookup hands to the arithmetic over arrays
pub handed : (s : Survey) (x y r : ℕ) → lookup_refusal x y (state_of s) ≡ 0 → r ≡ min s.extent.radius (2 ^ 24)
    → Handed (state_of s) (location x y) s.x s.y s.z s.count (record { x = x; y = y }) r
handed s x y r e h =
    let a = lookup_accepted x y (state_of s) e in
    let b = domain_bounds x y a.0 in
    record {
      points = holds s;
      some = omega (arith, a.1, points_held s);
      sees = record { location = refl };
      proper = record { x = b.0; y = b.1 };
      radius = h;
      reach = omega arith;
    }

-- a lookup's three numbers
found_by : {f g : Found} → f.answer ≡ g.answer → f.count ≡ g.count → f.radius ≡ g.radius → f ≡ g
found_by a c r = rw (a, c, r) refl

module _ (s : State) (x y : ℕ) where
  pub looked_up_lem : lookup_refusal x y s ≡ 0 → looked_up s x y ≡ Ok (found s (location x y))
  unfolding looked_up
  looked_up_lem e = rw (eq-eqb (lookup_refusal x y s) 0 e)

  -- the refusal e that is passed on
  pub looked_refused : (r : Result Found Refusal) (e : Refusal) → IsErrAnd r (λ x. x ≡ e) → number_of e ≡ lookup_refusal x y s
      → (numbered r ≡ looked_up s x y) × Rounded s (location x y) (numbered r)
  unfolding looked_up Rounded
  looked_refused r e f h =
      let p = passed_number r e f in
      (p ∙ rw (← h, ne_eqb (number_of e) 0 (never_0 e)) refl, rw p tt)

  -- an answer worked out over the arrays is what is found
  module _ (a : Answered) (f : Found) (g : (f.answer ≡ a.answer) × (f.count ≡ a.chosen.count) × (f.radius ≡ a.chosen.radius)) (h : AnswersAs s (location x y) a) where
    was_found : f ≡ found s (location x y)
    was_found = found_by (g.0 ∙ h.answer) (g.1 ∙ h.chosen.count) (g.2 ∙ h.chosen.radius)

    was_rounded : Rounded s (location x y) (Ok f)
    unfolding Rounded
    was_rounded = rw g.0 h.right

    pub looked_found : 0 ≡ lookup_refusal x y s → (Ok f ≡ looked_up s x y) × Rounded s (location x y) (Ok f)
    looked_found e = (ap (λ z. Ok z) was_found ∙ sym (looked_up_lem (sym e)), was_rounded)

  module _ (lent : ℕ) where
    -- refused: nothing is written
    pub decides_none : (r : Result Decision Refusal) (e : Refusal) → IsErrAnd r (λ x. x ≡ e) → number_of e ≡ neighbours_refusal x y lent s → Decides s x y lent r
    unfolding looked_up_lent Rounded neighbours_into
    decides_none (Ok d) e f h = absurd f
    decides_none (Err d) e f h =
        let k = ap number_of f ∙ h in
        record {
          answer = rw (← k, ne_eqb (number_of d) 0 (never_0 d)) refl;
          rounded = tt;
          few = tt;
          fits = tt;
          list = λ list n. rw (n, ← k, ne_eqb (number_of d) 0 (never_0 d)) refl;
        }

    -- accepted: the chosen points' records are written
    pub decides_found : (a : Answered) (f : Found) (l : RecordList) → 0 ≡ neighbours_refusal x y lent s
        → (f.answer ≡ a.answer) × (f.count ≡ a.chosen.count) × (f.radius ≡ a.chosen.radius) → AnswersAs s (location x y) a → Listed s (location x y) l
        → Decides s x y lent (Ok (record { found = f; list = l }))
    unfolding looked_up_lent neighbours_into
    decides_found a f l e g h listed = record {
      answer = ap (λ z. Ok z) (was_found a f g h) ∙ rw (eq-eqb (neighbours_refusal x y lent s) 0 (sym e)) refl;
      rounded = was_rounded a f g h;
      few = listed.size;
      fits = omega (arith, listed.size, (neighbours_accepted x y lent s (sym e)).1);
      list = λ list k. rw (listed.items, k, eq-eqb (neighbours_refusal x y lent s) 0 (sym e)) refl;
    }

-- what is found is one answer, and no refusal
module _ {q : Result Found ℕ} {a : Found} (here : q ≡ Ok a) where
  pub one_answer : {b : Found} → q ≡ Ok b → b ≡ a
  one_answer f = cc

  pub not_refused : {m : ℕ} → q ≡ Err m → ⊥
  not_refused f = let z : ◌≡◌ {A = ℕ} 0 1 = cc in absurd (omega arith)
