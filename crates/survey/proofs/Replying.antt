-- How a reply is put together: of a refused call from the survey that came in, of an accepted one from what it leaves.
use mathlib.Core.Path.{◌≡◌, refl, sym, ap, ◌∙◌}
use Prim.Native.Nat.{ℕ}
use native.Mathlib.Omega.{arith}
use mathlib.Core.List.{List}
use Rattle.std.specs.Prelude.{Result, Ok, Err, IsErrAnd}
use Rattle.model.specs.Extent.{settled}
use Rattle.model.specs.SurveyFile.{file_refusal}
use Rattle.model.specs.Calls.{Call, Load, refusal, accepted}
use Rattle.model.specs.Program.{state_in}
use Rattle.laws.proofs.CallLaws.{edited_accepted, edited_refused}
use Rattle.survey.specs.declared.Survey.{Survey}
use Rattle.refusal.specs.declared.Refusal.{Refusal}
use Rattle.refusal.specs.Numbered.{code, number_of}
use Rattle.refusal.proofs.Coded.{never_0, passed_on}
use Rattle.survey.specs.StateOf.{contents_in, state_of, PlainPoints, Plain, Settles}
use Rattle.survey.specs.Replies.{Replies}

module _ (c : Call) (s : Survey) where
  -- the refusal e that is passed on
  pub reply_refused : (r : Result (Unit {0}) Refusal) (e : Refusal) → IsErrAnd r (λ x. x ≡ e) → number_of e ≡ refusal c (contents_in s) → Replies c s r s
  reply_refused (Ok t) e f h = absurd f
  reply_refused (Err x) e f h =
      let number : number_of x ≡ refusal c (contents_in s) = ap number_of f ∙ h in
      record {
        number = number;
        state = sym (edited_refused c (state_of s) (λ k. never_0 x (number ∙ k)));
        unaltered = λ _. refl;
        plain = λ p. p;
      }

  -- u is t with what is kept worked out anew
  pub reply_accepted : (t u : Survey) → 0 ≡ refusal c (contents_in s) → contents_in t ≡ accepted c (contents_in s) → (PlainPoints s → PlainPoints t)
      → Settles t u → Replies c s (Ok tt) u
  unfolding Plain
  reply_accepted t u e g p b =
      record {
        number = e;
        state = b.state ∙ ap settled g ∙ sym (edited_accepted c (state_of s) (sym e));
        unaltered = λ f. absurd (f (sym e));
        plain = λ k. b.plain (p k.0);
      }

-- a file that was read
module _ (f : List ℕ) (s : Survey) (r : Result (Unit {0}) Refusal) (t : Survey) (h : Replies (Load f) s r t) where
  pub load_number : code r ≡ file_refusal f
  unfolding refusal
  load_number = h.number

  pub load_state : code r ≡ 0 → state_of t ≡ state_in f
  unfolding refusal accepted
  load_state e = h.state ∙ edited_accepted (Load f) (state_of s) (sym h.number ∙ e)
