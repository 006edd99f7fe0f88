-- What an input gives, by what its file gives: refused, too short before its first record, and accepted.
use mathlib.Core.Path.{◌≡◌, sym, ap, ◌∙◌}
use Prim.Native.Nat.{ℕ, ◌+◌, ◌*◌, ◌≤◌, ◌<◌}
use native.Mathlib.Omega.{arith}
use mathlib.Core.List.{List}
use lib.ListN.{length}
use Rattle.model.specs.Point.{State}
use Rattle.model.specs.SurveyFile.{file_refusal, file_points}
use Rattle.model.specs.Program.{state_in, input_refusal}
use Rattle.std.specs.Prelude.{Ok, Err}
use Rattle.refusal.specs.declared.Refusal.{Refusal}
use Rattle.refusal.specs.declared.Refusal.TheVariants.{GridRules}
use Rattle.refusal.specs.Numbered.{number_of}
use Rattle.refusal.proofs.Coded.{never_0}
use Rattle.laws.proofs.ProgramLaws.{file_decides, preamble_short, preamble_long, preamble_length}
use Rattle.survey.specs.declared.Survey.{Survey}
use Rattle.survey.specs.StateOf.{state_of}
use Rattle.grid_io.specs.Input.{Asks}

module _ (f : List ℕ) where
  pub file_refused : (e : Refusal) → number_of e ≡ file_refusal f → number_of e ≡ input_refusal f
  file_refused e number = number ∙ sym (file_decides f (λ z. never_0 e (number ∙ z)))

  -- a file that is accepted, and how many points it has
  module _ (none : file_refusal f ≡ 0) (s : Survey) (state : state_of s ≡ state_in f) (n : ℕ) (count : n ≡ length (state_of s).contents.points) where
    counted : n ≡ length (file_points f)
    counted = count ∙ ap (λ (t : State). length t.contents.points) state

    pub too_short : length f < 12 + 5 * n + 12 → Asks f (Err GridRules)
    too_short h = record { number = sym (preamble_short f none (omega (arith, preamble_length f none, counted))); state = tt; six = tt }

    pub long_enough : 12 + 5 * n + 12 ≤ length f → Asks f (Ok s)
    long_enough h = record { number = sym (preamble_long f none (omega (arith, preamble_length f none, counted))); state = state; six = omega arith }
