-- What an input of the grid programs gives.
use Rattle.std.specs.Prelude.{◌≡◌, ℕ, ◌≤◌, List, length, Result, IfOk, OnOk}
use Rattle.model.specs.Program.{state_in, input_refusal}
use Rattle.refusal.specs.declared.Refusal.{Refusal}
use Rattle.refusal.specs.Numbered.{code}
use Rattle.survey.specs.declared.Survey.{Survey}
use Rattle.survey.specs.StateOf.{state_of}

-- the input f: refused by the paper's number, or a survey of its points; then it has the 12 bytes of a grid
pub record Asks (f : List ℕ) (r : Result Survey Refusal) : Type 0 where
  pub number : code r ≡ input_refusal f
  pub state : IfOk r (λ s. state_of s ≡ state_in f)
  pub six : OnOk r (12 ≤ length f)
