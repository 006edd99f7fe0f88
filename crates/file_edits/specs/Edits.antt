-- What an edit of a survey file gives.
use Rattle.std.specs.Prelude.{ℕ, List}
use Rattle.model.specs.Refusals.{or_else}
use Rattle.model.specs.SurveyFile.{file_refusal}
use Rattle.model.specs.Calls.{Call, refusal, after}
use Rattle.model.specs.Program.{state_in}
use Rattle.file_access.specs.Access.{Writes}

-- a call on the points of the file f: 9 to 15, then the call's own
abbrev pub call_refusal : Call → List ℕ → ℕ
call_refusal c f = or_else (file_refusal f) (refusal c (state_in f).contents)

-- the file after the call
abbrev pub Edits : Call → List ℕ → List ℕ → ℕ → ℕ → List ℕ → ℕ → Type 0
Edits c f = Writes (call_refusal c f) (after c (state_in f).contents).points
