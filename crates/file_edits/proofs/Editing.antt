-- What comes of an edit of a file that was read, and of writing the file then.
use mathlib.Core.Path.{◌≡◌, sym, ap, ◌∙◌}
use Prim.Native.Nat.{ℕ}
use mathlib.Core.List.{List}
use Rattle.std.specs.Prelude.{Result, Ok}
use Rattle.model.specs.Point.{State}
use Rattle.model.specs.SurveyFile.{file_refusal}
use Rattle.model.specs.Calls.{Call, refusal, after, edited}
use Rattle.model.specs.Program.{state_in}
use Rattle.laws.proofs.CallLaws.{edited_settled}
use Rattle.refusal.specs.declared.Refusal.{Refusal}
use Rattle.refusal.specs.Numbered.{code}
use Rattle.survey.specs.declared.Survey.{Survey}
use Rattle.survey.specs.StateOf.{contents_in}
use Rattle.survey.specs.Replies.{Replies}
use Rattle.file_access.specs.Access.{Reads, Writes}
use Rattle.file_access.proofs.FileLaws.{refused_file, accepted_file, saves_none}
use Rattle.file_edits.specs.Edits.{call_refusal, Edits}

module _ (f d : List ℕ) (k : ℕ) (c : Call) where
  pub edits_none : (n : ℕ) → n ≡ file_refusal f → (n ≡ 0 → ⊥) → Edits c f d k n d k
  edits_none n e h = rw (← refused_file f n e h (refusal c (state_in f).contents)) (saves_none n (after c (state_in f).contents).points d k h)

  -- the call's own refusal, and then what comes of writing its survey
  pub edits_file : (s : Survey) → Reads f (Ok s) → (r : Result (Unit {0}) Refusal) (t : Survey) → Replies c s r t → (m : ℕ) (d' : List ℕ) (k' : ℕ) → Writes (code r) (contents_in t).points d k m d' k' → Edits c f d k m d' k'
  edits_file s reads r t h m d' k' w =
      let number : code r ≡ call_refusal c f = h.number ∙ ap (λ (z : State). refusal c z.contents) reads.state ∙ sym (accepted_file f s reads (refusal c (state_in f).contents)) in
      let contents : contents_in t ≡ after c (state_in f).contents = ap (λ (z : State). z.contents) (h.state ∙ ap (edited c) reads.state ∙ edited_settled c (state_in f).contents) in
      rw (← number, ← contents) w
