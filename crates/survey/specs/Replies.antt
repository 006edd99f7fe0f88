-- What a call that edits the survey gives and leaves: the paper's number, what is then present, and, where it is refused, the very survey that it was lent.
use Rattle.std.specs.Prelude.{◌≡◌, Result}
use Rattle.model.specs.Calls.{Call, refusal, edited}
use Rattle.refusal.specs.declared.Refusal.{Refusal}
use Rattle.refusal.specs.Numbered.{code}
use Rattle.survey.specs.declared.Survey.{Survey}
use Rattle.survey.specs.StateOf.{contents_in, state_of, Plain}

-- the call c on s answers r and leaves t
pub record Replies (c : Call) (s : Survey) (r : Result (Unit {0}) Refusal) (t : Survey) : Type 0 where
  pub number : code r ≡ refusal c (contents_in s)
  pub state : state_of t ≡ edited c (state_of s)
  pub unaltered : (refusal c (contents_in s) ≡ 0 → ⊥) → t ≡ s
  pub plain : Plain s → Plain t
