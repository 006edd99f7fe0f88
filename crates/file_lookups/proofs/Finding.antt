-- What comes of a lookup, and of lookups at many locations.
use mathlib.Core.Path.{◌≡◌, refl, sym, ◌∙◌}
use Prim.Native.Nat.{ℕ}
use mathlib.Core.Bool.{Bool, true, false, cond}
use mathlib.Core.List.{List}
use lib.Dec.{eqb}
use lib.IntN.{ℤ}
use lib.ListN.{length}
use borrow.Author.Tests.{eqb-true, eq-eqb, ne_eqb}
use Rattle.std.specs.Prelude.{Result, Ok, Err}
use Rattle.model.specs.Point.{Location, State}
use Rattle.model.specs.Choice.{choice}
use Rattle.model.specs.Mean.{Right}
use Rattle.model.specs.Answer.{answer, chosen_count}
use Rattle.model.specs.Refusals.{afterwards}
use Rattle.model.specs.SurveyFile.{file_refusal}
use Rattle.model.specs.Program.{state_in}
use Rattle.survey.specs.declared.Survey.{Survey}
use Rattle.survey.specs.declared.Found.{Found}
use Rattle.survey.specs.StateOf.{state_of}
use Rattle.survey.specs.LookedUp.{found, found_unless, Rounded}
use Rattle.many_lookups.specs.Locations.{locations_in}
use Rattle.many_lookups.specs.AnswersInto.{lookups_refusal, AnswersInto}
use Rattle.file_access.specs.Access.{Reads, AnswerTold}
use Rattle.file_access.proofs.FileLaws.{refused_file, accepted_file}
use Rattle.file_lookups.specs.FileLookups.{Finds, ManyFound}

-- what is found at p unless the number is u, as it is told
module _ (u : ℕ) (s : State) (p : Location) where
  told_found : (a : ℤ) (n r m : ℕ) (a' : ℤ) (n' r' : ℕ) → AnswerTold (found_unless u s p) a n r m a' n' r'
      → (m ≡ u) × (a' ≡ afterwards m (answer s p) a) × (n' ≡ afterwards m (chosen_count s p) n) × (r' ≡ afterwards m (choice s p).radius r)
  unfolding AnswerTold
  told_found a n r m a' n' r' h = by_test (eqb u 0) refl h
    where
      by_test : (t : Bool) → eqb u 0 ≡ t → AnswerTold (cond t (Ok (found s p)) (Err u)) a n r m a' n' r'
          → (m ≡ u) × (a' ≡ afterwards m (answer s p) a) × (n' ≡ afterwards m (chosen_count s p) n) × (r' ≡ afterwards m (choice s p).radius r)
      by_test true e w = let z = eq-eqb m 0 w.0 in (w.0 ∙ sym (eqb-true u 0 e), rw z w.1, rw z w.2, rw z w.3)
      by_test false e w = (w.0, rw (w.0, e) w.1, rw (w.0, e) w.2, rw (w.0, e) w.3)

  rounded_right : u ≡ 0 → Rounded s p (found_unless u s p) → Right s p (answer s p)
  unfolding Rounded
  rounded_right z h = rw (eq-eqb u 0 z) at h

-- a file that is refused with k
module _ (f : List ℕ) (k : ℕ) (e : k ≡ file_refusal f) (h : k ≡ 0 → ⊥) where
  pub finds_none : (refusal : State → ℕ) (p : Location) (a : ℤ) (n r : ℕ) → Finds refusal f p a n r k a n r
  finds_none refusal p a n r =
      let z = ne_eqb k 0 h in
      record { number = refused_file f k e h (refusal (state_in f)); answer = rw z refl; count = rw z refl; radius = rw z refl; right = λ v. absurd (h v) }

  pub many_none : (b d : List ℕ) → ManyFound f b d k d
  many_none b d = record { number = refused_file f k e h (lookups_refusal (state_in f) (locations_in b) (length d)); bytes = rw (ne_eqb k 0 h) refl; right = λ v. absurd (h v) }

-- and one that holds the survey s
module _ (f : List ℕ) (s : Survey) (reads : Reads f (Ok s)) where
  abbrev held : State
  held = state_of s

  pub finds_answer : (refusal : State → ℕ) (p : Location) (a : ℤ) (n r : ℕ) (q : Result Found ℕ) → q ≡ found_unless (refusal held) held p → Rounded held p q
      → (m : ℕ) (a' : ℤ) (n' r' : ℕ) → AnswerTold q a n r m a' n' r' → Finds refusal f p a n r m a' n' r'
  finds_answer refusal p a n r q e rounded m a' n' r' told =
      let t' = reads.state in
      let u = refusal (state_in f) in
      let here : q ≡ found_unless u (state_in f) p = rw t' at e in
      let t = told_found u (state_in f) p a n r m a' n' r' (rw here at told) in
      let right : u ≡ 0 → Right (state_in f) p (answer (state_in f) p) = λ k. rounded_right u (state_in f) p k (rw (t', here) at rounded) in
      record { number = t.0 ∙ sym (accepted_file f s reads u); answer = t.1; count = t.2; radius = t.3; right = λ k. rw (t.1, eq-eqb m 0 k) (right (sym t.0 ∙ k)) }

  pub many_found : (b d : List ℕ) (m : ℕ) (d' : List ℕ) → AnswersInto held b d m d' → ManyFound f b d m d'
  many_found b d m d' h =
      let g : AnswersInto (state_in f) b d m d' = rw reads.state at h in
      record { number = g.number ∙ sym (accepted_file f s reads (lookups_refusal (state_in f) (locations_in b) (length d))); bytes = g.bytes; right = g.right }
