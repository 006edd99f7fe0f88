-- What a file that is read gives, and what comes of writing one.
use mathlib.Core.Path.{◌≡◌, refl, sym, ◌∙◌}
use Prim.Native.Nat.{ℕ}
use mathlib.Core.Bool.{Bool, true, false, cond}
use mathlib.Core.List.{List}
use lib.Dec.{eqb}
use lib.ListN.{length}
use borrow.Author.Tests.{eqb-true, eq-eqb, ne_eqb}
use Rattle.std.specs.Prelude.{Result, Ok, Err}
use Rattle.model.specs.Point.{Point}
use Rattle.model.specs.Refusals.{or_else, afterwards}
use Rattle.model.specs.SurveyFile.{file_refusal, file_of, write_refusal, written_into}
use Rattle.refusal.specs.Numbered.{told}
use Rattle.survey_file.specs.Written.{written_as}
use Rattle.survey.specs.declared.Survey.{Survey}
use Rattle.file_access.specs.Access.{Reads, LengthTold, Writes}

-- a refused file decides
pub refused_file : (f : List ℕ) (n : ℕ) → n ≡ file_refusal f → (n ≡ 0 → ⊥) → (m : ℕ) → n ≡ or_else (file_refusal f) m
refused_file f n e h m = rw (← e, ne_eqb n 0 h) refl

-- and an accepted one leaves it to what follows
pub accepted_file : (f : List ℕ) (s : Survey) → Reads f (Ok s) → (m : ℕ) → or_else (file_refusal f) m ≡ m
accepted_file f s reads m = rw (eq-eqb (file_refusal f) 0 (sym reads.number)) refl

-- the number n of a written file and its length, as they are told
pub told_written : (n size k m k' : ℕ) → LengthTold (told n size) k m k' → (m ≡ n) × (k' ≡ afterwards m size k)
unfolding LengthTold
told_written n size k m k' h = by_test (eqb n 0) refl h
  where
    by_test : (t : Bool) → eqb n 0 ≡ t → LengthTold (cond t (Ok size) (Err n)) k m k' → (m ≡ n) × (k' ≡ afterwards m size k)
    by_test true u w = (w.0 ∙ sym (eqb-true n 0 u), rw (eq-eqb m 0 w.0) w.1)
    by_test false u w = (w.0, rw (w.0, u) w.1)

module _ (n : ℕ) (l : List Point) (d : List ℕ) (k : ℕ) where
  -- refused before anything is written
  pub saves_none : (n ≡ 0 → ⊥) → Writes n l d k n d k
  saves_none h = record { number = rw (ne_eqb n 0 h); bytes = rw (ne_eqb n 0 h); length = rw (ne_eqb n 0 h) }

  pub saves_file : n ≡ 0 → (w : Result ℕ ℕ) (d' : List ℕ) (m k' : ℕ) → w ≡ written_as l (length d) → d' ≡ written_into l d → LengthTold w k m k' → Writes n l d k m d' k'
  unfolding written_as written_into
  saves_file z w d' m k' e b t =
      let o = told_written (write_refusal l (length d)) (length (file_of l)) k m k' (rw e at t) in
      record { number = rw (eq-eqb n 0 z) o.0; bytes = rw o.0 b; length = o.1 }
