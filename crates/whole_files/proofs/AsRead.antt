-- What comes of counting and of writing the points of a file that was read.
use mathlib.Core.Path.{◌≡◌, refl, ap, ◌∙◌}
use Prim.Native.Nat.{ℕ}
use mathlib.Core.List.{List}
use lib.ListN.{length}
use borrow.Author.Tests.{ne_eqb}
use Rattle.std.specs.Prelude.{Ok}
use Rattle.model.specs.Point.{State}
use Rattle.model.specs.SurveyFile.{file_refusal, file_points}
use Rattle.survey.specs.declared.Survey.{Survey}
use Rattle.survey.specs.StateOf.{contents_in}
use Rattle.file_access.specs.Access.{Reads, Writes}
use Rattle.file_access.proofs.FileLaws.{saves_none}
use Rattle.whole_files.specs.Counts.{Counts}

-- a file that is refused with n
module _ (f : List ℕ) (n : ℕ) (e : n ≡ file_refusal f) (h : n ≡ 0 → ⊥) where
  pub counts_none : (k : ℕ) → Counts f k n k
  counts_none k = record { number = e; count = rw (ne_eqb n 0 h) refl }

  pub rewrites_none : (d : List ℕ) (k : ℕ) → Writes (file_refusal f) (file_points f) d k n d k
  rewrites_none d k = rw (← e) (saves_none n (file_points f) d k h)

-- and one that holds the survey s
module _ (f : List ℕ) (s : Survey) (reads : Reads f (Ok s)) where
  pub counts_points : (k n : ℕ) → n ≡ length (contents_in s).points → Counts f k 0 n
  counts_points k n e = record { number = reads.number; count = e ∙ ap (λ (z : State). length z.contents.points) reads.state }

  pub rewrites : (d : List ℕ) (k m : ℕ) (d' : List ℕ) (k' : ℕ) → Writes 0 (contents_in s).points d k m d' k' → Writes (file_refusal f) (file_points f) d k m d' k'
  rewrites d k m d' k' w = rw (reads.number, ap (λ (z : State). z.contents.points) reads.state) at w
