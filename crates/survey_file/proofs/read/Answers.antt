-- `read` meets its contract: a trailer that passes gives the part in which the records stand, and their fault is then the file's.
use mathlib.Core.Path.{◌≡◌, sym, ap, ◌∙◌}
use Prim.Native.Nat.{ℕ, ◌-◌, ◌*◌}
use native.Mathlib.Omega.{arith}
use borrow.Author.Rules.{rules}
use mathlib.Core.List.{List}
use lib.ListN.{length, take, drop}
use Rattle.model.specs.SurveyFile.{file_refusal, trailer_check, fault, points_of, file_points, trailer_start, count_in, records_in}
use Rattle.laws.proofs.TrailerLaws.{Passing, passing_facts, passing_check, check_first}
use Rattle.laws.proofs.RoundTrip.{length_in}
use Rattle.trailer.proofs.Ends.{part_is}
use Rattle.point_arrays.proofs.HeldLaws.{length_held}
use Rattle.refusal.proofs.Coded.{never_0, passed_on}
use Rattle.survey_file.proofs.read.Goals as goal

-- the part of a file that is handed on for n records
abbrev handed : List ℕ → ℕ → List ℕ
handed f n = take (trailer_start f - (trailer_start f - 5 * n)) (drop (trailer_start f - 5 * n) f)

module _ (f : List ℕ) (n : ℕ) (p : Passing f) (e : n ≡ count_in f) where
  handed_is : handed f n ≡ records_in f
  handed_is = part_is f (5 * n) (omega (arith, p.back)) p.room

  -- their fault is the file's refusal
  refusal_is : (k : ℕ) → k ≡ fault (points_of (handed f n)) → k ≡ file_refusal f
  unfolding file_refusal file_points
  refusal_is k h = (rw handed_is at h) ∙ sym (passing_check f (fault (file_points f)) p)

pub returns-in_err-check : goal.returns-in_err-check
returns-in_err-check c =
    let f = c.args.file.now in
    let e = c.in_err-check.field-0.0 in
    let n = c.in_err-check.ensures in
    let refused : file_refusal f ≡ trailer_check f 0 = unfold file_refusal in check_first f (fault (file_points f)) (λ z. never_0 e (n ∙ z)) in
    record {
      refusal = passed_on _ e c.from_residual.ensures.1 ∙ n ∙ sym refused;
      points = search rules;
    }

pub overflow_sub-end : goal.overflow_sub-end
overflow_sub-end c = (passing_facts _ 0 (sym c.in_ok-check.ensures)).0.least

pub word_at-count-requires : goal.word_at-count-requires
word_at-count-requires c =
    let p = (passing_facts _ 0 (sym c.in_ok-check.ensures)).0 in
    omega arith

pub overflow_sub-start : goal.overflow_sub-start
overflow_sub-start c =
    let p = (passing_facts _ 0 (sym c.in_ok-check.ensures)).0 in
    omega (arith, p.room, p.back, c.word_at-count.ensures.value)

pub read-requires : goal.read-requires
read-requires c =
    let f = c.args.file.now in
    let p = (passing_facts f 0 (sym c.in_ok-check.ensures)).0 in
    let n = c.word_at-count.ensures.value in
    rw (handed_is f c.word_at-count.result p n) (omega (arith, length_in f p, p.back, n), omega (arith, p.few, n))

pub returns-in_err-p : goal.returns-in_err-p
returns-in_err-p c =
    let f = c.args.file.now in
    let p = (passing_facts f 0 (sym c.in_ok-check.ensures)).0 in
    record {
      refusal = passed_on _ c.in_err-p.field-0.0 c.from_residual-in_err-p.ensures.1 ∙ refusal_is f c.word_at-count.result p c.word_at-count.ensures.value _ c.in_err-p.ensures.refusal;
      points = search rules;
    }

pub returns : goal.returns
unfolding file_points
returns c =
    let f = c.args.file.now in
    let p = (passing_facts f 0 (sym c.in_ok-check.ensures)).0 in
    let points = rw (handed_is f c.word_at-count.result p c.word_at-count.ensures.value) at c.in_ok-p.ensures.points in
    record {
      refusal = refusal_is f c.word_at-count.result p c.word_at-count.ensures.value _ c.in_ok-p.ensures.refusal;
      points = record { points = points; count = sym (length_held _ _ _ c.word_at-count.result) ∙ ap length points };
    }
