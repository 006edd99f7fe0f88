-- A survey that calls left, written and loaded again, is the same survey; and a file that was loaded ends in the bytes that writing then gives.
use mathlib.Core.Path.{◌≡◌, sym, ap, ◌∙◌}
use Prim.Native.Nat.{ℕ}
use native.Mathlib.Omega.{arith}
use mathlib.Core.List.{List, []}
use lib.ListN.{take, drop}
use contract.Lifetimes.{Lfts}
use denote.Ref.{Bor}
use denote.MutBor.{MutBor}
use Rattle.std.specs.Prelude.{Result, Ok}
use Rattle.model.specs.Lists.{Bytes}
use Rattle.model.specs.Point.{State}
use Rattle.model.specs.Calls.{Call, Load, refusal, accepted}
use Rattle.model.specs.SurveyFile.{file_of, file_points, file_refusal, record_start}
use Rattle.laws.proofs.RoundTrip.{file_length, written_read, written_accepted, accepted_ends}
use Rattle.laws.proofs.CallLaws.{edited_accepted}
use Rattle.survey_file.proofs.SameSurvey.{written_file}
use Rattle.survey.specs.declared.Survey.{Survey}
use Rattle.refusal.specs.declared.Refusal.{Refusal}
use Rattle.refusal.proofs.Coded.{accepted_by}
use Rattle.survey.specs.StateOf.{contents_in, state_of}
use Rattle.survey.proofs.write.Reads as write-of
use Rattle.survey.proofs.load.Reads as load_of
use Rattle.history.specs.Runs.{Runs}
use Rattle.history.proofs.Runs.{survey_invariant}

points_of : {s t : State} → s ≡ t → s.contents.points ≡ t.contents.points
points_of e = ap (λ (u : State). u.contents.points) e

-- what `write` gave of such a survey, `load` accepts, and it leaves the same points
pub written_loads : {cs : List Call} {s : Survey} → Runs cs s → (κs : Lfts 1) (κs' : Lfts 2) (out out' : MutBor (List ℕ)) (n : ℕ)
    → write-of.Post κs (s, (out, tt)) (Ok n) (s, (out', tt))
    → (t t' : MutBor Survey) (file : Bor (List ℕ)) (r : Result (Unit {0}) Refusal) → file.now ≡ take n out'.now
    → load_of.Post κs' (t, (file, tt)) r (t', (file, tt))
    → (r ≡ Ok tt) × ((contents_in t'.now).points ≡ (contents_in s).points)
unfolding refusal accepted
written_loads {cs} {s} h κs κs' out out' n w t t' file r e l =
    let i = survey_invariant h in
    let p = (contents_in s).points in
    let f : file.now ≡ file_of p = e ∙ ap (take n) w.1 ∙ written_file p out.now n (sym w.0) in
    let none : file_refusal file.now ≡ 0 = rw f (written_accepted [] p i (omega (arith, file_length p, i.count))) in
    (accepted_by r (l.number ∙ none), points_of (l.state ∙ edited_accepted (Load file.now) (state_of t.now) none) ∙ ap file_points f ∙ written_read [] p i)

-- a file that `load` accepted ends in the bytes that `write` then gives
pub loaded_ends : (κs : Lfts 2) (κs' : Lfts 1) (t t' : MutBor Survey) (file : Bor (List ℕ)) → Bytes file.now
    → load_of.Post κs (t, (file, tt)) (Ok tt) (t', (file, tt))
    → (out out' : MutBor (List ℕ)) (n : ℕ) → write-of.Post κs' (t'.now, (out, tt)) (Ok n) (t'.now, (out', tt))
    → drop (record_start file.now) file.now ≡ take n out'.now
unfolding refusal accepted
loaded_ends κs κs' t t' file b l out out' n w =
    let none : file_refusal file.now ≡ 0 = sym l.number in
    accepted_ends file.now b none
    ∙ ap file_of (sym (points_of (l.state ∙ edited_accepted (Load file.now) (state_of t.now) none)))
    ∙ sym (ap (take n) w.1 ∙ written_file (contents_in t'.now).points out.now n (sym w.0))
