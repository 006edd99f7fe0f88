-- Demand 3 of every program: whatever the calls, a lookup after them is right about what the model says is present; and what the survey then holds and keeps.
use mathlib.Core.Path.{◌≡◌, sym, ap, ◌∙◌}
use Prim.Native.Nat.{ℕ, ◌<◌}
use mathlib.Core.List.{List}
use lib.ListN.{length, take}
use Rattle.std.specs.Prelude.{Result, Ok}
use Rattle.model.specs.Point.{Contents, State}
use Rattle.model.specs.Extent.{extent_of, settled, Shrinks}
use Rattle.model.specs.Calls.{Call, Drop, refusal, after, after_all, present, edited}
use Rattle.model.specs.Invariant.{Invariant}
use Rattle.laws.proofs.CallLaws.{after_ask, edited_settled, present_more}
use Rattle.laws.proofs.HistoryInvariant.{history_invariant}
use Rattle.laws.proofs.ExtentLaws.{drop_shrinks}
use Rattle.extent.specs.declared.Extent.{Extent}
use Rattle.extent.specs.Kept.{as_extent}
use Rattle.neighbour_records.specs.declared.Record.{Record}
use Rattle.survey.specs.declared.Survey.{Survey}
use Rattle.refusal.specs.declared.Refusal.{Refusal}
use Rattle.refusal.specs.Numbered.{numbered}
use Rattle.survey.specs.declared.Found.{Found}
use Rattle.survey.specs.StateOf.{contents_in, state_of, Plain}
use Rattle.survey.specs.Replies.{Replies}
use Rattle.survey.proofs.extent.Reads as extent-of
use Rattle.survey.proofs.lookup.Reads as lookup-of
use Rattle.lending.specs.declared.AnswerWithRecords.{AnswerWithRecords}
use Rattle.lending.specs.LentAs.{LentAs}
use Rattle.lending.proofs.lookup_lending.Reads as lookup-lending-of
use Rattle.history.specs.Claim.{Claim, ClaimLent, ClaimKept}
use Rattle.history.specs.Runs.{Makes, add, change, drop, clear, load, asks, Runs, fresh, more}
use Rattle.history.proofs.ClaimLaws.{claim_of, claim_lent_of, claim_lending_of, claim_kept}

-- an edit of a survey whose state is settled
pub replied : (c : Call) (s t : Survey) (r : Result (Unit {0}) Refusal) → Replies c s r t → (q : Contents) → state_of s ≡ settled q → state_of t ≡ settled (after c q)
replied c s t r p q e = p.state ∙ ap (edited c) e ∙ edited_settled c q

-- one call leaves in the survey what the model says, and nothing that is read otherwise than it stands
pub made : {c : Call} {s t : Survey} → Makes c s t → (q : Contents) → state_of s ≡ settled q → state_of t ≡ settled (after c q)
made (add κs s t x y z r p) = replied _ s.now t.now r p
made (change κs s t x y z r p) = replied _ s.now t.now r p
made (drop κs s t x y r p) = replied _ s.now t.now r p
made (clear κs s t p) = replied _ s.now t.now (Ok tt) p
made (load κs s t file r p) = replied _ s.now t.now r p
made (asks s) = λ q e. e ∙ ap settled (sym (after_ask q))

made_plain : {c : Call} {s t : Survey} → Makes c s t → Plain s → Plain t
made_plain (add κs s t x y z r p) = p.plain
made_plain (change κs s t x y z r p) = p.plain
made_plain (drop κs s t x y r p) = p.plain
made_plain (clear κs s t p) = p.plain
made_plain (load κs s t file r p) = p.plain
made_plain (asks s) = λ p. p

-- a list of calls leaves in the survey what the model says is present
pub leaves : {cs : List Call} {s : Survey} → Runs cs s → state_of s ≡ settled (present cs)
unfolding present after_all
leaves (fresh s p) = p.0
leaves (more cs c s t h m) = made m (present cs) (leaves h) ∙ ap settled (sym (present_more cs c))

pub stays_plain : {cs : List Call} {s : Survey} → Runs cs s → Plain s
stays_plain (fresh s p) = p.1
stays_plain (more cs c s t h m) = made_plain m (stays_plain h)

-- at most 256 points, ascending, in the domain and in range
pub survey_invariant : {cs : List Call} {s : Survey} → Runs cs s → Invariant (contents_in s).points
survey_invariant {cs} h = rw (ap (λ (t : State). t.contents.points) (leaves h)) (history_invariant cs)

module _ {cs : List Call} {s : Survey} (h : Runs cs s) (x y : ℕ) where
  pub demand_3 : (a : Result Found Refusal) → lookup-of.Post tt (s, (x, (y, tt))) a (s, (x, (y, tt))) → Claim x y (present cs) (numbered a)
  demand_3 a p = claim_of x y (present cs) (numbered a) (rw (leaves h) at p.0) (rw (leaves h) at p.1)

  -- of `lookup_neighbours`, lent a list that was l and is k after it: its contract's clause
  pub demand_3_lent : (l k : List Record) (a : Result Found ℕ) → LentAs (state_of s) x y l a k → ClaimLent x y (length l) (present cs) a l k
  demand_3_lent l k a p = claim_lent_of x y (present cs) l a k (rw (leaves h) at p)

  -- of `lookup_lending`, lent the first n records of l
  pub demand_3_lending : (l : List Record) (n : ℕ) (r : AnswerWithRecords) → lookup-lending-of.Post tt (s, (x, (y, (l, (n, tt))))) r (s, (x, (y, (l, (n, tt)))))
      → ClaimLent x y (length (take n l)) (present cs) (numbered r.answer) l r.records
  demand_3_lending l n r p = let f = rw (leaves h) at p in claim_lending_of x y (present cs) (numbered r.answer) l r.records n f.0 f.1 f.2

-- §1 and §4 of every program: whatever the calls, the refused ones among them, `extent` gives what is kept of the points that are present, R0 by the polygon around them
module _ {cs : List Call} {s : Survey} (h : Runs cs s) where
  kept_is : (e : Extent) → extent-of.Post tt (s, tt) e (s, tt) → as_extent e ≡ extent_of (present cs)
  kept_is e p = p ∙ ap (λ (t : State). t.extent) (leaves h)

  pub ends_kept : (e : Extent) → extent-of.Post tt (s, tt) e (s, tt) → ClaimKept (present cs) (as_extent e)
  ends_kept e p = claim_kept (present cs) (as_extent e) (history_invariant cs) (kept_is e p)

-- a corner that is dropped, where another point is left, shrinks the rectangle again
pub corner_dropped : {cs : List Call} {s t : Survey} (x y : ℕ) → Runs cs s → Makes (Drop x y) s t → refusal (Drop x y) (present cs) ≡ 0 → 1 < length (present cs).points
    → (e : Extent) → extent-of.Post tt (t, tt) e (t, tt) → Shrinks x y (present cs).points (as_extent e)
corner_dropped {cs} x y h m dropped others e p =
    rw (kept_is (more cs (Drop x y) _ _ h m) e p, present_more cs (Drop x y)) (drop_shrinks x y (present cs) (history_invariant cs) dropped others)
