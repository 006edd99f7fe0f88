-- Lists of calls as any program can make them: each gets the survey that the one before it left, and gives what its function's contract says,
-- as the check proved it of the code (`Post` of the function's generated module `Reads`).
use Rattle.std.specs.Prelude.{ℕ, List, [], ◌∷◌, ◌++◌, ℤ, Result}
use contract.Lifetimes.{Lfts}
use Rattle.std.specs.Borrow.{Bor, MutBor}
use Rattle.model.specs.Calls.{Call, Add, Change, Drop, Clear, Load, Ask}
use Rattle.survey.specs.declared.Survey.{Survey}
use Rattle.refusal.specs.declared.Refusal.{Refusal}
use Rattle.survey.proofs.fresh.Reads as fresh-of
use Rattle.survey.proofs.add.Reads as add-of
use Rattle.survey.proofs.change.Reads as change-of
use Rattle.survey.proofs.drop.Reads as drop_of
use Rattle.survey.proofs.clear.Reads as Clear-of
use Rattle.survey.proofs.load.Reads as load_of

-- the call, made on the survey in front of it, left the one behind it
pub data Makes : Call → Survey → Survey → Type 0 where
  add : (κs : Lfts 1) (s t : MutBor Survey) (x y : ℕ) (z : ℤ) (r : Result (Unit {0}) Refusal) → add-of.Post κs (s, (x, (y, (z, tt)))) r (t, (x, (y, (z, tt)))) → Makes (Add x y z) s.now t.now
  change : (κs : Lfts 1) (s t : MutBor Survey) (x y : ℕ) (z : ℤ) (r : Result (Unit {0}) Refusal) → change-of.Post κs (s, (x, (y, (z, tt)))) r (t, (x, (y, (z, tt)))) → Makes (Change x y z) s.now t.now
  drop : (κs : Lfts 1) (s t : MutBor Survey) (x y : ℕ) (r : Result (Unit {0}) Refusal) → drop_of.Post κs (s, (x, (y, tt))) r (t, (x, (y, tt))) → Makes (Drop x y) s.now t.now
  clear : (κs : Lfts 1) (s t : MutBor Survey) → Clear-of.Post κs (s, tt) tt (t, tt) → Makes Clear s.now t.now
  load : (κs : Lfts 2) (s t : MutBor Survey) (file : Bor (List ℕ)) (r : Result (Unit {0}) Refusal) → load_of.Post κs (s, (file, tt)) r (t, (file, tt)) → Makes (Load file.now) s.now t.now
  -- a lookup, a grid, a begin, a row, a file written: it gets the survey by value, and its caller's stays, whatever it is handed and gives
  asks : (s : Survey) → Makes Ask s s

-- the survey s is what the calls cs, made one after the other on a fresh survey, left
pub data Runs : List Call → Survey → Type 0 where
  fresh : (s : Survey) → fresh-of.Post tt tt s tt → Runs [] s
  more : (cs : List Call) (c : Call) (s t : Survey) → Runs cs s → Makes c s t → Runs (cs ++ c ∷ []) t
