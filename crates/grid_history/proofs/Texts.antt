-- §2 of every program: whatever the calls, an Esri ASCII grid that is written after them states the grid over what the model says is present.
use mathlib.Core.Path.{◌≡◌}
use Prim.Native.Nat.{ℕ}
use mathlib.Core.List.{List}
use contract.Lifetimes.{Lfts}
use denote.Ref.{Bor}
use denote.MutBor.{MutBor}
use Rattle.std.specs.Prelude.{Result}
use Rattle.model.specs.Lists.{All}
use Rattle.model.specs.Calls.{Call, present}
use Rattle.refusal.specs.declared.Refusal.{Refusal}
use Rattle.refusal.specs.Numbered.{numbered}
use Rattle.survey.specs.declared.Survey.{Survey}
use Rattle.history.specs.Encoded.{encoded, files, Callable}
use Rattle.history.specs.Runs.{Runs}
use Rattle.history.proofs.Every.{every}
use Rattle.history.proofs.Runs.{leaves}
use Rattle.grid_rules.specs.declared.Grid.{Grid}
use Rattle.grid_rules.specs.GridOf.{grid_of}
use Rattle.esri.proofs.write.Reads as write-of
use Rattle.grid_history.specs.ClaimText.{ClaimText}
use Rattle.grid_history.proofs.ClaimLaws.{claim_text}
use Rattle.grid_history.proofs.run_calls_text.Reads as run-calls-text-of

-- of `esri::write` after any list of calls, lent bytes that are `out` before it and `left` after it
pub text_claimed : {cs : List Call} {s : Survey} → Runs cs s → (κs : Lfts 1) (g : Grid) (out left : MutBor (List ℕ)) (a : Result ℕ Refusal)
    → write-of.Post κs (s, (g, (out, tt))) a (s, (g, (left, tt))) → ClaimText (grid_of g) (present cs) out.now (numbered a) left.now
text_claimed {cs} h κs g out left a p =
    let q = rw (leaves h) at p in
    claim_text (grid_of g) (present cs) out.now (numbered a) left.now q.0 q.1.0 q.1.1.0

-- of `run_calls_text`, over every list of calls
pub text_encoded : (cs : List Call) → All Callable cs → (κs : Lfts 2) (records fs : Bor (List ℕ)) → records.now ≡ encoded cs → fs.now ≡ files cs
    → (g : Grid) (out left : MutBor (List ℕ)) (a : Result ℕ Refusal) → run-calls-text-of.Post κs (records, (fs, (g, (out, tt)))) a (records, (fs, (g, (left, tt))))
    → ClaimText (grid_of g) (present cs) out.now (numbered a) left.now
text_encoded cs h κs records fs er ef g out left a p = rw (er, ef, every cs h) at p.1.1
