-- Every list of calls that the functions' parameters can hold is that of some bytes, so what is proved of all bytes is proved of every such list.
use mathlib.Core.Path.{◌≡◌, refl, ap, ◌∙◌}
use Prim.Native.Nat.{ℕ, suc, ◌+◌, ◌*◌, ◌/◌, ◌%◌, ◌<◌}
use native.Mathlib.Nat.{mod-eq_of_lt}
use native.Mathlib.Omega.{arith}
use mathlib.Core.List.{List, [], ◌∷◌, ◌++◌, flat_map}
use lib.IntN.{ℤ}
use lib.ListN.{length, take, drop, length-append}
use lib.Seq.{take-append_seam, drop-append_seam}
use Rattle.std.specs.Prelude.{Result}
use Rattle.model.specs.Lists.{All, Bytes}
use Rattle.model.specs.Bytes.{bytes4, complement, signed}
use contract.Lifetimes.{Lfts}
use denote.Ref.{Bor}
use Rattle.model.specs.Calls.{Call, Add, Change, Drop, Clear, Load, Ask, present}
use Rattle.laws.proofs.ListLaws.{all_append}
use Rattle.laws.proofs.ValueLaws.{mag_below}
use Rattle.laws.proofs.Numbers.{long_back, bytes4_bytes, signed_back, complement_below}
use Rattle.extent.specs.declared.Extent.{Extent}
use Rattle.extent.specs.Kept.{as_extent}
use Rattle.neighbour_records.specs.declared.Record.{Record}
use Rattle.refusal.specs.declared.Refusal.{Refusal}
use Rattle.refusal.specs.Numbered.{numbered}
use Rattle.survey.specs.declared.Found.{Found}
use Rattle.lending.specs.declared.AnswerWithRecords.{AnswerWithRecords}
use Rattle.history.specs.Claim.{Claim, ClaimLent, ClaimKept}
use Rattle.history.specs.Encoding.{call_of, file_length, numbers_at, first_calls, calls}
use Rattle.history.specs.Encoded.{call_record, call_bytes, call_file, encoded, files, SignedWord, Callable}
use Rattle.history.proofs.Turns.{first_call}
use Rattle.history.proofs.run_calls.Reads as run-calls-of
use Rattle.history.proofs.run_calls_extent.Reads as run-calls-extent-of
use Rattle.history.proofs.run_calls_lending.Reads as run-calls-lending-of

-- the last 32 bits
abbrev low : ℕ → ℕ
low n = n % 4294967296

numbers_back : (op a b c d e f : ℕ) (j : List ℕ) → numbers_at (call_record op a b c d e f ++ j) 1 ≡ low a ∷ low b ∷ low c ∷ low d ∷ low e ∷ low f ∷ []
numbers_back op a b c d e f j = rw (long_back a, long_back b, long_back c, long_back d, long_back e, long_back f)

record_back : (op a b c d e f n : ℕ) (j fs : List ℕ)
    → let w : List ℕ = low a ∷ low b ∷ low c ∷ low d ∷ low e ∷ low f ∷ [] in
    first_calls (suc n) (call_record op a b c d e f ++ j) fs ≡ call_of op w (take (file_length op w) fs) ∷ first_calls n j (drop (file_length op w) fs)
record_back op a b c d e f n j fs = first_call n (call_record op a b c d e f ++ j) fs ∙ rw (numbers_back op a b c d e f j)

value_back : (z : ℤ) → SignedWord z → signed 2147483648 (low (complement 2147483648 z)) ≡ z
value_back z h =
    let k = mag_below z 2147483647 h.0 h.1 in
    rw (mod-eq_of_lt (complement_below 2147483648 z k)) (signed_back 2147483648 z k)

call_back : (c : Call) (n : ℕ) (j fs : List ℕ) → Callable c → first_calls (suc n) (call_bytes c ++ j) (call_file c ++ fs) ≡ c ∷ first_calls n j fs
unfolding call_of file_length
call_back (Add x y z) n j fs h = record_back 0 x y (complement 2147483648 z) 0 0 0 n j fs ∙ rw (mod-eq_of_lt h.0.0, mod-eq_of_lt h.0.1, value_back z h.1)
call_back (Change x y z) n j fs h = record_back 1 x y (complement 2147483648 z) 0 0 0 n j fs ∙ rw (mod-eq_of_lt h.0.0, mod-eq_of_lt h.0.1, value_back z h.1)
call_back (Drop x y) n j fs h = record_back 2 x y 0 0 0 0 n j fs ∙ rw (mod-eq_of_lt h.0, mod-eq_of_lt h.1)
call_back Clear n j fs h = record_back 3 0 0 0 0 0 0 n j fs
call_back (Load f) n j fs h =
    let e : 4294967296 * low (length f / 4294967296) + low (length f) ≡ length f = omega arith in
    record_back 4 (length f / 4294967296) (length f) 0 0 0 0 n j (f ++ fs) ∙ rw (e, take-append_seam, drop-append_seam)
call_back Ask n j fs h = record_back 255 0 0 0 0 0 0 n j fs

each_back : (cs : List Call) → All Callable cs → first_calls (length cs) (encoded cs) (files cs) ≡ cs
unfolding first_calls encoded files flat_map
each_back [] h = refl
each_back (c ∷ cs) h = call_back c (length cs) (encoded cs) (files cs) h.0 ∙ ap (λ (l : List Call). c ∷ l) (each_back cs h.1)

-- a record r and its file f
record Written (r f : List ℕ) : Type 0 where
  size : length r ≡ 25
  bytes : Bytes r
  file : Bytes f

abbrev Byte : ℕ → Type 0
Byte b = b < 256

written_of : (op a b c d e f : ℕ) (file : List ℕ) → Byte op → Bytes file → Written (call_record op a b c d e f) file
written_of op a b c d e f file h k =
    let four : (m : ℕ) (l : List ℕ) → Bytes l → Bytes (bytes4 m ++ l) = λ m l g. all_append Byte (bytes4 m) l (bytes4_bytes m) g in
    record {
      size = refl;
      bytes = (
        h,
        four a (bytes4 b ++ bytes4 c ++ bytes4 d ++ bytes4 e ++ bytes4 f) (four b (bytes4 c ++ bytes4 d ++ bytes4 e ++ bytes4 f)
            (four c (bytes4 d ++ bytes4 e ++ bytes4 f) (four d (bytes4 e ++ bytes4 f) (four e (bytes4 f) (bytes4_bytes f))))),
      );
      file = k;
    }

written : (c : Call) → Callable c → Written (call_bytes c) (call_file c)
written (Add x y z) h = written_of 0 x y (complement 2147483648 z) 0 0 0 [] (omega arith) tt
written (Change x y z) h = written_of 1 x y (complement 2147483648 z) 0 0 0 [] (omega arith) tt
written (Drop x y) h = written_of 2 x y 0 0 0 0 [] (omega arith) tt
written Clear h = written_of 3 0 0 0 0 0 0 [] (omega arith) tt
written (Load f) h = written_of 4 (length f / 4294967296) (length f) 0 0 0 0 f (omega arith) h.0
written Ask h = written_of 255 0 0 0 0 0 0 [] (omega arith) tt

encoded_length : (cs : List Call) → All Callable cs → length (encoded cs) ≡ 25 * length cs
unfolding encoded flat_map
encoded_length [] h = refl
encoded_length (c ∷ cs) h = rw length-append (omega (arith, (written c h.0).size, encoded_length cs h.1))

pub every : (cs : List Call) → All Callable cs → calls (encoded cs) (files cs) ≡ cs
unfolding calls
every cs h =
    let n : length (encoded cs) / 25 ≡ length cs = omega (arith, encoded_length cs h) in
    rw n (each_back cs h)

pub encoded_bytes : (cs : List Call) → All Callable cs → Bytes (encoded cs)
unfolding encoded flat_map
encoded_bytes [] h = tt
encoded_bytes (c ∷ cs) h = all_append Byte (call_bytes c) (encoded cs) (written c h.0).bytes (encoded_bytes cs h.1)

pub files_bytes : (cs : List Call) → All Callable cs → Bytes (files cs)
unfolding files flat_map
files_bytes [] h = tt
files_bytes (c ∷ cs) h = all_append Byte (call_file c) (files cs) (written c h.0).file (files_bytes cs h.1)

-- Demand 3 of `run_calls` and of `run_calls_lending`, over every list of calls: where the bytes of a list are lent, the answer is right about what that list leaves
module _ (cs : List Call) (h : All Callable cs) (κs : Lfts 1) (records fs : Bor (List ℕ)) (er : records.now ≡ encoded cs) (ef : fs.now ≡ files cs) (x y : ℕ) where
  pub demand_3_encoded : (a : Result Found Refusal) → run-calls-of.Post κs (records, (fs, (x, (y, tt)))) a (records, (fs, (x, (y, tt)))) → Claim x y (present cs) (numbered a)
  demand_3_encoded a p = rw (er, ef, every cs h) at p.1

  pub demand_3_encoded_neighbours : (l : List Record) (n : ℕ) (r : AnswerWithRecords)
      → run-calls-lending-of.Post κs (records, (fs, (x, (y, (l, (n, tt)))))) r (records, (fs, (x, (y, (l, (n, tt))))))
      → ClaimLent x y (length (take n l)) (present cs) (numbered r.answer) l r.records
  demand_3_encoded_neighbours l n r p = rw (er, ef, every cs h) at p.1.1

-- §1 of `run_calls_extent`, over every list of calls
pub ends_encoded : (cs : List Call) → All Callable cs → (κs : Lfts 1) (records fs : Bor (List ℕ)) → records.now ≡ encoded cs → fs.now ≡ files cs
    → (e : Extent) → run-calls-extent-of.Post κs (records, (fs, tt)) e (records, (fs, tt)) → ClaimKept (present cs) (as_extent e)
ends_encoded cs h κs records fs er ef e p = rw (er, ef, every cs h) at p
