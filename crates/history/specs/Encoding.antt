-- A list of calls as bytes, so that a program can be handed one: records of 25 bytes, the operation and six numbers of four bytes, high byte first.
-- The files of the loads stand one after the other in a second list of bytes.
use Rattle.std.specs.Prelude.{ℕ, zero, suc, ◌+◌, ◌*◌, ◌/◌, ◌^◌, cond, List, [], ◌∷◌, eqb, length, take, drop, get_or}
use Rattle.model.specs.Bytes.{long_at, signed}
use Rattle.model.specs.Calls.{Call, Add, Change, Drop, Clear, Load, Ask}

-- the call of an operation, its numbers w and its file: 0 add, 1 change, 2 drop, 3 clear, 4 load; any other only asks, as a plain lookup does
unfoldable pub call_of : ℕ → List ℕ → List ℕ → Call
call_of op w file =
    cond (eqb op 0) (Add (get_or w 0 0) (get_or w 1 0) (signed (2 ^ 31) (get_or w 2 0)))
    (cond (eqb op 1) (Change (get_or w 0 0) (get_or w 1 0) (signed (2 ^ 31) (get_or w 2 0)))
    (cond (eqb op 2) (Drop (get_or w 0 0) (get_or w 1 0))
    (cond (eqb op 3) Clear
    (cond (eqb op 4) (Load file) Ask))))

-- the length of a load's file, high 32 bits first
unfoldable pub file_length : ℕ → List ℕ → ℕ
file_length op w = cond (eqb op 4) (2 ^ 32 * get_or w 0 0 + get_or w 1 0) 0

-- six numbers, from index i on
abbrev pub numbers_at : List ℕ → ℕ → List ℕ
numbers_at j i = long_at j i ∷ long_at j (i + 4) ∷ long_at j (i + 8) ∷ long_at j (i + 12) ∷ long_at j (i + 16) ∷ long_at j (i + 20) ∷ []

-- of the record at the front of j: the length of its file, and the call, its file at the front of fs
abbrev pub length_in : List ℕ → ℕ
length_in j = file_length (get_or j 0 0) (numbers_at j 1)

abbrev pub call_in : List ℕ → List ℕ → Call
call_in j fs = call_of (get_or j 0 0) (numbers_at j 1) (take (length_in j) fs)

-- the calls of the first n records
unfoldable pub first_calls : ℕ → List ℕ → List ℕ → List Call
unfolding call_of file_length
first_calls zero j fs = []
first_calls (suc n) j fs = call_in j fs ∷ first_calls n (drop 25 j) (drop (length_in j) fs)

-- the calls of all records; fewer than 25 bytes at the end are no call
unfoldable pub calls : List ℕ → List ℕ → List Call
unfolding first_calls
calls j fs = first_calls (length j / 25) j fs
