-- A list of calls written as bytes, and which calls the functions' parameters can hold.
use Rattle.std.specs.Prelude.{ℕ, ◌-◌, ◌/◌, ◌^◌, ◌<◌, ℤ, pos, negsuc, length, ◌≤ℤ◌}
use mathlib.Core.List.{List, [], ◌∷◌, ◌++◌, flat_map}
use Rattle.model.specs.Lists.{Bytes}
use Rattle.model.specs.Bytes.{bytes4, complement}
use Rattle.model.specs.Calls.{Call, Add, Change, Drop, Clear, Load, Ask}

-- the record of an operation and six numbers
abbrev pub call_record : ℕ → ℕ → ℕ → ℕ → ℕ → ℕ → ℕ → List ℕ
call_record op a b c d e f = op ∷ bytes4 a ++ bytes4 b ++ bytes4 c ++ bytes4 d ++ bytes4 e ++ bytes4 f

-- the 25 bytes of a call; a load has the high and the low 32 bits of its file's length, of which bytes4 takes the low ones
abbrev pub call_bytes : Call → List ℕ
call_bytes (Add x y z) = call_record 0 x y (complement (2 ^ 31) z) 0 0 0
call_bytes (Change x y z) = call_record 1 x y (complement (2 ^ 31) z) 0 0 0
call_bytes (Drop x y) = call_record 2 x y 0 0 0 0
call_bytes Clear = call_record 3 0 0 0 0 0 0
call_bytes (Load f) = call_record 4 (length f / 2 ^ 32) (length f) 0 0 0 0
call_bytes Ask = call_record 255 0 0 0 0 0 0

-- its file
abbrev pub call_file : Call → List ℕ
call_file (Add x y z) = []
call_file (Change x y z) = []
call_file (Drop x y) = []
call_file Clear = []
call_file (Load f) = f
call_file Ask = []

unfoldable pub encoded : List Call → List ℕ
unfolding flat_map
encoded cs = flat_map call_bytes cs

unfoldable pub files : List Call → List ℕ
unfolding flat_map
files cs = flat_map call_file cs

-- x and y are numbers of 32 bits, and z is one with a sign
abbrev pub Words : ℕ → ℕ → Type 0
Words x y = (x < 2 ^ 32) × (y < 2 ^ 32)

abbrev pub SignedWord : ℤ → Type 0
SignedWord z = (negsuc (2 ^ 31 - 1) ≤ℤ z) × (z ≤ℤ pos (2 ^ 31 - 1))

-- the functions' parameters hold what the call is handed; a file is a slice of bytes, fewer than 2^64
abbrev pub Callable : Call → Type 0
Callable (Add x y z) = Words x y × SignedWord z
Callable (Change x y z) = Words x y × SignedWord z
Callable (Drop x y) = Words x y
Callable Clear = Unit {0}
Callable (Load f) = Bytes f × (length f < 2 ^ 64)
Callable Ask = Unit {0}
