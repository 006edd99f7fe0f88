-- Numbers as bytes, high byte first, and two's complement: what both file formats of document 01 go by.
use Rattle.std.specs.Prelude.{ℕ, suc, ◌+◌, ◌-◌, ◌*◌, ◌/◌, ◌%◌, Bool, true, false, cond, ◌&&◌, List, [], ◌∷◌, ◌++◌, ltb, eqb, ℤ, pos, negsuc, get_or}

-- the number of two bytes
abbrev pub word : ℕ → ℕ → ℕ
word a b = 256 * a + b

-- the number in the two bytes at index i of a list, and in the four
abbrev pub word_at : List ℕ → ℕ → ℕ
word_at f i = word (get_or f i 0) (get_or f (i + 1) 0)

abbrev pub long_at : List ℕ → ℕ → ℕ
long_at f i = 65536 * word_at f i + word_at f (i + 2)

-- the two bytes of a number below 65,536, and the four of one below 2^32
abbrev pub bytes2 : ℕ → List ℕ
bytes2 n = n / 256 % 256 ∷ n % 256 ∷ []

abbrev pub bytes4 : ℕ → List ℕ
bytes4 n = bytes2 (n / 65536) ++ bytes2 n

-- two's complement among h + h numbers: of a value, and back
abbrev pub complement : ℕ → ℤ → ℕ
complement h (pos n) = n
complement h (negsuc n) = h + h - suc n

abbrev pub signed : ℕ → ℕ → ℤ
signed h n = cond (ltb n h) (pos n) (negsuc (h + h - suc n))

abbrev pub same : List ℕ → List ℕ → Bool
same [] [] = true
same [] (b ∷ m) = false
same (a ∷ l) [] = false
same (a ∷ l) (b ∷ m) = eqb a b && same l m

-- the sum of a list's numbers
abbrev pub total : List ℕ → ℕ
total [] = 0
total (a ∷ l) = a + total l
