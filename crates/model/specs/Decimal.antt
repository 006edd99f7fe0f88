-- Numbers in decimal, as lists of ASCII codes: how they are written, and how any decimal is read.
-- In order: digits; whole numbers; a list of codes cut into parts; decimals read, as exact fractions.
use Rattle.std.specs.Prelude.{ℕ, zero, suc, ◌+◌, ◌-◌, ◌*◌, ◌/◌, ◌%◌, ◌^◌, Bool, true, false, cond, ◌&&◌, List, [], ◌∷◌, ◌++◌, ltb, leb, eqb, ℤ, pos, negsuc, length}
use Rattle.std.proofs.Math.Option.{Option, none, some}
use Rattle.model.specs.Fraction.{Fraction, Signed, times_z}

-- the last digits of n, as many as the width says, the highest first
unfoldable pub digits_of : ℕ → ℕ → List ℕ
digits_of zero n = []
digits_of (suc width) n = digits_of width (n / 10) ++ ((48 + n % 10) ∷ [])

-- one, or one more than f gives, which is worked out then only
abbrev pub one_or_more : Bool → (Unit {0} → ℕ) → ℕ
one_or_more true f = 1
one_or_more false f = suc (f tt)

-- how many digits n has, where it has at most so many: one below ten, and else one more than its tens have
unfoldable pub places_in : ℕ → ℕ → ℕ
places_in zero n = 0
places_in (suc most) n = one_or_more (ltb n 10) (λ _. places_in most (n / 10))

-- n has at most n + 1 digits
unfoldable pub places : ℕ → ℕ
unfolding places_in
places n = places_in (suc n) n

-- a number with no leading zero
abbrev pub decimal : ℕ → List ℕ
decimal n = digits_of (places n) n

-- a minus sign before a number below zero
abbrev pub signed_decimal : ℤ → List ℕ
signed_decimal (pos n) = decimal n
signed_decimal (negsuc n) = 45 ∷ decimal (suc n)

abbrev pub is_digit : ℕ → Bool
is_digit c = leb 48 c && leb c 57

-- the number that digits state, read from the left, after others that state n; nothing where a code is no digit
abbrev pub stated_after : ℕ → List ℕ → Option ℕ
stated_after n [] = some n
stated_after n (c ∷ l) = cond (is_digit c) (stated_after (10 * n + (c - 48)) l) none

-- of one digit or more
abbrev pub stated : List ℕ → Option ℕ
stated [] = none
stated (c ∷ l) = stated_after 0 (c ∷ l)

-- a code before the first of some parts
abbrev pub before : ℕ → List (List ℕ) → List (List ℕ)
before c [] = []
before c (p ∷ l) = (c ∷ p) ∷ l

-- a list of codes cut at each code b: the parts before, between and after
unfoldable pub cut : ℕ → List ℕ → List (List ℕ)
cut b [] = [] ∷ []
cut b (c ∷ l) = cond (eqb c b) ([] ∷ cut b l) (before c (cut b l))

-- a whole part w, and d in k digits after the point
abbrev pub pointed : Option ℕ → Option ℕ → ℕ → Option Fraction
pointed none d k = none
pointed (some w) none k = none
pointed (some w) (some d) k = some (record { top = w * 10 ^ k + d; bot = 10 ^ k })

-- digits, or digits and digits that a point parts
abbrev pub unsigned_in : List (List ℕ) → Option Fraction
unsigned_in [] = none
unsigned_in (w ∷ []) = pointed (stated w) (some 0) 0
unsigned_in (w ∷ d ∷ []) = pointed (stated w) (stated d) (length d)
unsigned_in (w ∷ d ∷ e ∷ l) = none

abbrev pub times_sign : ℤ → Option Fraction → Option Signed
times_sign z none = none
times_sign z (some f) = some (times_z f z)

-- a decimal as one reads any: a minus sign or none, digits, and after a point digits
unfoldable pub decimal_read : List ℕ → Option Signed
unfolding cut times_z
decimal_read [] = none
decimal_read (c ∷ l) = cond (eqb c 45) (times_sign (negsuc 0) (unsigned_in (cut 46 l))) (times_sign (pos 1) (unsigned_in (cut 46 (c ∷ l))))
