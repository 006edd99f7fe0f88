-- The documents' number of a refusal, and of what a call answers, 0 where it is accepted; and what a call tells.
use Rattle.std.specs.Prelude.{ℕ, cond, eqb, Result, Ok, Err}
use Rattle.refusal.specs.declared.Refusal.{Refusal}
use Rattle.refusal.specs.declared.Refusal.TheVariants.{OffDomain, OutOfRange, Taken, Missing, Full, Empty, GridRules, TooFewLent, FileLength, Magic, Count, BackDistance, Sum, RecordOffDomain, RecordOrder, UnequalSteps, NoRow}

abbrev pub number_of : Refusal → ℕ
number_of OffDomain = 1
number_of OutOfRange = 2
number_of Taken = 3
number_of Missing = 4
number_of Full = 5
number_of Empty = 6
number_of GridRules = 7
number_of TooFewLent = 8
number_of FileLength = 9
number_of Magic = 10
number_of Count = 11
number_of BackDistance = 12
number_of Sum = 13
number_of RecordOffDomain = 14
number_of RecordOrder = 15
number_of UnequalSteps = 16
number_of NoRow = 17

abbrev pub code : {A : Type 0} → Result A Refusal → ℕ
code (Ok a) = 0
code (Err e) = number_of e

-- a result with the number in place of the refusal
abbrev pub numbered : {A : Type 0} → Result A Refusal → Result A ℕ
numbered (Ok a) = Ok a
numbered (Err e) = Err (number_of e)

-- refused with n, or, with n = 0, given a
abbrev pub told : {A : Type 0} → ℕ → A → Result A ℕ
told n a = cond (eqb n 0) (Ok a) (Err n)
