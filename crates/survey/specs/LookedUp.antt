-- What a lookup answers: what is found, or document 01's number, and the neighbour records for a lent list.
use Rattle.std.specs.Prelude.{◌≡◌, ℕ, ◌≤◌, List, length, take, Result, Ok, Err, IfOk}
use Rattle.model.specs.Lists.{laid}
use Rattle.model.specs.Point.{Location, State, location}
use Rattle.model.specs.Choice.{choice}
use Rattle.model.specs.Mean.{Right}
use Rattle.model.specs.Answer.{answer, chosen_count}
use Rattle.model.specs.Refusals.{lookup_refusal, neighbours_refusal}
use Rattle.model.specs.Lent.{neighbours_into}
use Rattle.refusal.specs.declared.Refusal.{Refusal}
use Rattle.refusal.specs.Numbered.{number_of, told}
use Rattle.neighbour_records.specs.declared.Record.{Record}
use Rattle.neighbour_records.specs.Records.{record_of}
use Rattle.survey.specs.declared.Found.{Found}
use Rattle.survey.specs.declared.Decision.{Decision}

-- found: the answer, the count of chosen points and the radius R
abbrev pub found : State → Location → Found
found s p = record { answer = answer s p; count = chosen_count s p; radius = (choice s p).radius }

-- what is found, or the refusal n
abbrev pub found_unless : ℕ → State → Location → Result Found ℕ
found_unless n s p = told n (found s p)

unfoldable pub looked_up : State → ℕ → ℕ → Result Found ℕ
looked_up s x y = found_unless (lookup_refusal x y s) s (location x y)

-- where n neighbour records are lent
unfoldable pub looked_up_lent : State → ℕ → ℕ → ℕ → Result Found ℕ
looked_up_lent s x y n = found_unless (neighbours_refusal x y n s) s (location x y)

-- the answer's rounding, which the paper leaves free, is that of the definition; this holds of it
unfoldable pub Rounded : State → Location → Result Found ℕ → Type 0
Rounded s p (Ok f) = Right s p f.answer
Rounded s p (Err n) = Unit {0}

-- what a decision gives, and what a list that was l is after it
abbrev pub decided : Result Decision Refusal → Result Found ℕ
decided (Ok d) = Ok d.found
decided (Err e) = Err (number_of e)

abbrev pub list_after : Result Decision Refusal → List Record → List Record
list_after (Ok d) l = laid (take d.list.count d.list.items) l
list_after (Err e) l = l

-- the answer where n records are lent, and records that, written to the front of any such list, make of it what the model says
pub record Decides (s : State) (x y n : ℕ) (r : Result Decision Refusal) : Type 0 where
  pub answer : decided r ≡ looked_up_lent s x y n
  pub rounded : Rounded s (location x y) (decided r)
  pub few : IfOk r (λ d. d.list.count ≤ 10)
  pub fits : IfOk r (λ d. d.list.count ≤ n)
  pub list : (l : List Record) → length l ≡ n → list_after r l ≡ neighbours_into record_of s x y l
