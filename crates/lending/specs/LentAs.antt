-- What a lookup that is lent a list gives: its answer, what holds of the answer's rounding, and what the list holds after it.
use Rattle.std.specs.Prelude.{◌≡◌, ℕ, List, length, Result}
use Rattle.model.specs.Point.{State, location}
use Rattle.model.specs.Lent.{neighbours_into}
use Rattle.neighbour_records.specs.declared.Record.{Record}
use Rattle.neighbour_records.specs.Records.{record_of}
use Rattle.survey.specs.declared.Found.{Found}
use Rattle.survey.specs.LookedUp.{looked_up_lent, Rounded}

-- of a list that was l and is k after the lookup, with the answer a
abbrev pub LentAs : State → ℕ → ℕ → List Record → Result Found ℕ → List Record → Type 0
LentAs s x y l a k = (a ≡ looked_up_lent s x y (length l)) × Rounded s (location x y) a × (k ≡ neighbours_into record_of s x y l)
