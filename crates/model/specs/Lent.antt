-- What a list that is lent for neighbour records holds after the lookup: document 01, "Pull and mean".
use Rattle.std.specs.Prelude.{ℕ, cond, List, map, eqb, length}
use Rattle.model.specs.Lists.{laid}
use Rattle.model.specs.Point.{State, location}
use Rattle.model.specs.Answer.{Neighbour, neighbours}
use Rattle.model.specs.Refusals.{neighbours_refusal}

-- the records at its front, or, refused, what it held; f is how it holds a record
unfoldable pub neighbours_into : {A : Type 0} → (Neighbour → A) → State → ℕ → ℕ → List A → List A
unfolding neighbours_refusal neighbours
neighbours_into f s x y l = cond (eqb (neighbours_refusal x y (length l) s) 0) (laid (map f (neighbours s (location x y))) l) l
