-- A list put in order by a test of two elements, one after the other. Elements that the test does not part stay as they come.
use Rattle.std.specs.Prelude.{Bool, cond}
use mathlib.Core.List.{List, [], ◌∷◌}

module _ {A : Type 0} (before : A → A → Bool) where
  -- a, put in front of the first element that it comes before
  unfoldable pub insert : A → List A → List A
  insert a [] = a ∷ []
  insert a (b ∷ l) = cond (before a b) (a ∷ b ∷ l) (b ∷ insert a l)

  -- each element of the second list put into the first
  unfoldable pub sort_onto : List A → List A → List A
  unfolding insert
  sort_onto done [] = done
  sort_onto done (a ∷ l) = sort_onto (insert a done) l

  unfoldable pub sort : List A → List A
  unfolding sort_onto
  sort l = sort_onto [] l
