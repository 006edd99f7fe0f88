-- A closed case that holds the definition to what is meant.
use Rattle.std.specs.Prelude.{◌≡◌, refl}
use mathlib.Core.List.{[], ◌∷◌, flat_map}
use Rattle.digits.specs.Hexadecimal.{hexadecimal}

pub bytes : hexadecimal (0 ∷ 15 ∷ 165 ∷ 255 ∷ []) ≡ 48 ∷ 48 ∷ 48 ∷ 102 ∷ 97 ∷ 53 ∷ 102 ∷ 102 ∷ []
unfolding hexadecimal flat_map
bytes = refl
