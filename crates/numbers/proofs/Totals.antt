-- The total of the model is the sum that the library adds up.
use mathlib.Core.Path.{◌≡◌, refl, ap, ◌∙◌}
use mathlib.Core.List.{List, [], ◌∷◌}
use Prim.Native.Nat.{ℕ, ◌+◌}
use Rattle.std.specs.Prelude.{sum}
use Rattle.std.proofs.lemmas.List.Sums.{sum_by-cons}
use Rattle.model.specs.Bytes.{total}

pub total_is : (l : List ℕ) → sum l ≡ total l
total_is [] = refl
total_is (a ∷ l) = sum_by-cons (λ (n : ℕ). n) a l ∙ ap (λ (n : ℕ). a + n) (total_is l)
