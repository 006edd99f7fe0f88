-- What the lists of a lookup hold of its neighbourhood: factors, and sums of directional terms.
use Rattle.std.specs.Prelude.{◌≡◌, List, ℕ, ◌<◌, Float, get_or}
use Rattle.std.specs.Float.{nan}
use Rattle.model.specs.Weight.{Neighbourhood}
use Rattle.model.specs.Computed.{sum_f, factor_at_f, term_f}

-- the first n elements are the factors of the first n
abbrev pub HasFactors : Neighbourhood → List Float → ℕ → Type 0
HasFactors h s n = (k : ℕ) → k < n → get_or s k nan ≡ factor_at_f h k

-- the first n elements are what the first n add to each other's directional terms
abbrev pub HasTerms : Neighbourhood → List Float → ℕ → Type 0
HasTerms h t n = (k : ℕ) → k < n → get_or t k nan ≡ sum_f (term_f h k) n
