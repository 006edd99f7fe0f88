-- The declared enum that carries an influence with its factor as a float, and what is read off it.
use Rattle.std.specs.Prelude.{ℕ, Bool, true, false, Float}
use Rattle.model.specs.Influence.{coincident, inverse, tapered, edge}
use Rattle.model.specs.Influence as model
use Rattle.model.specs.Computed.{zero_f, one_f, factor_f}
use Rattle.influence.specs.declared.Influence.{Influence}
use Rattle.influence.specs.declared.Influence.TheVariants.{Coincident, Inverse, Tapered, Edge}

abbrev pub carried : model.Influence → Influence
carried coincident = Coincident
carried (inverse d) = Inverse (factor_f (inverse d))
carried (tapered r d) = Tapered (factor_f (tapered r d))
carried edge = Edge

-- the reported number
abbrev pub kind_of : Influence → ℕ
kind_of Coincident = 0
kind_of (Inverse s) = 1
kind_of (Tapered s) = 2
kind_of Edge = 3

abbrev pub factor_of : Influence → Float
factor_of Coincident = one_f
factor_of (Inverse s) = s
factor_of (Tapered s) = s
factor_of Edge = zero_f

abbrev pub edge_of : Influence → Bool
edge_of Coincident = false
edge_of (Inverse s) = false
edge_of (Tapered s) = false
edge_of Edge = true
