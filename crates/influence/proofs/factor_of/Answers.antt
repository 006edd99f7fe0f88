use borrow.Author.Rules.{rules}
use Rattle.model.specs.Computed.{zero_f, one_f}
use Rattle.influence.proofs.factor_of.Goals as goal

pub returns-in-Coincident : goal.returns-in-Coincident
unfolding one_f
returns-in-Coincident c = search rules

pub returns-in-Edge : goal.returns-in-Edge
unfolding zero_f
returns-in-Edge c = search rules
