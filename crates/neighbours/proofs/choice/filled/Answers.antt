-- `filled` meets its contract: the neighbours are the first candidates, with their distances.
use Rattle.neighbours.proofs.Filling.{gives_selected}
use Rattle.neighbours.proofs.choice.filled.Goals as goal

pub returns : goal.returns
returns c = λ s p n k v q h e g. gives_selected s p _ v q n _ _ k _ _ h e g c.requires c.neighbours.ensures
