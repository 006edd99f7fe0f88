-- `header_length` meets its contract: it adds up the digits of five numbers.
use native.Mathlib.Omega.{arith}
use Rattle.grid_rules.specs.GridOf.{grid_of}
use Rattle.esri_text.proofs.Header.{header_size}
use Rattle.esri_text.proofs.header_length.Goals as goal

pub returns : goal.returns
returns c = (omega (arith, header_size (grid_of c.args.g)), omega arith)
