-- `text_length` meets its contract by those of its two parts.
use native.Mathlib.Omega.{arith}
use Rattle.grid_rules.specs.GridOf.{grid_of}
use Rattle.esri_text.proofs.Rows.{text_size}
use Rattle.esri_text.proofs.text_length.Goals as goal

pub returns : goal.returns
returns c = (omega (arith, text_size (grid_of c.args.g) c.args.values.now c.requires), omega arith)
