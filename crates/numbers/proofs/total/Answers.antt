-- `total` meets its contract: the library's sum is the model's total.
use mathlib.Core.Path.{◌≡◌, ◌∙◌}
use borrow.Author.Rules.{rules}
use Rattle.std.specs.Prelude.{sum}
use Rattle.numbers.proofs.Totals.{total_is}
use Rattle.numbers.proofs.total.Goals as goal

pub returns : goal.returns
returns c =
    let e : c.sum.result ≡ sum c.args.s.now = search rules in
    e ∙ total_is c.args.s.now
