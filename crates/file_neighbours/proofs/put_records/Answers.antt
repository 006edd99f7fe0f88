-- `put_records` meets its contract by what `write` ensures of the records that the answer goes by.
use mathlib.Core.Path.{ap}
use native.Mathlib.Omega.{arith}
use Rattle.refusal.specs.Numbered.{numbered}
use Rattle.file_neighbours.proofs.Lends.{chosen_found, puts_none}
use Rattle.file_neighbours.proofs.put_records.Goals as goal

pub returns-in_default : goal.returns-in_default
returns-in_default c =
    let a = c.args in
    puts_none (numbered a.looked.answer) _ (ap numbered c.in_default.is) a.looked.records a.out.now

pub write-requires : goal.write-requires
write-requires c =
    let n = chosen_found (numbered c.args.looked.answer) _ (ap numbered c.in-Ok.is) in
    (omega (arith, n), omega (arith, n))

pub returns : goal.returns
returns c = rw (chosen_found (numbered c.args.looked.answer) _ (ap numbered c.in-Ok.is)) c.write.ensures
