-- `put` meets its contract: as many bytes are spelled as n has digits.
use mathlib.Core.Path.{◌≡◌, sym}
use mathlib.Core.List.{List, ◌++◌}
use Prim.Native.Nat.{ℕ, ◌≤◌}
use native.Mathlib.Omega.{arith}
use lib.ListN.{length, take, drop}
use lib.Seq.{length-take-le}
use Rattle.model.specs.Lists.{laid}
use Rattle.model.specs.Decimal.{digits_of, places, decimal}
use Rattle.laws.proofs.DecimalLaws.{length_digits}
use Rattle.digits.proofs.put.Goals as goal

spelled : (k n : ℕ) (d t : List ℕ) → k ≡ places n → k ≤ length d → t ≡ digits_of (length (take k d)) n → t ++ drop k d ≡ laid (decimal n) d
spelled k n d t e h q = rw (q, length-take-le k d h, length_digits, e)

pub slice_bounds-spell-end-2 : goal.slice_bounds-spell-end-2
slice_bounds-spell-end-2 c = sym (length-take-le c.places-k.result c.args.out.now (omega arith))

pub returns : goal.returns
returns c =
    let k = c in
    let a = k.args in
    let s = c.spell in
    record {
      value = k.places-k.ensures.value;
      out_after = spelled k.places-k.result a.n a.out.now s.new.out k.places-k.ensures.value (omega arith) s.ensures;
    }
