-- A line piece by piece: how long it is, and what a list holds once it is written.
use mathlib.Core.Path.{◌≡◌, refl, sym, ap, ◌∙◌}
use mathlib.Core.List.{List, [], ◌∷◌, ◌++◌}
use Prim.Native.Nat.{ℕ, ◌+◌, ◌≤◌}
use native.Mathlib.Omega.{arith}
use lib.ListN.{length, take, drop, set, length-append}
use lib.Seq.{take_all}
use borrow.Rule.Slice.PartMut.{mid_of, put_mid}
use Rattle.model.specs.Lists.{laid}
use Rattle.model.specs.Decimal.{places, decimal}
use Rattle.laws.proofs.Stores.{length_laid}
use Rattle.laws.proofs.Writing.{first_written, all_written, write_piece, write_one}
use Rattle.laws.proofs.DecimalLaws.{length_digits}
use Rattle.digits.specs.Line.{line_of}

pub length_line : (label : List ℕ) (n : ℕ) → length (line_of label n) ≡ length label + places n + 1
length_line label n =
    omega (arith, length-append label (decimal n ++ (10 ∷ [])), length-append (decimal n) (10 ∷ []), length_digits (places n) n)

-- a label at the front of d, its number in the k bytes after it, which are the last, and a line feed
pub line_put : (label : List ℕ) (n at p k : ℕ) (d l t : List ℕ) → at ≡ length label → p ≡ places n → l ≡ take at label ++ drop at d → t ≡ laid (decimal n) (mid_of at k l)
    → length (line_of label n) ≤ length d → length d ≤ at + k
    → (set (put_mid at k l t) (at + p) 10 ≡ laid (line_of label n) d) × (length (set (put_mid at k l t) (at + p) 10) ≡ length d)
line_put label n at p k d l t a e f g h room =
    let size : length (decimal n) ≡ p = length_digits (places n) n ∙ sym e in
    let copied : l ≡ laid label d = f ∙ rw (a, take_all (length label) label (omega arith)) in
    let one = first_written {was = d} label (decimal n ++ (10 ∷ [])) refl at (sym a) in
    let two = write_piece one (decimal n) (10 ∷ []) refl p size k room in
    let three = write_one two 10 [] refl (omega (arith, length_line label n)) in
    let done = (all_written three refl).0 in
    rw (g, copied) (done, ap length done ∙ length_laid (line_of label n) d h)
