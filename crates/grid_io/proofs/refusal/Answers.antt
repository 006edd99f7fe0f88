-- `refusal` meets its contract: its text is the line of a label and a number.
use Prim.Native.Nat.{ℕ}
use mathlib.Core.List.{List, [], ◌∷◌}
use native.Mathlib.Omega.{arith}
use lib.ListN.{length, drop, length-append}
use lib.Seq.{take-append_seam}
use Rattle.model.specs.Program.{refused_text}
use Rattle.laws.proofs.DecimalLaws.{places_most}
use Rattle.digits.specs.Line.{line_of}
use Rattle.digits.proofs.Lines.{length_line}
use Rattle.grid_io.proofs.refusal.Goals as goal

abbrev label : List ℕ
label = 114 ∷ 101 ∷ 102 ∷ 117 ∷ 115 ∷ 101 ∷ 100 ∷ 32 ∷ []

pub line-length-requires : goal.line-length-requires
line-length-requires c =
    let n = c.args.no in
    omega (arith, length_line label n, places_most 2 n (omega arith), c.blank-bytes.ensures)

pub returns : goal.returns
unfolding refused_text
returns c =
    let l = c.line-length in
    let d = c.blank-bytes.result in
    let n = c.args.no in
    let text = line_of label n in
    rw (l.ensures.out_after, l.ensures.value) (record { front = take-append_seam text (drop (length text) d); room = omega (arith, length-append text (drop (length text) d)) })
