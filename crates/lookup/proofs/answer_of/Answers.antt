-- `answer_of` meets its contract by the laws of AnswerLaws.
use mathlib.Core.Path.{sym, ap, ◌∙◌}
use mir.Syntax.{w8, w16}
use mir.Val.{SFits}
use mir.Facts.{to_z-of_z}
use borrow.Author.Rules.{rules}
use Rattle.model.specs.Computed.{mean_f}
use Rattle.weights.specs.Seen.{item_at, seen}
use Rattle.lookup.proofs.AnswerLaws.{bounded, answer_first, reach, answer_apart, apart_most}
use Rattle.lookup.proofs.answer_of.Goals as goal

pub returns-then-first-eq0 : goal.returns-then-first-eq0
returns-then-first-eq0 c = λ s p A.
    let z = (item_at c.args.c 0).z in
    let f : SFits w8 z = search rules in
    to_z-of_z {w = w16} (record { sfits = c.above.type_inv })
    ∙ c.above.ensures
    ∙ rw (to_z-of_z f) (sym (answer_first s p c.args.c A c.if-first-eq0.true))

pub mean_of-requires : goal.mean_of-requires
mean_of-requires c =
    bounded c.requires.0 c.requires.1 c.args.c c.requires.2

pub nearest_half-k-requires : goal.nearest_half-k-requires
nearest_half-k-requires c =
    let v = c.least_value-least in
    let g = to_z-of_z {w = w8} {z = v.result} (record { sfits = v.type_inv }) in
    reach c.requires.0 c.requires.1 c.args.c c.requires.2 c.if-first-eq0.false _ v.ensures _ (c.mean_of.ensures ∙ ap (mean_f (seen c.args.c)) g)

pub above-requires-2 : goal.above-requires-2
above-requires-2 c =
    let v = c.least_value-least in
    let g = to_z-of_z {w = w8} {z = v.result} (record { sfits = v.type_inv }) in
    let y = c.mean_of.ensures ∙ ap (mean_f (seen c.args.c)) g in (
      c.nearest_half-k.ensures.1,
      rw (g, c.nearest_half-k.ensures.0)
          (apart_most c.requires.0 c.requires.1 c.args.c c.requires.2 c.if-first-eq0.false v.result v.ensures c.mean_of.result y),
    )

pub returns : goal.returns
returns c = λ s p A.
    let v = c.least_value-least in
    let g = to_z-of_z {w = w8} {z = v.result} (record { sfits = v.type_inv }) in
    let y = c.mean_of.ensures ∙ ap (mean_f (seen c.args.c)) g in
    to_z-of_z {w = w16} (record { sfits = c.above-2.type_inv })
    ∙ c.above-2.ensures
    ∙ rw (g, c.nearest_half-k.ensures.0)
    (sym (answer_apart s p c.args.c A c.if-first-eq0.false v.result v.ensures c.mean_of.result y))
