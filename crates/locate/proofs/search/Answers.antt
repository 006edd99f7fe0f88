-- `search` meets its contract: the points before i pass, whatever their values, and the one that it stops at does not.
use mathlib.Core.Path.{◌≡◌, sym, ap, ◌∙◌}
use native.Mathlib.Omega.{arith}
use mathlib.Core.Bool.{not}
use Rattle.locate.specs.Leading.{passes}
use Rattle.locate.proofs.SearchLaws.{search_start, search_more, search_stop, search_end}
use Rattle.locate.proofs.search.Goals as goal

pub loop-i-init : goal.loop-i-init
loop-i-init c =
    let a = c.args in
    (c.clamped-m.ensures, search_start (passes a.behind a.x a.y) a.xs.now a.ys.now a.n)

pub returns-then-stops : goal.returns-then-stops
returns-then-stops c =
    let l = c in
    let a = l.args in
    search_stop (passes a.behind a.x a.y) a.xs.now a.ys.now a.n l.loop-i.i (omega arith) l.loop-i.invariant.1
    (λ z. rw (c.coordinate-a.ensures, c.coordinate-b.ensures) at (sym (c.stops.ensures z)) ∙ ap not c.if-stops.true)

pub loop-i-preserved : goal.loop-i-preserved
loop-i-preserved c =
    let l = c in
    let a = l.args in (
      l.loop-i.invariant.0,
      search_more (passes a.behind a.x a.y) a.xs.now a.ys.now a.n l.loop-i.i (omega arith) l.loop-i.invariant.1
          (λ z. rw (c.coordinate-a.ensures, c.coordinate-b.ensures) at (sym (c.stops.ensures z)) ∙ ap not c.if-stops.false),
    )

pub returns : goal.returns
returns c =
    let l = c in
    let a = l.args in
    let e : l.clamped-m.result ≡ l.loop-i.i = omega arith in
    search_end (passes a.behind a.x a.y) a.xs.now a.ys.now a.n l.clamped-m.result l.clamped-m.ensures (rw (← e) at l.loop-i.invariant.1)
