-- `answer_at` meets its contract: what `choose` ensures is what `answer_of` asks.
use mathlib.Core.Path.{◌≡◌, sym, ap, subst, ◌∙◌}
use Prim.Native.Nat.{ℕ}
use native.Mathlib.Omega.{arith}
use mathlib.Core.Bool.{true}
use mathlib.Core.List.{List}
use lib.IntN.{ℤ}
use lib.ListN.{length}
use mir.Syntax.{w16}
use mir.Facts.{to_z-of_z}
use Rattle.model.specs.Lists.{All}
use Rattle.model.specs.Point.{Location, Point, State, in_domain}
use Rattle.model.specs.Mean.{Right}
use Rattle.point_arrays.proofs.ReadLaws.{length_points, points_inside}
use Rattle.error_bound.proofs.AnswerRight.{answer_right}
use Rattle.metric.specs.declared.Viewpoint.{Viewpoint}
use Rattle.neighbours.specs.declared.Chosen.{Chosen}
use Rattle.neighbours.specs.Chose.{Chose}
use Rattle.lookup.specs.Asked.{Handed, Asked}
use Rattle.lookup.proofs.AnswerLaws.{in_range_lem}
use Rattle.lookup.proofs.answer_at.Goals as goal

asked : (s : State) (p : Location) (xs ys : List ℕ) (zs : List ℤ) (n : ℕ) (v : Viewpoint) (r0 : ℕ) (c : Chosen) → Handed s p xs ys zs n v r0 → Chose s p c → Asked s p c
asked s p xs ys zs n v r0 c h chose = record {
  domain = rw h.sees.location (h.proper.x, h.proper.y);
  some = omega (arith, h.some, ap length h.points, length_points xs ys zs n);
  inside = subst (All (λ (a : Point). in_domain a.x a.y ≡ true)) (sym h.points) (points_inside xs ys zs n);
  kept = rw (← h.radius) h.reach;
  chose = chose;
}

pub answer_of-a-requires : goal.answer_of-a-requires
answer_of-a-requires c =
    let h = c.requires.2 in
    (c.requires.0, c.requires.1, asked c.requires.0 c.requires.1 _ _ _ _ _ _ c.choose-c.result h (c.choose-c.ensures c.requires.0 c.requires.1 h.points h.sees h.radius))

pub returns : goal.returns
returns c = λ s p h.
    let k = c.choose-c in
    let chose = k.ensures s p h.points h.sees h.radius in
    let A = asked s p _ _ _ _ _ _ k.result h chose in
    let same = to_z-of_z {w = w16} (record { sfits = c.answer_of-a.type_inv }) ∙ c.answer_of-a.ensures s p A in
    record {
      answer = same;
      right = subst (λ (z : ℤ). Right s p z) (sym same) (answer_right s p (in_range_lem s p k.result A));
      chosen = chose;
    }
