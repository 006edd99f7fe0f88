-- From a choice selected of the first points to the struct that holds it.
use mathlib.Core.Path.{◌≡◌, refl, sym, ap, ◌∙◌}
use Prim.Native.Nat.{ℕ, ◌≤◌, ◌<◌}
use native.Mathlib.Omega.{arith}
use mathlib.Core.Bool.{true}
use mathlib.Core.List.{List, [], ◌∷◌, map}
use lib.Dec.{leb}
use lib.ListN.{length, take}
use lib.Seq.{take-take, length-take-le}
use Rattle.model.specs.Lists.{All}
use Rattle.model.specs.Point.{Location, Point, State, in_range}
use Rattle.model.specs.Distance.{distance}
use Rattle.model.specs.Choice.{Choice, ordered}
use Rattle.laws.proofs.NearestLaws.{length_ordered}
use Rattle.metric.specs.declared.Viewpoint.{Viewpoint}
use Rattle.metric.specs.From.{Sees, Proper}
use Rattle.metric.proofs.FromLaws.{offset_x_seen, offset_y_seen}
use Rattle.neighbours.specs.declared.Neighbour.{Neighbour}
use Rattle.candidates.specs.declared.Candidates.{Candidates}
use Rattle.neighbours.specs.declared.Selection.{Selection}
use Rattle.neighbours.specs.Chose.{neighbour_at, Holds}
use Rattle.candidates.specs.First.{candidate_at}
use Rattle.neighbours.specs.Selects.{HoldsEnough, Selects, seen_from}
use Rattle.laws.proofs.ListLaws.{all_take}
use Rattle.laws.proofs.MapLaws.{take_map}

module _ (s : State) (p : Location) (v : Viewpoint) (sees : Sees s p v) (proper : Proper v) where
  abbrev Below : Point → Type 0
  Below a = (a.x < 4096) × (a.y < 4096)

  seen_one : (a : Point) → Below a → seen_from v (candidate_at s p a) ≡ neighbour_at s p a
  unfolding seen_from candidate_at neighbour_at distance
  seen_one a h = rw (offset_x_seen s p v sees a proper h.0 h.1, offset_y_seen s p v sees a proper h.0 h.1)

  seen_all : (l : List Point) → All Below l → map (seen_from v) (map (candidate_at s p) l) ≡ map (neighbour_at s p) l
  seen_all [] h = refl
  seen_all (a ∷ l) h = rw (seen_one a h.0, seen_all l h.1)

  pub gives_selected : (n m : ℕ) (b : Candidates) (k : Choice) (t : Selection) (a : List Neighbour) → HoldsEnough s p n b → m ≡ length s.contents.points
      → Selects s p k b t → t.count ≤ 10 → take t.count a ≡ map (seen_from v) (take t.count b.items)
      → Holds s p k (record { items = a; count = t.count; radius = t.radius; few = leb m 4 })
  gives_selected n m b k t a h em g few e =
      let first : take t.count b.items ≡ map (candidate_at s p) (take t.count (ordered s p)) =
      sym (take-take t.count b.count b.items g.held)
      ∙ ap (take t.count) h.items
      ∙ take_map (candidate_at s p) t.count (take b.count (ordered s p))
      ∙ ap (map (candidate_at s p)) (take-take t.count b.count (ordered s p) g.held) in
      let value : Point → Type 0 = λ a. in_range a.z ≡ true in
      let below : All Below (take t.count (ordered s p)) =
      rw (take-take t.count b.count (ordered s p) g.held) at (all_take Below t.count (take b.count (ordered s p)) h.inside) in
      record {
        size = few;
        count = rw (← g.points) (sym (length-take-le t.count (ordered s p) (omega (arith, g.held, h.present, length_ordered s p))));
        items = e ∙ ap (map (seen_from v)) first ∙ seen_all (take t.count (ordered s p)) below ∙ ap (map (neighbour_at s p)) g.points;
        values = rw (← g.points) (rw (take-take t.count b.count (ordered s p) g.held) at (all_take value t.count (take b.count (ordered s p)) h.values));
        radius = g.radius;
        few = ap (λ (i : ℕ). leb i 4) em;
      }
