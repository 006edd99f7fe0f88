-- What the first points in order tell: whether a point is at the location, and who is chosen.
use mathlib.Core.Path.{◌≡◌, refl, sym, ap, ◌∙◌}
use Prim.Native.Nat.{ℕ, zero, suc, ◌≤◌, ◌<◌}
use native.Mathlib.Nat.{not-suc-le-zero}
use native.Mathlib.Omega.{arith}
use mathlib.Core.Bool.{Bool, true, false, false≢true}
use mathlib.Core.List.{List, [], ◌∷◌}
use lib.Dec.{eqb}
use lib.ListN.{length, take, get_or, length-take}
use lib.Seq.{take_all, get_or-take}
use borrow.Author.Tests.{eq-eqb, ne_eqb}
use Rattle.model.specs.Point.{Location, Point, State, at, no_point}
use Rattle.model.specs.Distance.{squared, distance_of, distance}
use Rattle.model.specs.Choice.{ordered, distance_at, choice_apart, starts_at, coincident, choice}
use Rattle.laws.proofs.RootLaws.{distance_pos}
use Rattle.laws.proofs.ChoiceLaws.{squared_zero, squared_apart}
use Rattle.laws.proofs.NearestLaws.{length_ordered, within_le, choice_coincident, choice_otherwise, rule_few, rule_four, rule_some, rule_ten}
use Rattle.candidates.specs.declared.Candidate.{Candidate}
use Rattle.candidates.specs.declared.Candidates.{Candidates}
use Rattle.candidates.specs.First.{candidate_at, no_candidate}
use Rattle.neighbours.specs.declared.Selection.{Selection}
use Rattle.neighbours.specs.Selects.{HoldsEnough, Selects}
use Rattle.laws.proofs.MapLaws.{get_d_map}

-- D is 0 of a point at p alone, as tests
zero_test : (s : State) (p : Location) (a : Point) → eqb (distance s p a) 0 ≡ at p.x p.y a
unfolding distance
zero_test s p a = go (at p.x p.y a) refl
  where
    go : (t : Bool) → at p.x p.y a ≡ t → eqb (distance s p a) 0 ≡ t
    go true e = eq-eqb (distance s p a) 0 (ap distance_of ((squared_zero s p a).1 e))
    go false e = let h : 0 < distance s p a = distance_pos (squared s p a) (squared_apart s p a e) in ne_eqb (distance s p a) 0 (λ z. omega arith)

starts_first : (s : State) (p : Location) (l : List Point) → 0 < length l → eqb (distance s p (get_or l 0 no_point)) 0 ≡ starts_at p l
unfolding starts_at
starts_first s p [] h = absurd (not-suc-le-zero h)
starts_first s p (a ∷ l) h = zero_test s p a

starts_none : (p : Location) (l : List Point) → length l ≡ 0 → false ≡ starts_at p l
unfolding starts_at
starts_none p [] h = refl
starts_none p (a ∷ l) h = absurd (omega arith)

module _ (s : State) (p : Location) (k : ℕ) (b : Candidates) (h : HoldsEnough s p k b) where
  distance_at_lem : (i : ℕ) → i < b.count → (get_or b.items i no_candidate).distance ≡ distance_at s p i
  unfolding candidate_at distance_at
  distance_at_lem i g =
      let n = length_ordered s p in
      let e : get_or b.items i no_candidate ≡ candidate_at s p (get_or (ordered s p) i no_point) =
      sym (get_or-take b.count b.items i no_candidate g)
      ∙ ap (λ (l : List Candidate). get_or l i no_candidate) h.items
      ∙ get_d_map (candidate_at s p) (take b.count (ordered s p)) i no_candidate no_point (omega (arith, length-take b.count (ordered s p), h.present))
      ∙ ap (candidate_at s p) (get_or-take b.count (ordered s p) i no_point g) in
      ap (λ (a : Candidate). a.distance) e

  pub at_none : b.count ≡ 0 → false ≡ coincident s p
  unfolding coincident
  at_none e = starts_none p (ordered s p) (omega (arith, h.enough, length_ordered s p))

  pub at_first : (b.count ≡ 0 → ⊥) → eqb (get_or b.items 0 no_candidate).distance 0 ≡ coincident s p
  unfolding coincident distance_at
  at_first ne = rw (distance_at_lem 0 (omega arith)) (starts_first s p (ordered s p) (omega (arith, h.present, length_ordered s p)))

  some : coincident s p ≡ true → 0 < length s.contents.points
  unfolding coincident
  some e = go (length (ordered s p)) refl
    where
      go : (n : ℕ) → length (ordered s p) ≡ n → 0 < length s.contents.points
      go zero q = absurd (false≢true (starts_none p (ordered s p) q ∙ e))
      go (suc n) q = omega (arith, length_ordered s p)

  -- rule 1
  pub selects_first : coincident s p ≡ true → Selects s p (choice s p) b (record { count = 1; radius = 0 })
  selects_first e = rw (choice_coincident s p e) (record { held = omega (arith, h.enough, some e); points = refl; radius = refl })

  -- the others
  pub selects_otherwise : (t : Selection) → coincident s p ≡ false → Selects s p (choice_apart s p) b t → Selects s p (choice s p) b t
  selects_otherwise t e g = rw (choice_otherwise s p e) g

  -- these by how many are within R0
  pub selects_few : (m : ℕ) → m ≡ length s.contents.points → k ≤ 4 → m ≤ 4 → Selects s p (choice_apart s p) b (record { count = m; radius = 0 })
  selects_few m e l g =
      let n = length_ordered s p in
      rw (rule_few s p (omega (arith, h.within)) (omega arith)) (record {
        held = omega (arith, h.enough);
        points = take_all m (ordered s p) (omega arith) ∙ sym (take_all 4 (ordered s p) (omega arith));
        radius = refl;
      })

  pub selects_four : (m : ℕ) → m ≡ length s.contents.points → k ≤ 4 → 4 < m
      → Selects s p (choice_apart s p) b (record { count = 4; radius = (get_or b.items 4 no_candidate).distance })
  selects_four m e l g =
      let five : 4 < b.count = omega (arith, h.enough) in
      rw (rule_four s p (omega (arith, h.within)) (omega arith)) (record { held = omega arith; points = refl; radius = distance_at_lem 4 five })

  pub selects_within : (r : ℕ) → r ≡ s.extent.radius → 4 < k → k ≤ 10 → Selects s p (choice_apart s p) b (record { count = k; radius = r })
  selects_within r er l g =
      rw (rule_some s p (omega (arith, h.within)) (omega (arith, h.within)))
      (record { held = omega (arith, h.enough, h.within, within_le s p); points = rw h.within; radius = er })

  pub selects_ten : 10 < k → Selects s p (choice_apart s p) b (record { count = 10; radius = (get_or b.items 10 no_candidate).distance })
  selects_ten l =
      let eleven : 10 < b.count = omega (arith, h.enough, h.within, within_le s p) in
      rw (rule_ten s p (omega (arith, h.within))) (record { held = omega arith; points = refl; radius = distance_at_lem 10 eleven })
