-- Every lookup among points in the domain, in any order, the chosen ones with values in range, weighs a neighbourhood that the error bounds hold of.
use mathlib.Core.Path.{◌≡◌, refl}
use Prim.Native.Nat.{ℕ, ◌*◌, ◌^◌, ◌≤◌, ◌<◌}
use native.Mathlib.Nat.{mul-pos, mul-le-mul}
use mathlib.Core.Bool.{Bool, true, false, cond}
use lib.Dec.{leb, ltb, eqb}
use lib.ListN.{length, get_or}
use lib.Signed.{◌≤ℤ◌}
use borrow.Author.Tests.{ltb-true}
use Rattle.model.specs.Lists.{All}
use Rattle.model.specs.Point.{Location, Point, State, in_range, no_point}
use Rattle.model.specs.Distance.{distance}
use Rattle.model.specs.Choice.{few, coincident, choice}
use Rattle.model.specs.Influence.{influence_at, inverse, tapered, edge}
use Rattle.model.specs.Influence as influence
use Rattle.model.specs.Weight.{neighbourhood_of, neighbourhood}
use Rattle.model.specs.Mean.{least_chosen}
use Rattle.laws.proofs.ListLaws.{all_below}
use Rattle.laws.proofs.ValueLaws.{least_all, least_keeps, above, spread}
use Rattle.laws.proofs.ChosenLaws.{Inside, chosen_all, chosen_some, chosen_most, chosen_apart, point_most, chosen_radius}
use Rattle.laws.proofs.InnerLaws.{excess_most}
use Rattle.error_bound.proofs.Fair.{Proper, Fair, Spread}

-- an influence at a distance above 0
proper : (few : Bool) (r d : ℕ) → 0 < d → d ≤ 2 ^ 24 → r ≤ 2 ^ 24 → Proper (influence_at few r d)
unfolding influence_at
proper few r d D d' r' = go (eqb d 0) few (leb (3 * d) r) (ltb d r) refl
  where
    go : (t u v w : Bool) → ltb d r ≡ w → Proper (cond t influence.coincident (cond u (inverse d) (cond v (inverse d) (cond w (tapered r d) edge))))
    go true u v w e = tt
    go false true v w e = (D, d')
    go false false true w e = (D, d')
    go false false false true e = (ltb-true d r e, r')
    go false false false false e = tt

-- what a lookup goes by: a location in the domain, one point or more, in the domain, whose values are in range where they are chosen, and a kept R0 of at most 2²⁴, as points in the domain have
pub record LookupInRange (s : State) (p : Location) : Type 0 where
  pub domain : (p.x < 4096) × (p.y < 4096)
  pub some : 0 < length s.contents.points
  pub inside : All Inside s.contents.points
  pub kept : s.extent.radius ≤ 2 ^ 24
  pub values : All (λ a. in_range a.z ≡ true) (choice s p).points

module _ (s : State) (p : Location) (A : LookupInRange s p) where
  abbrev chosen : ℕ → Point
  chosen i = get_or (choice s p).points i no_point

  chosen_inside : (i : ℕ) → i < length (choice s p).points → Inside (chosen i)
  chosen_inside i l = all_below Inside (choice s p).points i no_point (chosen_all s p Inside A.inside) l

  chosen_far : (i : ℕ) → i < length (choice s p).points → distance s p (chosen i) ≤ 2 ^ 24
  chosen_far i l = point_most s p A.domain (chosen i) (chosen_inside i l)

  module _ (apart : coincident s p ≡ false) where
    chosen_off : (i : ℕ) → i < length (choice s p).points → 0 < distance s p (chosen i)
    chosen_off i l = all_below (λ a. 0 < distance s p a) (choice s p).points i no_point (chosen_apart s p apart) l

    pub neighbourhood_fair : Fair (neighbourhood s p)
    unfolding neighbourhood neighbourhood_of
    neighbourhood_fair = record {
      some = chosen_some s p A.some;
      most = chosen_most s p;
      influences = λ i l. proper (few s) (choice s p).radius (distance s p (chosen i)) (chosen_off i l) (chosen_far i l) (chosen_radius s p A.domain A.inside A.kept);
      excesses = λ i j k l. excess_most s p A.domain (chosen i) (chosen j) (chosen_inside i k) (chosen_inside j l) (chosen_far i k) (chosen_far j l);
      products = λ i j k l. (mul-pos (chosen_off i k) (chosen_off j l), mul-le-mul (chosen_far i k) (chosen_far j l));
    }

  pub neighbourhood_spread : Spread (neighbourhood s p) (least_chosen s p)
  unfolding neighbourhood neighbourhood_of least_chosen
  neighbourhood_spread = record {
    lifted = λ i l. above (least_chosen s p) (chosen i).z (all_below (λ a. least_chosen s p ≤ℤ a.z) (choice s p).points i no_point (least_all (choice s p).points) l);
    small = λ i l. spread (least_chosen s p) (chosen i).z
        (least_keeps (λ z. in_range z ≡ true) (choice s p).points refl A.values)
        (all_below (λ a. in_range a.z ≡ true) (choice s p).points i no_point A.values l);
  }
