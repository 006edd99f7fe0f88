-- What the equation of a lookup and the fact about its rounding say of demand 3, and that of what is kept of §1.
use mathlib.Core.Path.{◌≡◌, refl, ap, ◌∙◌}
use mathlib.Core.Logic.{◌⊎◌, inl, inr, ⊎_elim}
use Prim.Native.Nat.{ℕ, ◌<◌, ◌≤◌}
use native.Mathlib.Omega.{arith}
use mathlib.Core.Bool.{true}
use mathlib.Core.List.{List, [], ◌∷◌, ◌++◌}
use lib.ListN.{length, take, drop, take-append-drop}
use Rattle.std.specs.Prelude.{Result, Ok, Err}
use Rattle.model.specs.Point.{Point, Contents, Extent, State, location, in_domain}
use Rattle.model.specs.Radius.{locations, twice_area}
use Rattle.model.specs.Extent.{extent_of, settled}
use Rattle.model.specs.Invariant.{Invariant}
use Rattle.model.specs.Refusals.{neighbours_refusal}
use Rattle.model.specs.Lent.{neighbours_into}
use Rattle.laws.proofs.CallLaws.{lookup_none, lookup_some, neighbours_accepted, neighbours_refusal_lem, neighbours_short, neighbours_enough, neighbours_unaltered}
use Rattle.laws.proofs.PolygonLaws.{polygon_is, locations_ascend}
use Rattle.laws.proofs.BoxLaws.{area_is}
use Rattle.laws.proofs.ExtentLaws.{ends_none, ends_are}
use Rattle.neighbour_records.specs.declared.Record.{Record}
use Rattle.neighbour_records.specs.Records.{record_of}
use Rattle.survey.specs.declared.Found.{Found}
use Rattle.survey.specs.LookedUp.{found, looked_up, looked_up_lent, Rounded}
use Rattle.survey.proofs.Looking.{looked_up_lem}
use Rattle.lending.specs.LentAs.{LentAs}
use Rattle.history.specs.Claim.{Claim, ClaimLent, ClaimKept}

none_or_some : (l : List Point) → (l ≡ []) ⊎ (l ≡ [] → ⊥)
none_or_some [] = inl refl
none_or_some (a ∷ l) = inr (λ e. let z : ◌≡◌ {A = ℕ} 0 1 = cc in omega arith)

module _ (x y : ℕ) (q : Contents) (on : in_domain x y ≡ true) where
  looked_none : q.points ≡ [] → looked_up (settled q) x y ≡ Err 6
  unfolding looked_up
  looked_none e = rw (lookup_none x y (settled q) on e)

  looked_some : (q.points ≡ [] → ⊥) → looked_up (settled q) x y ≡ Ok (found (settled q) (location x y))
  looked_some h = looked_up_lem (settled q) x y (lookup_some x y (settled q) on h)

pub claim_of : (x y : ℕ) (q : Contents) (a : Result Found ℕ) → a ≡ looked_up (settled q) x y → Rounded (settled q) (location x y) a → Claim x y q a
unfolding Rounded
claim_of x y q a e r =
    record {
      six = λ on. (
        (λ g. ⊎_elim (λ h. h) (λ h. let z : ◌≡◌ {A = ℕ} 0 1 = cc (looked_some x y q on h) in absurd (omega arith)) (none_or_some q.points)),
        (λ h. e ∙ looked_none x y q on h),
      );
      right = λ on h.
          let p = location x y in
          let g = e ∙ looked_some x y q on h in
          (found (settled q) p, g, rw g at r);
    }

-- where n records are lent
module _ (x y n : ℕ) (q : Contents) where
  abbrev s : State
  s = settled q

  lent_none : in_domain x y ≡ true → q.points ≡ [] → looked_up_lent s x y n ≡ Err 6
  unfolding looked_up_lent
  lent_none on e = rw (neighbours_refusal_lem, lookup_none x y s on e)

  lent_short : n < 10 → in_domain x y ≡ true → (q.points ≡ [] → ⊥) → looked_up_lent s x y n ≡ Err 8
  unfolding looked_up_lent
  lent_short h on e = rw (neighbours_short x y n s (lookup_some x y s on e) h)

  lent_enough : 10 ≤ n → looked_up_lent s x y n ≡ looked_up s x y
  unfolding looked_up_lent looked_up
  lent_enough h = rw (neighbours_enough x y n s h)

  lent_refused : n < 10 → neighbours_refusal x y n s ≡ 0 → ⊥
  lent_refused h e = omega (arith, h, (neighbours_accepted x y n s e).1)

  -- from what is answered, and that a short list is as it was
  claimed : (a : Result Found ℕ) (l k : List Record) → a ≡ looked_up_lent s x y n → Rounded s (location x y) a → (n < 10 → k ≡ l) → ClaimLent x y n q a l k
  claimed a l k e r was = record {
    six = λ h on g. e ∙ lent_none on g;
    eight = λ h on g. e ∙ lent_short h on g;
    unaltered = was;
    enough = λ h. claim_of x y q a (e ∙ lent_enough h) r;
  }

-- a whole list is lent, or the first n records of one
module _ (x y : ℕ) (q : Contents) where
  pub claim_lent_of : (l : List Record) (a : Result Found ℕ) (k : List Record) → LentAs (settled q) x y l a k → ClaimLent x y (length l) q a l k
  claim_lent_of l a k p =
      claimed x y (length l) q a l k p.0 p.1 (λ h. p.2 ∙ neighbours_unaltered record_of x y (settled q) l (lent_refused x y (length l) q h))

  pub claim_lending_of : (a : Result Found ℕ) (l k : List Record) (n : ℕ) → a ≡ looked_up_lent (settled q) x y (length (take n l)) → Rounded (settled q) (location x y) a
      → k ≡ neighbours_into record_of (settled q) x y (take n l) ++ drop n l → ClaimLent x y (length (take n l)) q a l k
  claim_lending_of a l k n e r was =
      claimed x y (length (take n l)) q a l k e r
      (λ h. was
      ∙ ap (λ (t : List Record). t ++ drop n l) (neighbours_unaltered record_of x y (settled q) (take n l) (lent_refused x y (length (take n l)) q h))
      ∙ take-append-drop n l)

pub claim_kept : (q : Contents) (e : Extent) → Invariant q.points → e ≡ extent_of q → ClaimKept q e
unfolding twice_area
claim_kept q e sound h =
    let up = locations_ascend q.points sound.ascending in
    record {
      same = h;
      none = λ k. h ∙ ends_none q k;
      ends = λ k. rw h (ends_are q k);
      around = polygon_is (locations q.points) up;
      area = area_is (locations q.points) up;
    }
