-- What an accepted call hands on is sound, so it fits the arrays; and what is done at an index is what the model says of the points.
use mathlib.Core.Path.{◌≡◌, sym, ap, ◌∙◌}
use Prim.Native.Nat.{ℕ, ◌<◌, ◌≤◌}
use mathlib.Core.List.{List}
use lib.IntN.{ℤ}
use lib.ListN.{length, set}
use mir.Syntax.{w8}
use mir.Val.{SFits}
use Rattle.model.specs.Point.{Point, Contents, point, with_points}
use Rattle.model.specs.Invariant.{Sound}
use Rattle.model.specs.Calls.{Add, Change, Drop, refusal, accepted}
use Rattle.laws.proofs.ValueLaws.{range_ends, mag_below}
use Rattle.laws.proofs.RecordLaws.{domain_bounds}
use Rattle.laws.proofs.CallLaws.{add_accepted, change_accepted, drop_accepted}
use Rattle.laws.proofs.Insertions.{put_in, cut_out}
use Rattle.locate.specs.Leading.{leading, elsewhere, not_after}
use Rattle.locate.proofs.LeadingLaws.{leading_le}
use Rattle.locate.proofs.IndexLaws.{taken_below, remove_is, revalue_is, insert_is}
use Rattle.survey.specs.declared.Survey.{Survey}
use Rattle.survey.specs.StateOf.{contents_in, Becomes}

-- a location and a value fit the arrays
pub record Fits (x y : ℕ) (z : ℤ) : Type 0 where
  pub fits_x : x < 4096
  pub fits_y : y < 4096
  pub fits_z : SFits w8 z

pub sound_fits : (x y : ℕ) (z : ℤ) → Sound (point x y z) → Fits x y z
sound_fits x y z s =
    let b = domain_bounds x y s.location in
    let e = range_ends z s.value in
    record { fits_x = b.0; fits_y = b.1; fits_z = record { sfits = mag_below z 127 e.0 e.1 } }

module _ (x y : ℕ) (z : ℤ) (q : Contents) where
  pub add_hands : refusal (Add x y z) q ≡ 0 → (length q.points < 256) × Sound (point x y z)
  add_hands e = let a = add_accepted x y z q e in (a.3, record { location = a.0; value = a.1 })

  pub change_hands : refusal (Change x y z) q ≡ 0 → Sound (point x y z)
  change_hands e = let a = change_accepted x y z q e in record { location = a.0; value = a.1 }

module _ (s : Survey) (x y i : ℕ) where
  abbrev l : List Point
  l = (contents_in s).points

  -- where a new point goes
  module _ (at : i ≡ leading (not_after x y) l) where
    pub rank_within : i ≤ length l
    rank_within = rw at (leading_le (not_after x y) l)

    pub added : (z : ℤ) (t : Survey) → Becomes s (put_in i (point x y z) l) t → contents_in t ≡ accepted (Add x y z) (contents_in s)
    unfolding accepted
    added z t b = b.contents ∙ ap (with_points (contents_in s)) (ap (λ (k : ℕ). put_in k (point x y z) l) at ∙ sym (insert_is x y z l))

  -- where a point is
  module _ (at : i ≡ leading (elsewhere x y) l) where
    pub change_within : (z : ℤ) → refusal (Change x y z) (contents_in s) ≡ 0 → i < length l
    change_within z e = rw at (taken_below x y l (change_accepted x y z (contents_in s) e).2)

    pub drop_within : refusal (Drop x y) (contents_in s) ≡ 0 → i < length l
    drop_within e = rw at (taken_below x y l (drop_accepted x y (contents_in s) e).1)

    pub changed : (z : ℤ) (t : Survey) → Becomes s (set l i (point x y z)) t → contents_in t ≡ accepted (Change x y z) (contents_in s)
    unfolding accepted
    changed z t b = b.contents ∙ ap (with_points (contents_in s)) (ap (λ (k : ℕ). set l k (point x y z)) at ∙ sym (revalue_is x y z l))

    pub dropped : (t : Survey) → Becomes s (cut_out i l) t → contents_in t ≡ accepted (Drop x y) (contents_in s)
    unfolding accepted
    dropped t b = b.contents ∙ ap (with_points (contents_in s)) (ap (λ (k : ℕ). cut_out k l) at ∙ sym (remove_is x y l))
