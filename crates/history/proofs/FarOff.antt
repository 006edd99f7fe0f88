-- §5 of every two programs: whatever the calls of each, where their surveys stand at the same locations and the values differ only at points not chosen at a location,
-- lookups there give the same.
use mathlib.Core.Path.{◌≡◌, sym, ap, ◌∙◌}
use Prim.Native.Nat.{ℕ}
use mathlib.Core.Bool.{false}
use mathlib.Core.List.{List, [], ◌∷◌, ◌++◌}
use lib.IntN.{ℤ}
use lib.ListN.{length, take, drop}
use Rattle.std.specs.Prelude.{Result}
use Rattle.model.specs.Point.{Location, Contents, location}
use Rattle.model.specs.Extent.{settled}
use Rattle.model.specs.Choice.{choice}
use Rattle.model.specs.Refusals.{lookup_refusal, neighbours_refusal}
use Rattle.model.specs.Lent.{neighbours_into}
use Rattle.model.specs.Calls.{Call, Change, taken, present}
use Rattle.model.specs.FarOff.{Alike, Spared, AnswersAlike}
use Rattle.laws.proofs.CallLaws.{present_more}
use Rattle.laws.proofs.AlikeLaws.{alike_length, radius_alike}
use Rattle.laws.proofs.FarOffLaws.{answers_alike, change_alike, change_spares}
use Rattle.neighbour_records.specs.declared.Record.{Record}
use Rattle.neighbour_records.specs.Records.{record_of}
use Rattle.survey.specs.declared.Survey.{Survey}
use Rattle.refusal.specs.declared.Refusal.{Refusal}
use Rattle.refusal.proofs.Told.{numbered_same}
use Rattle.survey.specs.declared.Found.{Found}
use Rattle.survey.specs.StateOf.{state_of}
use Rattle.survey.specs.LookedUp.{looked_up, looked_up_lent}
use Rattle.survey.proofs.lookup.Reads as lookup-of
use Rattle.lending.specs.declared.AnswerWithRecords.{AnswerWithRecords}
use Rattle.lending.specs.LentAs.{LentAs}
use Rattle.lending.proofs.lookup_lending.Reads as lookup-lending-of
use Rattle.history.specs.Runs.{Makes, Runs, more}
use Rattle.history.proofs.Runs.{leaves}

-- what is answered and listed in two contents
module _ (q r : Contents) (alike : Alike q r) (x y : ℕ) (spared : Spared (settled q) (location x y) r) where
  same : AnswersAlike (settled q) (settled r) (location x y)
  same = answers_alike (settled q) (settled r) alike (radius_alike q r alike) (location x y) spared

  refusal_same : lookup_refusal x y (settled q) ≡ lookup_refusal x y (settled r)
  unfolding lookup_refusal
  refusal_same = rw (alike_length q r alike)

  lent_refusal_same : (n : ℕ) → neighbours_refusal x y n (settled q) ≡ neighbours_refusal x y n (settled r)
  unfolding neighbours_refusal
  lent_refusal_same n = rw (alike_length q r alike)

  looked_same : looked_up (settled q) x y ≡ looked_up (settled r) x y
  unfolding looked_up
  looked_same = rw (refusal_same, same.computed, same.chosen)

  lent_same : (n : ℕ) → looked_up_lent (settled q) x y n ≡ looked_up_lent (settled r) x y n
  unfolding looked_up_lent
  lent_same n = rw (lent_refusal_same n, same.computed, same.chosen)

  into_same : (l : List Record) → neighbours_into record_of (settled q) x y l ≡ neighbours_into record_of (settled r) x y l
  unfolding neighbours_into
  into_same l = rw (lent_refusal_same (length l), same.records)

-- two runs, and a location at which none of the altered points is chosen
module _ {cs ds : List Call} {s t : Survey} (one : Runs cs s) (other : Runs ds t) (alike : Alike (present cs) (present ds)) (x y : ℕ)
    (spared : Spared (settled (present cs)) (location x y) (present ds)) where
  -- the answer, the count and the radius, or the refusal
  pub lookups_same : (a b : Result Found Refusal) → lookup-of.Post tt (s, (x, (y, tt))) a (s, (x, (y, tt))) → lookup-of.Post tt (t, (x, (y, tt))) b (t, (x, (y, tt))) → a ≡ b
  lookups_same a b h g = numbered_same a b (rw (leaves one) at h.0 ∙ looked_same (present cs) (present ds) alike x y spared ∙ sym (rw (leaves other) at g.0))

  -- of `lookup_neighbours`, lent a list that was l: the answer, and the list after it
  pub neighbours_same : (l k m : List Record) (a b : Result Found ℕ) → LentAs (state_of s) x y l a k → LentAs (state_of t) x y l b m → (a ≡ b) × (k ≡ m)
  neighbours_same l k m a b h g =
      let u = rw (leaves one) at h in
      let v = rw (leaves other) at g in (
        u.0 ∙ lent_same (present cs) (present ds) alike x y spared (length l) ∙ sym v.0,
        u.2 ∙ into_same (present cs) (present ds) alike x y spared l ∙ sym v.2,
      )

  -- of `lookup_lending`, lent the first n records of l
  pub lendings_same : (l : List Record) (n : ℕ) (a b : AnswerWithRecords) → lookup-lending-of.Post tt (s, (x, (y, (l, (n, tt))))) a (s, (x, (y, (l, (n, tt)))))
      → lookup-lending-of.Post tt (t, (x, (y, (l, (n, tt))))) b (t, (x, (y, (l, (n, tt))))) → (a.answer ≡ b.answer) × (a.records ≡ b.records)
  lendings_same l n a b h g =
      let u = rw (leaves one) at h in
      let v = rw (leaves other) at g in (
        numbered_same a.answer b.answer (u.0 ∙ lent_same (present cs) (present ds) alike x y spared (length (take n l)) ∙ sym v.0),
        u.2 ∙ ap (λ (k : List Record). k ++ drop n l) (into_same (present cs) (present ds) alike x y spared (take n l)) ∙ sym v.2,
      )

-- a change of the value at (u, v), refused or not, as the last call of a list
module _ (cs : List Call) (u v : ℕ) (z : ℤ) where
  pub mended_alike : Alike (present cs) (present (cs ++ Change u v z ∷ []))
  mended_alike = rw (present_more cs (Change u v z)) (change_alike u v z (present cs))

  pub mended_spares : (p : Location) → taken u v (choice (settled (present cs)) p).points ≡ false → Spared (settled (present cs)) p (present (cs ++ Change u v z ∷ []))
  mended_spares p unchosen = rw (present_more cs (Change u v z)) (change_spares u v z (present cs) p unchosen)

-- a lookup that does not choose the point gives what it gave before
pub mended : {cs : List Call} {s t : Survey} (u v : ℕ) (z : ℤ) → Runs cs s → Makes (Change u v z) s t
    → (x y : ℕ) → taken u v (choice (settled (present cs)) (location x y)).points ≡ false
    → (a b : Result Found Refusal) → lookup-of.Post tt (s, (x, (y, tt))) a (s, (x, (y, tt))) → lookup-of.Post tt (t, (x, (y, tt))) b (t, (x, (y, tt))) → a ≡ b
mended {cs} {s} {t} u v z h m x y unchosen =
    lookups_same h (more cs (Change u v z) s t h m) (mended_alike cs u v z) x y (mended_spares cs u v z (location x y) unchosen)
