-- What the lookup at the next location finds, as a loop meets it, where all lookups that are left are accepted.
use mathlib.Core.Path.{◌≡◌, refl, sym, ◌∙◌}
use Prim.Native.Nat.{ℕ, ◌+◌, ◌*◌, ◌/◌, ◌<◌}
use mathlib.Core.List.{List, ◌++◌}
use lib.IntN.{ℤ}
use lib.ListN.{length, take, drop, get_or}
use lib.Seq.{take-length}
use Rattle.std.specs.Prelude.{Result, Ok}
use Rattle.model.specs.Lists.{laid}
use Rattle.model.specs.Bytes.{word_at}
use Rattle.model.specs.Point.{State, Location, location}
use Rattle.model.specs.Mean.{Right}
use Rattle.model.specs.Answer.{answer}
use Rattle.survey.specs.declared.Found.{Found}
use Rattle.survey.specs.LookedUp.{found, looked_up, Rounded}
use Rattle.survey.proofs.Looking.{looked_up_lem}
use Rattle.many_lookups.specs.Locations.{locations_in}
use Rattle.many_lookups.specs.AnswersInto.{first_refusal, answer_fields, answer_bytes}
use Rattle.many_lookups.proofs.Turns.{nowhere, location_at_lem, all_from}

-- q is what is found at index i, and the lookups after it are accepted
pub record Turn (s : State) (l : List Location) (i : ℕ) (q : Result Found ℕ) : Type 0 where
  pub here : q ≡ Ok (found s (get_or l i nowhere))
  pub right : Right s (get_or l i nowhere) (answer s (get_or l i nowhere))
  pub next : first_refusal s (drop (i + 1) l) ≡ 0

pub turn : (s : State) (b : List ℕ) (i : ℕ) → i < length b / 4 → first_refusal s (drop i (locations_in b)) ≡ 0
    → (x y : ℕ) → x ≡ word_at b (4 * i) → y ≡ word_at b (4 * i + 2) → (q : Result Found ℕ) → (q ≡ looked_up s x y) × Rounded s (location x y) q → Turn s (locations_in b) i q
unfolding Rounded
turn s b i h left x y ex ey q looked =
    let from = all_from b i h s x y ex ey left in
    let e = looked.0 ∙ looked_up_lem s x y from.0 in
    let p : location x y ≡ get_or (locations_in b) i nowhere = rw (ex, ey) (sym (location_at_lem b i h)) in
    record { here = rw p at e; right = rw (p) at (rw e at looked.1); next = from.1 }

pub answer_length : (s : State) (p : Location) → length (answer_bytes s p) ≡ 8
unfolding answer_bytes
answer_length s p = refl

-- what a list m holds once r, which is b, was copied to its front
pub copied : (b r m o : List ℕ) → r ≡ b → o ≡ take (length r) r ++ drop (length r) m → o ≡ laid b m
copied b r m o e h = rw (h, take-length r, e)

module _ {s : State} {l : List Location} {i : ℕ} {q : Result Found ℕ} (t : Turn s l i q) where
  pub found_fields : {f : Found} → q ≡ Ok f → answer_fields f.answer f.count f.radius ≡ answer_bytes s (get_or l i nowhere)
  unfolding answer_bytes
  found_fields f = let e = t.here in cc
