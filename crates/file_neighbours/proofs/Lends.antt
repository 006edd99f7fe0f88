-- What comes of bytes that are lent for neighbour records.
use mathlib.Core.Path.{◌≡◌, refl, ◌∙◌}
use Prim.Native.Nat.{ℕ, ◌*◌, ◌/◌, ◌≤◌}
use native.Mathlib.Decide.{dec_le}
use native.Mathlib.Omega.{arith}
use mathlib.Core.Bool.{Bool, true, false, cond}
use mathlib.Core.List.{List, ◌++◌, map, flat_map, append_assoc}
use lib.Dec.{eqb, ltb}
use lib.IntN.{ℤ}
use lib.ListN.{length, take, drop, length-take, length-map}
use lib.Seq.{take-append_seam}
use borrow.Author.Tests.{eqb-true, lt-ltb, le-ltb}
use Rattle.std.specs.Prelude.{Result, Ok, Err}
use Rattle.model.specs.Lists.{laid}
use Rattle.model.specs.Point.{State, location}
use Rattle.model.specs.Answer.{chosen_count, neighbours}
use Rattle.model.specs.Refusals.{neighbours_refusal, or_else, afterwards}
use Rattle.model.specs.Lent.{neighbours_into}
use Rattle.model.specs.SurveyFile.{file_refusal}
use Rattle.model.specs.Program.{state_in}
use Rattle.laws.proofs.ChosenLaws.{chosen_most}
use Rattle.laws.proofs.CallLaws.{neighbours_accepted}
use Rattle.neighbour_records.specs.declared.Record.{Record}
use Rattle.neighbour_records.specs.Records.{record_of}
use Rattle.survey.specs.declared.Survey.{Survey}
use Rattle.survey.specs.declared.Found.{Found}
use Rattle.survey.specs.StateOf.{state_of}
use Rattle.survey.specs.LookedUp.{found, found_unless, looked_up_lent, Rounded}
use Rattle.neighbour_bytes.specs.Fields.{records_bytes}
use Rattle.file_access.specs.Access.{Reads, AnswerTold}
use Rattle.file_access.proofs.FileLaws.{accepted_file}
use Rattle.file_lookups.specs.FileLookups.{Finds}
use Rattle.file_lookups.proofs.Finding.{finds_answer}
use Rattle.file_neighbours.specs.NeighbourBytes.{chosen_in, neighbour_bytes}

pub chosen_found : (q : Result Found ℕ) (f : Found) → q ≡ Ok f → chosen_in q ≡ f.count
unfolding chosen_in
chosen_found q f e = rw e refl

-- refused, no bytes are written
pub puts_none : (q : Result Found ℕ) (n : ℕ) → q ≡ Err n → (l : List Record) (d : List ℕ) → d ≡ laid (records_bytes (take (chosen_in q) l)) d
unfolding chosen_in records_bytes flat_map
puts_none q n e l d = rw e

module _ (s : State) (x y k : ℕ) (l : List Record) (size : length l ≡ 32) where
  -- of more than 32 records lent the first 32 are, and ten are enough
  enough_same : ltb (length (take k l)) 10 ≡ ltb k 10
  enough_same = elim (dec_le 10 k) [
    | yes h ↦ rw (le-ltb k 10 h) (le-ltb (length (take k l)) 10 (omega (arith, length-take k l)))
    | no h ↦ rw (lt-ltb k 10 (omega arith)) (lt-ltb (length (take k l)) 10 (omega (arith, length-take k l)))
  ]

  lent_same : neighbours_refusal x y (length (take k l)) s ≡ neighbours_refusal x y k s
  unfolding neighbours_refusal
  lent_same = rw enough_same

  lent_answer : (q : Result Found ℕ) → q ≡ looked_up_lent s x y (length (take k l)) → q ≡ found_unless (neighbours_refusal x y k s) s (location x y)
  unfolding looked_up_lent
  lent_answer q e = rw lent_same at e

module _ (s : State) (x y k : ℕ) where
  abbrev u : ℕ
  u = neighbours_refusal x y k s

  abbrev listed : List Record
  listed = map record_of (neighbours s (location x y))

  chosen_listed : length listed ≡ chosen_count s (location x y)
  unfolding neighbours
  chosen_listed = rw (length-map, length-map)

  -- where the lookup is accepted there is room for ten records, and no more are chosen
  lent_room : (q : Result Found ℕ) → q ≡ found_unless u s (location x y) → (n : ℕ) → k ≡ n / 10 → (chosen_in q ≤ 32) × (10 * chosen_in q ≤ n)
  unfolding chosen_in
  lent_room q e n h = rw e (by_test (eqb u 0) refl)
    where
      by_test : (t : Bool) → eqb u 0 ≡ t → (chosen_in (cond t (Ok (found s (location x y))) (Err u)) ≤ 32) × (10 * chosen_in (cond t (Ok (found s (location x y))) (Err u)) ≤ n)
      by_test true w = let a = (neighbours_accepted x y k s (eqb-true u 0 w)).1 in let m = chosen_most s (location x y) in (omega arith, omega arith)
      by_test false w = (omega arith, omega arith)

  -- the chosen points' records stand at the front of what was lent, and where the lookup is refused none is meant
  lent_bytes : (q : Result Found ℕ) → q ≡ found_unless u s (location x y) → (l o : List Record) → length l ≡ 32 → o ≡ neighbours_into record_of s x y (take k l) ++ drop k l
      → (d : List ℕ) → laid (records_bytes (take (chosen_in q) o)) d ≡ afterwards u (laid (records_bytes listed) d) d
  unfolding chosen_in neighbours_into records_bytes flat_map
  lent_bytes q e l o size h d = rw (e, h, lent_same s x y k l size) (by_test (eqb u 0))
    where
      by_test : (t : Bool) → laid (records_bytes (take (chosen_in (cond t (Ok (found s (location x y))) (Err u))) (cond t (laid listed (take k l)) (take k l) ++ drop k l))) d ≡ cond t (laid (records_bytes listed) d) d
      by_test true = rw (← chosen_listed, append_assoc, take-append_seam)
      by_test false = refl

-- what a lookup in the points of the file f tells that was lent the bytes d: its answer q, and o, the records after it
pub record Lends (f : List ℕ) (x y : ℕ) (d : List ℕ) (q : Result Found ℕ) (o : List Record) : Type 0 where
  pub room : (chosen_in q ≤ 32) × (10 * chosen_in q ≤ length d)
  pub finds : (a : ℤ) (n r m : ℕ) (a' : ℤ) (n' r' : ℕ) → AnswerTold q a n r m a' n' r' → Finds (neighbours_refusal x y (length d / 10)) f (location x y) a n r m a' n' r'
  pub bytes : (d' : List ℕ) (m : ℕ) → d' ≡ laid (records_bytes (take (chosen_in q) o)) d → m ≡ or_else (file_refusal f) (neighbours_refusal x y (length d / 10) (state_in f))
      → d' ≡ afterwards m (laid (neighbour_bytes f (location x y)) d) d

pub lends : (f : List ℕ) (r : Survey) → Reads f (Ok r) → (x y : ℕ) (d : List ℕ) (l : List Record) → length l ≡ 32 → (q : Result Found ℕ) (o : List Record)
    → (q ≡ looked_up_lent (state_of r) x y (length (take (length d / 10) l))) × Rounded (state_of r) (location x y) q
    × (o ≡ neighbours_into record_of (state_of r) x y (take (length d / 10) l) ++ drop (length d / 10) l)
    → Lends f x y d q o
lends f r reads x y d l size q o h =
    let held = state_of r in
    let k = length d / 10 in
    let c = neighbours_refusal x y k in
    let here = lent_answer held x y k l size q h.0 in record {
      room = lent_room held x y k q here (length d) refl;
      finds = λ a n v m a' n' v' t. finds_answer f r reads c (location x y) a n v q here h.1 m a' n' v' t;
      bytes = λ d' m w number. rw (number, accepted_file f r reads (c (state_in f)), ← reads.state) (w ∙ lent_bytes held x y k q here l o size h.2 d);
    }
