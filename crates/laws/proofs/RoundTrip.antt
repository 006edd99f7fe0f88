-- A written survey file is accepted behind any preamble and read back, and an accepted file ends in the bytes that writing its points gives.
use mathlib.Core.Path.{◌≡◌, sym, ap, ap₂, ◌∙◌}
use Prim.Native.Nat.{ℕ, suc, ◌+◌, ◌*◌, ◌%◌, ◌≤◌, ◌<◌}
use native.Mathlib.Nat.{add_assoc, add-zero}
use native.Mathlib.Omega.{arith}
use mathlib.Core.Bool.{true}
use mathlib.Core.List.{List, [], ◌∷◌, ◌++◌, append_assoc}
use lib.ListN.{length, take, drop, get_or, length-append, length-drop, take-append-drop}
use lib.Seq.{drop-append_seam, take-append_seam, drop-cons, get_or-drop, drop-drop, length-take-le, drop_at}
use Rattle.model.specs.Lists.{Bytes}
use Rattle.model.specs.Point.{Point, in_domain, in_range}
use Rattle.model.specs.Bytes.{word_at, long_at, bytes2, bytes4, total}
use Rattle.model.specs.SurveyFile.{magic, trailer_start, count_in, back_in, sum_in, magic_in, record_start, records_in, points_of, file_points, fault, file_refusal, trailer, records, file_of}
use Rattle.model.specs.Invariant.{Sound, Invariant}
use Rattle.laws.proofs.ListLaws.{all_imp, all_both, all_take, all_drop, byte_at}
use Rattle.laws.proofs.Numbers.{word_back, long_back, bytes2_word, bytes4_long}
use Rattle.laws.proofs.TrailerLaws.{Passing, Accepted, accepted_facts, facts_accepted}
use Rattle.laws.proofs.RecordLaws.{length_records, length_points, points_records, records_points, points_range, faultless, no_fault}

pub file_length : (l : List Point) → length (file_of l) ≡ 5 * length l + 12
unfolding file_of
file_length l = rw length-append (omega (arith, length_records l))

file_by : (l : List Point) (r : List ℕ) (n : ℕ) → records l ≡ r → length l ≡ n → file_of l ≡ r ++ trailer n r
unfolding file_of
file_by l r n e k = ap₂ (λ (m : List ℕ) (i : ℕ). m ++ trailer i m) e k

word_drop : (f : List ℕ) (n i : ℕ) → word_at f (n + i) ≡ word_at (drop n f) i
word_drop f n i = rw (get_or-drop n f i 0, get_or-drop n f (i + 1) 0, add_assoc n i 1)

pub long_drop : (f : List ℕ) (n i : ℕ) → long_at f (n + i) ≡ long_at (drop n f) i
long_drop f n i = rw (word_drop f n i, add_assoc n i 2, word_drop f n (i + 2))

-- the trailer t of a file, and what is read from it
record Ends (f t : List ℕ) : Type 0 where
  count : count_in f ≡ word_at t 0
  back : back_in f ≡ long_at t 2
  sum : sum_in f ≡ word_at t 6
  mark : magic_in f ≡ drop 8 t

ends : (f : List ℕ) → Ends f (drop (trailer_start f) f)
ends f =
    let s : ℕ = trailer_start f in
    record {
      count = ap (word_at f) (sym (add-zero s)) ∙ word_drop f s 0;
      back = long_drop f s 2;
      sum = word_drop f s 6;
      mark = sym (drop-drop 8 s f);
    }

-- a file f that ends in the records r of n points and their trailer
module _ (f pre r : List ℕ) (n : ℕ) (e : f ≡ (pre ++ r) ++ trailer n r) (few : n ≤ 256) (size : length r ≡ 5 * n) where
  trailer_start_lem : trailer_start f ≡ length pre + length r
  trailer_start_lem = rw e (simp length-append (omega arith))

  written_ends : Ends f (trailer n r)
  written_ends =
      let d : drop (trailer_start f) f ≡ trailer n r
      = ap (drop (trailer_start f)) e ∙ drop_at (pre ++ r) (trailer n r) (trailer_start f) (length-append pre r ∙ sym trailer_start_lem) in
      rw d at (ends f)

  count_in_lem : count_in f ≡ n
  count_in_lem = omega (arith, written_ends.count, word_back n)

  back_in_lem : back_in f ≡ length r
  back_in_lem = omega (arith, written_ends.back, long_back (length r))

  sum_in_lem : sum_in f ≡ total r % 65536
  sum_in_lem = written_ends.sum ∙ word_back (total r)

  records_in_lem : records_in f ≡ r
  records_in_lem =
      let start : record_start f ≡ length pre = omega (arith, trailer_start_lem, back_in_lem) in
      ap₂ (λ (k m : ℕ). take k (drop m f)) back_in_lem start
      ∙ rw (e, append_assoc pre r (trailer n r), drop-append_seam pre (r ++ trailer n r)) (take-append_seam r (trailer n r))

  written_facts : length f ≤ 65536 → fault (file_points f) ≡ 0 → Accepted f
  written_facts most faultless =
      let trailer : Passing f =
      record {
        least = rw e (simp length-append (omega arith));
        most = most;
        marked = written_ends.mark;
        few = omega (arith, count_in_lem);
        back = back_in_lem ∙ size ∙ ap (λ (k : ℕ). 5 * k) (sym count_in_lem);
        room = omega (arith, trailer_start_lem, back_in_lem);
        sum = ap (λ (m : List ℕ). total m % 65536) records_in_lem ∙ sym sum_in_lem;
      } in
      record { trailer = trailer; faultless = faultless }

module _ (pre : List ℕ) (l : List Point) (h : Invariant l) where
  file_parts : pre ++ file_of l ≡ (pre ++ records l) ++ trailer (length l) (records l)
  unfolding file_of
  file_parts = sym (append_assoc pre (records l) (trailer (length l) (records l)))

  pub written_read : file_points (pre ++ file_of l) ≡ l
  unfolding file_points
  written_read =
      ap points_of (records_in_lem (pre ++ file_of l) pre (records l) (length l) file_parts h.count (length_records l)) ∙ points_records l h.sound

  pub written_accepted : length (pre ++ file_of l) ≤ 65536 → file_refusal (pre ++ file_of l) ≡ 0
  written_accepted most =
      let placed = all_imp Sound (λ a. in_domain a.x a.y ≡ true) (λ a s. s.location) l h.sound in
      facts_accepted (pre ++ file_of l)
      (written_facts (pre ++ file_of l) pre (records l) (length l) file_parts h.count (length_records l) most (rw written_read (no_fault l placed h.ascending)))

-- bytes read as a trailer, and written again
spelled : (t : List ℕ) → 8 ≤ length t
    → t ≡ get_or t 0 0 ∷ get_or t 1 0 ∷ get_or t 2 0 ∷ get_or t 3 0 ∷ get_or t 4 0 ∷ get_or t 5 0 ∷ get_or t 6 0 ∷ get_or t 7 0 ∷ drop 8 t
spelled t h =
    let step : (i : ℕ) → i < length t → drop i t ≡ get_or t i 0 ∷ drop (suc i) t = λ i g. drop-cons t i 0 g in
    rw (
      ← step 7 (omega arith),
      ← step 6 (omega arith),
      ← step 5 (omega arith),
      ← step 4 (omega arith),
      ← step 3 (omega arith),
      ← step 2 (omega arith),
      ← step 1 (omega arith),
      ← step 0 (omega arith),
    )

trailer_read : (t r : List ℕ) (n : ℕ) → Bytes t → 8 ≤ length t → n ≡ word_at t 0 → length r ≡ long_at t 2 → total r % 65536 ≡ word_at t 6 → drop 8 t ≡ magic
    → trailer n r ≡ t
trailer_read t r n b h count back sum mark =
    let byte : (i : ℕ) → get_or t i 0 < 256 = λ i. byte_at t i b in
    let e₁ : bytes2 n ≡ get_or t 0 0 ∷ get_or t 1 0 ∷ [] = bytes2_word n _ _ (byte 0) (byte 1) (omega (arith, byte 0, byte 1)) in
    let e₂ : bytes4 (length r) ≡ get_or t 2 0 ∷ get_or t 3 0 ∷ get_or t 4 0 ∷ get_or t 5 0 ∷ [] = bytes4_long (length r) _ _ _ _ (byte 2) (byte 3) (byte 4) (byte 5) back in
    let e₃ : bytes2 (total r) ≡ get_or t 6 0 ∷ get_or t 7 0 ∷ [] = bytes2_word (total r) _ _ (byte 6) (byte 7) sum in
    ap₂ ◌++◌ (ap₂ ◌++◌ (ap₂ ◌++◌ e₁ e₂) e₃) (sym mark) ∙ sym (spelled t h)

module _ (f : List ℕ) (a : Passing f) where
  pub length_in : length (records_in f) ≡ back_in f
  length_in = length-take-le (back_in f) (drop (record_start f) f) (rw length-drop (omega arith))

  pub points_in : length (file_points f) ≡ count_in f
  unfolding file_points
  points_in = omega (arith, length_points (records_in f), length_in)

module _ (f : List ℕ) (b : Bytes f) (a : Accepted f) where
  bytes_in : Bytes (records_in f)
  bytes_in = all_take (λ c. c < 256) (back_in f) (drop (record_start f) f) (all_drop (λ c. c < 256) (record_start f) f b)

  records_again : records (file_points f) ≡ records_in f
  unfolding file_points
  records_again = records_points (records_in f) bytes_in (omega (arith, length_in f a.trailer))

  trailer_again : trailer (count_in f) (records_in f) ≡ drop (trailer_start f) f
  trailer_again =
      let e = ends f in
      trailer_read (drop (trailer_start f) f) (records_in f) (count_in f) (all_drop (λ c. c < 256) (trailer_start f) f b) (rw length-drop (omega arith))
      e.count (length_in f a.trailer ∙ e.back) (a.trailer.sum ∙ e.sum) (sym e.mark ∙ a.trailer.marked)

  ends_again : drop (record_start f) f ≡ file_of (file_points f)
  ends_again =
      let next : record_start f + back_in f ≡ trailer_start f = omega arith in
      sym (take-append-drop (back_in f) (drop (record_start f) f))
      ∙ ap (λ (t : List ℕ). records_in f ++ t) (drop-drop (back_in f) (record_start f) f ∙ ap (λ (k : ℕ). drop k f) next ∙ sym trailer_again)
      ∙ sym (file_by (file_points f) (records_in f) (count_in f) records_again (points_in f a.trailer))

pub accepted_ends : (f : List ℕ) → Bytes f → file_refusal f ≡ 0 → drop (record_start f) f ≡ file_of (file_points f)
accepted_ends f b h = ends_again f b (accepted_facts f h)

pub accepted_invariant : (f : List ℕ) → file_refusal f ≡ 0 → Invariant (file_points f)
unfolding file_points
accepted_invariant f h =
    let a = accepted_facts f h in
    let sure = faultless (file_points f) a.faultless in
    record {
      count = omega (arith, points_in f a.trailer, a.trailer.few);
      ascending = sure.1;
      sound = all_both _ (λ c. in_range c.z ≡ true) Sound (λ c p q. record { location = p; value = q }) (file_points f) sure.0 (points_range (records_in f));
    }
