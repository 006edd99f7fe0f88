-- A loop over n records, as a program runs it: its start, one turn, which makes the call of the record at index i, and its end.
use mathlib.Core.Path.{◌≡◌, refl, sym, ap, ◌∙◌}
use Prim.Native.Nat.{ℕ, zero, suc, ◌+◌, ◌-◌, ◌*◌, ◌/◌, ◌≤◌, ◌<◌, min}
use native.Mathlib.Nat.{add-zero, zero-min, min-zero, suc-min-suc}
use native.Mathlib.Omega.{arith}
use mathlib.Core.List.{List, [], ◌∷◌}
use lib.ListN.{length, take, drop, get_or, length-drop}
use lib.Seq.{get_or-drop, drop-drop}
use Rattle.model.specs.Point.{Contents}
use Rattle.model.specs.Bytes.{long_at}
use Rattle.model.specs.Calls.{Call, fresh, after, after_all, present}
use Rattle.laws.proofs.RoundTrip.{long_drop}
use Rattle.history.specs.Encoding.{call_of, file_length, numbers_at, first_calls, calls}

take_min : (n : ℕ) (l : List ℕ) → take (min n (length l)) l ≡ take n l
take_min zero l = rw zero-min
take_min (suc n) [] = rw min-zero
take_min (suc n) (a ∷ l) = rw suc-min-suc (ap (λ (r : List ℕ). a ∷ r) (take_min n l))

drop_min : (n : ℕ) (l : List ℕ) → drop (min n (length l)) l ≡ drop n l
drop_min zero l = rw zero-min
drop_min (suc n) [] = rw min-zero
drop_min (suc n) (a ∷ l) = rw suc-min-suc (drop_min n l)

-- n elements from start on, or as many as there are
module _ (fs : List ℕ) (start n end : ℕ) (h : start ≤ length fs) (e : end ≡ min (start + n) (length fs)) where
  size : end - start ≡ min n (length (drop start fs))
  size = rw length-drop (omega arith)

  part_take : take (end - start) (drop start fs) ≡ take n (drop start fs)
  part_take = rw size (take_min n (drop start fs))

  part_drop : drop end fs ≡ drop n (drop start fs)
  part_drop =
      let p : end ≡ start + (end - start) = omega arith in
      ap (λ (k : ℕ). drop k fs) p ∙ sym (drop-drop (end - start) start fs) ∙ rw size (drop_min n (drop start fs))

-- the calls of n records from index i on, whose files stand from start on
abbrev pub remaining : List ℕ → List ℕ → ℕ → ℕ → ℕ → List Call
remaining j fs n i start = first_calls (n - i) (drop (25 * i) j) (drop start fs)

pub starts : (j fs : List ℕ) (n : ℕ) → n ≡ length j / 25 → after_all (remaining j fs n 0 0) fresh ≡ present (calls j fs)
unfolding present calls
starts j fs n e = let m : n - 0 ≡ length j / 25 = omega arith in rw m

-- the first of n + 1 calls, and the others
pub first_call : (n : ℕ) (j fs : List ℕ)
    → first_calls (suc n) j fs
    ≡ call_of (get_or j 0 0) (numbers_at j 1) (take (file_length (get_or j 0 0) (numbers_at j 1)) fs) ∷ first_calls n (drop 25 j) (drop (file_length (get_or j 0 0) (numbers_at j 1)) fs)
unfolding first_calls
first_call n j fs = refl

-- numbers read where they stand
numbers_drop : (j : List ℕ) (k : ℕ) → numbers_at (drop k j) 1 ≡ numbers_at j (k + 1)
numbers_drop j k =
    let at : (i m : ℕ) → k + i ≡ m → long_at (drop k j) i ≡ long_at j m = λ i m e. sym (long_drop j k i) ∙ ap (long_at j) e in
    rw (at 1 (k + 1) (omega arith), at 5 (k + 1 + 4) (omega arith), at 9 (k + 1 + 8) (omega arith), at 13 (k + 1 + 12) (omega arith), at 17 (k + 1 + 16) (omega arith), at 21 (k + 1 + 20) (omega arith))

-- the record at index i, read where it stands
record_at : (j fs : List ℕ) (n i op : ℕ) (w : List ℕ) → op ≡ get_or j (25 * i) 0 → w ≡ numbers_at j (25 * i + 1)
    → first_calls (suc n) (drop (25 * i) j) fs ≡ call_of op w (take (file_length op w) fs) ∷ first_calls n (drop (25 * (i + 1)) j) (drop (file_length op w) fs)
record_at j fs n i op w eo ew =
    let e₀ : get_or (drop (25 * i) j) 0 0 ≡ op = rw (get_or-drop, add-zero) (sym eo) in
    let e₁ : numbers_at (drop (25 * i) j) 1 ≡ w = numbers_drop j (25 * i) ∙ sym ew in
    let next : 25 * i + 25 ≡ 25 * (i + 1) = omega arith in
    rw (first_call, e₀, e₁, drop-drop 25 (25 * i) j, next)

-- a turn makes the call of the record at index i: what the calls from there on leave is the same before it and after it
pub turn : (j fs : List ℕ) (n i start op : ℕ) (w : List ℕ) (end : ℕ) (q : Contents) → i < n → start ≤ length fs
    → op ≡ get_or j (25 * i) 0 → w ≡ numbers_at j (25 * i + 1) → end ≡ min (start + file_length op w) (length fs)
    → after_all (remaining j fs n (i + 1) end) (after (call_of op w (take (end - start) (drop start fs))) q) ≡ after_all (remaining j fs n i start) q
unfolding after_all
turn j fs n i start op w end q l h eo ew ee =
    let m : n - i ≡ suc (n - (i + 1)) = omega arith in
    let size = file_length op w in
    rw (m, record_at j (drop start fs) (n - (i + 1)) i op w eo ew, part_take fs start size end h ee, part_drop fs start size end h ee)

pub ends : (j fs : List ℕ) (n i start : ℕ) (q : Contents) → n ≤ i → after_all (remaining j fs n i start) q ≡ q
unfolding after_all first_calls
ends j fs n i start q h = let m : n - i ≡ 0 = omega arith in rw m
