-- The trailer's checks one after the other, and the plain facts of an accepted file.
use mathlib.Core.Path.{◌≡◌, refl, ap₂, ◌∙◌}
use mathlib.Core.Logic.{◌⊎◌, inl, inr}
use Prim.Native.Nat.{ℕ, ◌*◌, ◌%◌, ◌≤◌, ◌<◌}
use native.Mathlib.Omega.{arith}
use mathlib.Core.Bool.{Bool, true, false, cond, not, ◌||◌, and-eq-true_iff}
use mathlib.Core.List.{List, [], ◌∷◌}
use lib.Dec.{ltb, eqb}
use lib.ListN.{length}
use borrow.Author.Tests.{ltb-false, eqb-true, lt-ltb, le-ltb, eq-eqb, ne_eqb, not-false}
use Rattle.model.specs.Bytes.{same, total}
use Rattle.model.specs.SurveyFile.{magic, trailer_start, count_in, back_in, sum_in, magic_in, records_in, file_points, fault, trailer_check, file_refusal}
use Rattle.laws.proofs.Tests.{or_true, or_false, cond_zero}

pub same_self : (l : List ℕ) → same l l ≡ true
same_self [] = refl
same_self (a ∷ l) = rw (eq-eqb a a refl, same_self l)

pub same_true : (l m : List ℕ) → same l m ≡ true → l ≡ m
same_true [] [] h = refl
same_true [] (b ∷ m) h = cc
same_true (a ∷ l) [] h = cc
same_true (a ∷ l) (b ∷ m) h =
    let e = (and-eq-true_iff (eqb a b) (same l m)).0 h in
    ap₂ {C = List ℕ} (λ c r. c ∷ r) (eqb-true a b e.0) (same_true l m e.1)

module _ (f : List ℕ) (n : ℕ) where
  pub check_nine : (length f < 12) ⊎ (65536 < length f) → trailer_check f n ≡ 9
  unfolding trailer_check
  check_nine (inl h) = rw (lt-ltb (length f) 12 h)
  check_nine (inr h) = rw (le-ltb (length f) 12 (omega arith), lt-ltb 65536 (length f) h)

  module _ (least : 12 ≤ length f) (most : length f ≤ 65536) where
    pub check_ten : same (magic_in f) magic ≡ false → trailer_check f n ≡ 10
    unfolding trailer_check
    check_ten h = rw (le-ltb (length f) 12 least, le-ltb 65536 (length f) most, h)

    module _ (marked : same (magic_in f) magic ≡ true) where
      pub check_eleven : 256 < count_in f → trailer_check f n ≡ 11
      unfolding trailer_check
      check_eleven h = rw (le-ltb (length f) 12 least, le-ltb 65536 (length f) most, marked, lt-ltb 256 (count_in f) h)

      module _ (few : count_in f ≤ 256) where
        pub check_twelve : (back_in f ≡ 5 * count_in f → ⊥) ⊎ (trailer_start f < back_in f) → trailer_check f n ≡ 12
        unfolding trailer_check
        check_twelve (inl h) =
            rw (le-ltb (length f) 12 least, le-ltb 65536 (length f) most, marked, le-ltb 256 (count_in f) few, ne_eqb (back_in f) (5 * count_in f) h)
        check_twelve (inr h) =
            rw (
              le-ltb (length f) 12 least,
              le-ltb 65536 (length f) most,
              marked,
              le-ltb 256 (count_in f) few,
              or_true (not (eqb (back_in f) (5 * count_in f))) (ltb (trailer_start f) (back_in f)) (lt-ltb (trailer_start f) (back_in f) h),
            )

        module _ (back : back_in f ≡ 5 * count_in f) (room : back_in f ≤ trailer_start f) where
          past_twelve : trailer_check f n ≡ cond (not (eqb (total (records_in f) % 65536) (sum_in f))) 13 n
          unfolding trailer_check
          past_twelve =
              rw (
                le-ltb (length f) 12 least,
                le-ltb 65536 (length f) most,
                marked,
                le-ltb 256 (count_in f) few,
                eq-eqb (back_in f) (5 * count_in f) back,
                le-ltb (trailer_start f) (back_in f) room,
              )

          pub check_thirteen : (total (records_in f) % 65536 ≡ sum_in f → ⊥) → trailer_check f n ≡ 13
          check_thirteen h = rw (past_twelve, ne_eqb (total (records_in f) % 65536) (sum_in f) h)

          pub check_passed : total (records_in f) % 65536 ≡ sum_in f → trailer_check f n ≡ n
          check_passed h = rw (past_twelve, eq-eqb (total (records_in f) % 65536) (sum_in f) h)

-- the plain facts of a trailer that passes its checks
pub record Passing (f : List ℕ) : Type 0 where
  pub least : 12 ≤ length f
  pub most : length f ≤ 65536
  pub marked : magic_in f ≡ magic
  pub few : count_in f ≤ 256
  pub back : back_in f ≡ 5 * count_in f
  pub room : back_in f ≤ trailer_start f
  pub sum : total (records_in f) % 65536 ≡ sum_in f

pub passing_facts : (f : List ℕ) (n : ℕ) → trailer_check f n ≡ 0 → Passing f × (n ≡ 0)
unfolding trailer_check
passing_facts f n h =
    let t9 = cond_zero _ 8 _ h in
    let t10 = cond_zero _ 9 _ t9.1 in
    let t11 = cond_zero _ 10 _ t10.1 in
    let t12 = cond_zero _ 11 _ t11.1 in
    let t13 = cond_zero _ 12 _ t12.1 in
    let size = or_false _ _ t9.0 in
    let reach = or_false _ _ t12.0 in (
      record {
        least = ltb-false (length f) 12 size.0;
        most = ltb-false 65536 (length f) size.1;
        marked = same_true (magic_in f) magic (not-false _ t10.0);
        few = ltb-false 256 (count_in f) t11.0;
        back = eqb-true (back_in f) (5 * count_in f) (not-false _ reach.0);
        room = ltb-false (trailer_start f) (back_in f) reach.1;
        sum = eqb-true (total (records_in f) % 65536) (sum_in f) (not-false _ t13.0);
      },
      t13.1,
    )

pub passing_check : (f : List ℕ) (n : ℕ) → Passing f → trailer_check f n ≡ n
passing_check f n a =
    let e : same (magic_in f) magic ≡ true = rw a.marked (same_self magic) in
    check_passed f n a.least a.most e a.few a.back a.room a.sum

-- a refusal of the trailer is the file's, whatever its records
pub check_first : (f : List ℕ) (n : ℕ) → (trailer_check f 0 ≡ 0 → ⊥) → trailer_check f n ≡ trailer_check f 0
unfolding trailer_check
check_first f n h =
    go (ltb (length f) 12 || ltb 65536 (length f)) (not (same (magic_in f) magic)) (ltb 256 (count_in f))
    (not (eqb (back_in f) (5 * count_in f)) || ltb (trailer_start f) (back_in f)) (not (eqb (total (records_in f) % 65536) (sum_in f))) h
  where
    by : Bool → Bool → Bool → Bool → Bool → ℕ → ℕ
    by a b c d e k = cond a 9 (cond b 10 (cond c 11 (cond d 12 (cond e 13 k))))

    go : (a b c d e : Bool) → (by a b c d e 0 ≡ 0 → ⊥) → by a b c d e n ≡ by a b c d e 0
    go true b c d e k = refl
    go false true c d e k = refl
    go false false true d e k = refl
    go false false false true e k = refl
    go false false false false true k = refl
    go false false false false false k = absurd (k refl)

-- the plain facts of an accepted file
pub record Accepted (f : List ℕ) : Type 0 where
  pub trailer : Passing f
  pub faultless : fault (file_points f) ≡ 0

pub accepted_facts : (f : List ℕ) → file_refusal f ≡ 0 → Accepted f
unfolding file_refusal
accepted_facts f h = let p = passing_facts f (fault (file_points f)) h in record { trailer = p.0; faultless = p.1 }

pub facts_accepted : (f : List ℕ) → Accepted f → file_refusal f ≡ 0
unfolding file_refusal
facts_accepted f a = passing_check f (fault (file_points f)) a.trailer ∙ a.faultless
