-- The mean of signed values is the least one plus the mean of what they exceed it by: so an answer near the one is near the other.
use mathlib.Core.Path.{◌≡◌, refl, ap, ap₂, ◌∙◌}
use Prim.Native.Nat.{ℕ, zero, suc, ◌+◌, ◌*◌, ◌≤◌, ◌<◌}
use native.Mathlib.Nat.{mul-one, lt-suc_self, mul-pos}
use native.Mathlib.Omega.{arith}
use lib.IntN.{ℤ, pos, nat_abs, ◌+ℤ◌, ◌-ℤ◌, ◌*ℤ◌}
use Rattle.model.specs.Fraction.{Fraction, Signed, whole, plus, times, over, sum, times_z, plus_z, sum_z, over_z}
use Rattle.model.specs.Mean.{Near}
use Rattle.laws.proofs.DiffLaws.{diff, up, down, diff_of, diff_pos, diff_plus, diff_minus, diff_times, diff_same, abs_diff}
use Rattle.error_bound.proofs.Means.{times_at, mean_of, Answers}

-- the sum T of weighed values is U - D times the sum S of weights, plus the sum L of the weighed values less U - D
record Raised (U D : ℕ) (T : Signed) (S L : Fraction) : Type 0 where
  total : T.top ≡ diff (U * S.top + L.top) (D * S.top)
  under : T.bot ≡ S.bot
  lessened_under : L.bot ≡ S.bot

-- a point more, weighed by t / q
step : (U D k s b l t q : ℕ) → (diff (U * s + l) (D * s) *ℤ pos q) +ℤ (pos t *ℤ diff (U + k) D *ℤ pos b) ≡ diff (U * (s * q + t * b) + (l * (q * 1) + t * k * b)) (D * (s * q + t * b))
step U D k s b l t q = rw (diff_pos q, diff_pos t, diff_pos b) (simp (diff_times, diff_plus) (diff_same _ _ _ _ (omega arith)))

raised_step : (U D k : ℕ) (T : Signed) (S L w : Fraction) (v : ℤ) → v ≡ diff (U + k) D → Raised U D T S L → Raised U D (plus_z T (times_z w v)) (plus S w) (plus L (times w (whole k)))
unfolding plus_z times_z plus times whole
raised_step U D k T S L w v e r = record {
  total = rw (r.total, r.under, r.lessened_under, e) (step U D k S.top S.bot L.top w.top w.bot);
  under = ap (λ (z : ℕ). z * w.bot) r.under;
  lessened_under = rw (r.lessened_under, mul-one);
}

module _ (w : ℕ → Fraction) (v : ℕ → ℤ) (k : ℕ → ℕ) (U D : ℕ) where
  sums_raised : (n : ℕ) → ((i : ℕ) → i < n → v i ≡ diff (U + k i) D) → Raised U D (sum_z (λ i. times_z (w i) (v i)) n) (sum w n) (sum (times_at w (λ i. whole (k i))) n)
  unfolding sum_z sum
  sums_raised zero e = record { total = unfold whole in diff_pos 0 ∙ diff_same 0 0 (U * 0 + 0) (D * 0) (omega arith); under = unfold whole in refl; lessened_under = refl }
  sums_raised (suc n) e = raised_step U D (k n) _ _ _ (w n) (v n) (e n (lt-suc_self n)) (sums_raised n (λ i l. e i (omega arith)))

-- with a = m + 256 (U - D), the two sides of `Near` for T and of `Answers` for L are the same
same_error : (U D m s l b : ℕ)
    → (pos 256 *ℤ ((pos 256 *ℤ diff U D) +ℤ pos m) *ℤ pos (b * s)) -ℤ (pos 65536 *ℤ (diff (U * s + l) (D * s) *ℤ pos b)) ≡ diff (m * 256 * (b * s)) (l * b * 65536)
same_error U D m s l b =
    rw (diff_pos 256, diff_pos m, diff_pos (b * s), diff_pos 65536, diff_pos b) (simp (diff_times, diff_plus, diff_minus) (diff_same _ _ _ _ (omega arith)))

apart : (a p q : ℕ) → a ≤ p + q → p ≤ a + q → nat_abs (diff a p) ≤ q
apart a p q g h = rw abs_diff (omega arith)

raised_near : (U D m : ℕ) (T : Signed) (S L : Fraction) → Raised U D T S L → 0 < S.top → 0 < S.bot → Answers m (over L S) → Near ((pos 256 *ℤ diff U D) +ℤ pos m) (over_z T S)
unfolding over over_z
raised_near U D m T S L r P Q A =
    let q = S.bot * S.top in
    let g : m * 256 * q ≤ L.top * S.bot * 65536 + q * 129 = rw r.lessened_under at A.not_more in
    let f : L.top * S.bot * 65536 ≤ m * 256 * q + q * 129 = rw r.lessened_under at A.not_less in
    record {
      proper = rw r.under (mul-pos Q P);
      close = rw (r.total, r.under, same_error) (apart (m * 256 * q) (L.top * S.bot * 65536) (129 * q) (omega arith) (omega arith));
    }

plus_diff : (z : ℤ) (k : ℕ) → z +ℤ pos k ≡ diff (up z + k) (down z)
plus_diff z k =
    let U = up z in
    let D = down z in
    ap₂ ◌+ℤ◌ (diff_of z) (diff_pos k) ∙ diff_plus U D k 0 ∙ diff_same (U + k) (D + 0) (U + k) D (omega arith)

pub signed_near : (n : ℕ) (w : ℕ → Fraction) (v : ℕ → ℤ) (k : ℕ → ℕ) (least : ℤ) (m : ℕ) → ((i : ℕ) → i < n → v i ≡ least +ℤ pos (k i)) → 0 < (sum w n).top → 0 < (sum w n).bot
    → Answers m (mean_of n w (λ i. whole (k i))) → Near ((pos 256 *ℤ least) +ℤ pos m) (over_z (sum_z (λ i. times_z (w i) (v i)) n) (sum w n))
unfolding mean_of
signed_near n w v k least m e P Q A =
    let U = up least in
    let D = down least in
    rw (diff_of least) (raised_near U D m _ _ _ (sums_raised w v k U D n (λ i l. e i l ∙ plus_diff least (k i))) P Q A)
