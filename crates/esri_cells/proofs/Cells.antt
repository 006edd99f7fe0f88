-- A cell's text by the sign and the size of its number, and how long it is.
use mathlib.Core.Path.{◌≡◌, refl, sym, ap, ◌∙◌}
use mathlib.Core.Bool.{true, false}
use mathlib.Core.List.{List, [], ◌∷◌, append-nil}
use Prim.Native.Nat.{ℕ, ◌+◌, ◌*◌, ◌/◌, ◌%◌, ◌≤◌, ◌<◌}
use native.Mathlib.Omega.{arith}
use lib.IntN.{ℤ, pos, nat_abs}
use lib.Signed.{lt_z}
use lib.ListN.{length, set, length-append}
use mir.Syntax.{w16}
use mir.Val.{SFits, to_z, of_z}
use mir.Facts.{to_z-of_z}
use borrow.Rule.Slice.PartMut.{mid_of, put_mid}
use Rattle.model.specs.Lists.{laid}
use Rattle.model.specs.Decimal.{digits_of, places, decimal}
use Rattle.model.specs.Esri.{size_text, cell_text}
use Rattle.laws.proofs.Stores.{length_laid}
use Rattle.laws.proofs.Writing.{Writing, none_written, first_written, all_written, write_piece, write_over, write_one}
use Rattle.laws.proofs.DecimalLaws.{places_most, length_digits}
use Rattle.digits.proofs.Signs.{below_zero, from_zero}

module _ {z : ℤ} (f : SFits w16 z) (n : ℕ) (e : n ≡ nat_abs (to_z w16 (of_z w16 z))) where
  pub below : lt_z (to_z w16 (of_z w16 z)) (pos 0) ≡ true → cell_text z ≡ 45 ∷ size_text n
  below t = rw (e, to_z-of_z f, below_zero f t)

  pub above : lt_z (to_z w16 (of_z w16 z)) (pos 0) ≡ false → cell_text z ≡ size_text n
  above t = rw (e, to_z-of_z f, from_zero f t)

pub length_size : (n : ℕ) → length (size_text n) ≡ places (n / 256) + 9
length_size n =
    let d = n % 256 * 390625 in
    omega (arith, length-append (decimal (n / 256)) (46 ∷ digits_of 8 d), length_digits (places (n / 256)) (n / 256), length_digits 8 d)

-- a number of 16 bits has a whole part of at most three digits
pub few_places : (n : ℕ) → n ≤ 32768 → places (n / 256) ≤ 3
few_places n h = places_most 2 (n / 256) (omega arith)

-- what a list holds to whose front a text was written
abbrev pub Put : List ℕ → List ℕ → List ℕ → Type 0
Put t d is = (is ≡ laid t d) × (length is ≡ length d)

put_of : (t d is : List ℕ) → length t ≤ length d → is ≡ laid t d → Put t d is
put_of t d is h e = (e, ap length e ∙ length_laid t d h)

-- the digits, the point and the decimals, one after the other
pub size_put : (n at k : ℕ) (d t : List ℕ) → at ≡ places (n / 256) → k ≡ 8 → t ≡ digits_of k (n % 256 * 390625) → length (size_text n) ≤ length d
    → Put (size_text n) d (put_mid (at + 1) k (set (laid (decimal (n / 256)) d) at 46) t)
size_put n at k d t a e q h =
    let w = decimal (n / 256) in
    let ds = digits_of 8 (n % 256 * 390625) in
    let l : length w ≡ at = length_digits (places (n / 256)) (n / 256) ∙ sym a in
    let one : Writing (size_text n) d (46 ∷ ds) at (laid w d) = first_written w (46 ∷ ds) refl at l in
    let two = write_one one 46 ds refl (omega (arith, length_size n)) in
    let three = write_over two ds [] (sym (append-nil ds)) 8 (length_digits 8 (n % 256 * 390625)) in
    put_of (size_text n) d _ h (rw (q, e) (all_written three refl).0)

-- a sign, and what was written from the second byte on
pub sign_put : (n k : ℕ) (d : List ℕ) → length (size_text n) < length d → length d ≤ 1 + k
    → Put (45 ∷ size_text n) d (put_mid 1 k (set d 0 45) (laid (size_text n) (mid_of 1 k (set d 0 45))))
sign_put n k d h g =
    let t = size_text n in
    let one = write_one (none_written {whole = 45 ∷ t} {was = d}) 45 t refl (omega arith) in
    let two = write_piece one t [] (sym (append-nil t)) (length t) refl k (omega arith) in
    put_of (45 ∷ t) d _ h (all_written two refl).0
