-- Numbers written as bytes, or in two's complement, are read back, and bytes that were read are written back.
use mathlib.Core.Path.{◌≡◌, refl, ap, ap₂}
use Prim.Native.Nat.{ℕ, suc, ◌+◌, ◌-◌, ◌*◌, ◌/◌, ◌%◌, ◌<◌}
use native.Mathlib.Omega.{arith}
use mathlib.Core.Bool.{Bool, true, false}
use mathlib.Core.List.{[], ◌∷◌, ◌++◌}
use lib.Dec.{ltb}
use lib.IntN.{ℤ, pos, negsuc}
use lib.Signed.{mag}
use borrow.Author.Tests.{ltb-true, ltb-false, lt-ltb, le-ltb}
use Rattle.model.specs.Lists.{Bytes}
use Rattle.model.specs.Bytes.{word, bytes2, bytes4, complement, signed}

-- two bytes hold a number's last 16 bits, four its last 32
pub word_back : (n : ℕ) → word (n / 256 % 256) (n % 256) ≡ n % 65536
word_back n = omega arith

pub long_back : (n : ℕ) → 65536 * word (n / 65536 / 256 % 256) (n / 65536 % 256) + word (n / 256 % 256) (n % 256) ≡ n % 4294967296
long_back n = omega arith

pub bytes4_bytes : (n : ℕ) → Bytes (bytes4 n)
bytes4_bytes n = (omega arith, (omega arith, (omega arith, (omega arith, tt))))

pub bytes2_word : (n a b : ℕ) → a < 256 → b < 256 → n % 65536 ≡ word a b → bytes2 n ≡ a ∷ b ∷ []
bytes2_word n a b ha hb e =
    let e₁ : n / 256 % 256 ≡ a = omega arith in
    let e₂ : n % 256 ≡ b = omega arith in
    rw (e₁, e₂)

pub bytes4_long : (n a b c d : ℕ) → a < 256 → b < 256 → c < 256 → d < 256 → n ≡ 65536 * word a b + word c d → bytes4 n ≡ a ∷ b ∷ c ∷ d ∷ []
bytes4_long n a b c d ha hb hc hd e =
    let e₁ : bytes2 (n / 65536) ≡ a ∷ b ∷ [] = bytes2_word (n / 65536) a b ha hb (omega arith) in
    let e₂ : bytes2 n ≡ c ∷ d ∷ [] = bytes2_word n c d hc hd (omega arith) in
    ap₂ ◌++◌ e₁ e₂

-- two's complement among h + h numbers, of the values from -h to h - 1
module _ (h : ℕ) where
  pub complement_below : (z : ℤ) → mag z < h → complement h z < h + h
  complement_below (pos n) k = omega arith
  complement_below (negsuc n) k = omega arith

  pub signed_back : (z : ℤ) → mag z < h → signed h (complement h z) ≡ z
  signed_back (pos n) k = rw (lt-ltb n h k)
  signed_back (negsuc n) k =
      let e : h + h - suc (h + h - suc n) ≡ n = omega arith in
      rw (le-ltb (h + h - suc n) h (omega arith)) (ap negsuc e)

  pub complement_back : (n : ℕ) → n < h + h → complement h (signed h n) ≡ n
  complement_back n k = go (ltb n h) refl
    where
      go : (t : Bool) → ltb n h ≡ t → complement h (signed h n) ≡ n
      go true e = rw e
      go false e = rw e (omega arith)

  pub signed_below : (n : ℕ) → 0 < h → mag (signed h n) < h
  signed_below n k = go (ltb n h) refl
    where
      go : (t : Bool) → ltb n h ≡ t → mag (signed h n) < h
      go true e = rw e (ltb-true n h e)
      go false e = rw e (omega (arith, ltb-false n h e))
