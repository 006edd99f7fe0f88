-- Points and their records: what is written is read back, what was read is written back, and a list without fault is ascending and in the domain.
use mathlib.Core.Path.{◌≡◌, refl, ap, ap₂}
use Prim.Native.Nat.{ℕ, ◌*◌, ◌/◌, ◌%◌, ◌<◌}
use native.Mathlib.Omega.{arith}
use mathlib.Core.Bool.{true, and-eq-true_iff}
use mathlib.Core.List.{List, [], ◌∷◌, ◌++◌, flat_map}
use lib.Dec.{ltb}
use lib.ListN.{length}
use borrow.Author.Tests.{ltb-true}
use Rattle.model.specs.Lists.{All, Pairs, Bytes}
use Rattle.model.specs.Point.{Point, in_domain, in_range, precedes}
use Rattle.model.specs.Bytes.{word, bytes2, signed}
use Rattle.model.specs.SurveyFile.{points_of, fault_after, fault, records}
use Rattle.model.specs.Invariant.{Sound}
use Rattle.laws.proofs.Tests.{cond_sound}
use Rattle.laws.proofs.PrecedesLaws.{precedes_trans}
use Rattle.laws.proofs.ListLaws.{all_imp}
use Rattle.laws.proofs.ValueLaws.{range_ends, byte_range, mag_below}
use Rattle.laws.proofs.Numbers.{word_back, bytes2_word, signed_back, complement_back, signed_below}

pub domain_bounds : (x y : ℕ) → in_domain x y ≡ true → (x < 4096) × (y < 4096)
domain_bounds x y h =
    let t = (and-eq-true_iff (ltb x 4096) (ltb y 4096)).0 h in
    (ltb-true x 4096 t.0, ltb-true y 4096 t.1)

pub length_records : (l : List Point) → length (records l) ≡ 5 * length l
unfolding records flat_map
length_records [] = refl
length_records (a ∷ l) = omega (arith, length_records l)

pub length_points : (r : List ℕ) → length (points_of r) ≡ length r / 5
unfolding points_of
length_points [] = refl
length_points (a ∷ []) = refl
length_points (a ∷ b ∷ []) = refl
length_points (a ∷ b ∷ c ∷ []) = refl
length_points (a ∷ b ∷ c ∷ d ∷ []) = refl
length_points (a ∷ b ∷ c ∷ d ∷ e ∷ r) = omega (arith, length_points r)

pub points_records : (l : List Point) → All Sound l → points_of (records l) ≡ l
unfolding points_of records flat_map
points_records [] h = refl
points_records (a ∷ l) h =
    let d = domain_bounds a.x a.y h.0.location in
    let ex : word (a.x / 256 % 256) (a.x % 256) ≡ a.x = omega (arith, word_back a.x) in
    let ey : word (a.y / 256 % 256) (a.y % 256) ≡ a.y = omega (arith, word_back a.y) in
    let r = range_ends a.z h.0.value in
    rw (ex, ey, signed_back 128 a.z (mag_below a.z 127 r.0 r.1)) (ap {B = List Point} (λ m. a ∷ m) (points_records l h.1))

pub records_points : (r : List ℕ) → Bytes r → length r % 5 ≡ 0 → records (points_of r) ≡ r
unfolding points_of records flat_map
records_points [] h n = refl
records_points (a ∷ []) h n = absurd (omega arith)
records_points (a ∷ b ∷ []) h n = absurd (omega arith)
records_points (a ∷ b ∷ c ∷ []) h n = absurd (omega arith)
records_points (a ∷ b ∷ c ∷ d ∷ []) h n = absurd (omega arith)
records_points (a ∷ b ∷ c ∷ d ∷ e ∷ r) h n =
    let t = h.1.1 in
    let e₁ : bytes2 (word a b) ≡ a ∷ b ∷ [] = bytes2_word (word a b) a b h.0 h.1.0 (omega arith) in
    let e₂ : bytes2 (word c d) ≡ c ∷ d ∷ [] = bytes2_word (word c d) c d t.0 t.1.0 (omega arith) in
    rw (complement_back 128 e t.1.1.0, records_points r t.1.1.1 (omega arith)) (ap₂ (λ u w. u ++ w ++ e ∷ r) e₁ e₂)

pub points_range : (r : List ℕ) → All (λ (a : Point). in_range a.z ≡ true) (points_of r)
unfolding points_of
points_range [] = tt
points_range (a ∷ []) = tt
points_range (a ∷ b ∷ []) = tt
points_range (a ∷ b ∷ c ∷ []) = tt
points_range (a ∷ b ∷ c ∷ d ∷ []) = tt
points_range (a ∷ b ∷ c ∷ d ∷ e ∷ r) = (byte_range (signed 128 e) (signed_below 128 e (omega arith)), points_range r)

abbrev pub Placed : List Point → Type 0
Placed l = All (λ (a : Point). in_domain a.x a.y ≡ true) l

abbrev pub Ascending : List Point → Type 0
Ascending l = Pairs (λ a b. precedes a b ≡ true) l

-- what follows a point without fault is in the domain, after it, and ascending
pub faultless_after : (a : Point) (l : List Point) → fault_after a l ≡ 0 → Placed l × All (λ b. precedes a b ≡ true) l × Ascending l
unfolding fault_after
faultless_after a [] h = (tt, tt, tt)
faultless_after a (b ∷ l) h =
    let s = cond_sound (in_domain b.x b.y) 13 _ h in
    let t = cond_sound (precedes a b) 14 _ s.1 in
    let r = faultless_after b l t.1 in
    ((s.0, r.0), (t.0, all_imp _ (λ c. precedes a c ≡ true) (λ c p. precedes_trans a b c t.0 p) l r.1), (r.1, r.2))

pub faultless : (l : List Point) → fault l ≡ 0 → Placed l × Ascending l
unfolding fault
faultless [] h = (tt, tt)
faultless (a ∷ l) h =
    let s = cond_sound (in_domain a.x a.y) 13 _ h in
    let r = faultless_after a l s.1 in
    ((s.0, r.0), (r.1, r.2))

no_fault_after : (a : Point) (l : List Point) → Placed l → All (λ b. precedes a b ≡ true) l → Ascending l → fault_after a l ≡ 0
unfolding fault_after
no_fault_after a [] d p u = refl
no_fault_after a (b ∷ l) d p u = rw (d.0, p.0) (no_fault_after b l d.1 u.0 u.1)

pub no_fault : (l : List Point) → Placed l → Ascending l → fault l ≡ 0
unfolding fault
no_fault [] d u = refl
no_fault (a ∷ l) d u = rw d.0 (no_fault_after a l d.1 u.0 u.1)
