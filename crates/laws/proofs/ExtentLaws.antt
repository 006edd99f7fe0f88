-- What is kept of the points: zeros of none; ends that no point is beyond and that are points' own; R0 as document 01 has it, at most 2²⁴ in the domain.
-- A dropped corner shrinks the rectangle again, where no other point holds its edge.
use mathlib.Core.Path.{◌≡◌, refl, ap}
use mathlib.Core.Logic.{◌⊎◌, inl, inr, ⊎_swap}
use Prim.Native.Nat.{ℕ, ◌*◌, ◌/◌, ◌^◌, ◌≤◌, ◌<◌, min, max}
use native.Mathlib.Nat.{le_refl, le_of_mul-le-mul_right, le-div_iff_mul-le}
use native.Mathlib.Omega.{arith, min_cases, max_cases}
use mathlib.Core.Bool.{Bool, true, false, cond}
use mathlib.Core.List.{List, [], ◌∷◌, map}
use lib.IntN.{ℤ, pos}
use lib.ListN.{length, length-map}
use lib.Signed.{le_z, ◌≤ℤ◌}
use Rattle.model.specs.Lists.{All, Some, through}
use Rattle.model.specs.Point.{Point, Contents, Extent, location, at}
use Rattle.model.specs.Distance.{root_in, root}
use Rattle.model.specs.Radius.{locations, twice_area, radius_of, initial_radius}
use Rattle.model.specs.Extent.{xs, ys, lesser, greater, values_by, zeros, extent_of, IsExtent, Shrinks}
use Rattle.model.specs.Calls.{Drop, remove, refusal, accepted, after}
use Rattle.model.specs.Invariant.{Invariant}
use Rattle.laws.proofs.ListLaws.{all_imp, all_both, all_among, all_map, all_of_map}
use Rattle.laws.proofs.ThroughLaws.{through_keeps_some, through_all, through_some}
use Rattle.laws.proofs.ValueLaws.{least_all, greatest_all}
use Rattle.laws.proofs.AreaBound.{enclosed_most}
use Rattle.laws.proofs.RootLaws.{root_le_iff, radius_is}
use Rattle.laws.proofs.ChosenLaws.{Inside, apart_points}
use Rattle.laws.proofs.CallLaws.{after_accepted}
use Rattle.laws.proofs.HistoryInvariant.{all_remove}
use Rattle.laws.proofs.DropLaws.{removed_free, removed_one}

pub ends_none : (q : Contents) → q.points ≡ [] → extent_of q ≡ zeros
unfolding extent_of initial_radius twice_area radius_of root root_in through values_by
ends_none q e = rw e

-- min and max, lesser and greater give one of the two
min_either : (a b : ℕ) → (min a b ≡ a) ⊎ (min a b ≡ b)
min_either a b = min_cases a b ((min a b ≡ a) ⊎ (min a b ≡ b)) (λ h e. inl e) (λ h e. inr e)

max_either : (a b : ℕ) → (max a b ≡ a) ⊎ (max a b ≡ b)
max_either a b = max_cases a b ((max a b ≡ a) ⊎ (max a b ≡ b)) (λ h e. inr e) (λ h e. inl e)

cond_either : (t : Bool) (a b : ℤ) → (cond t a b ≡ a) ⊎ (cond t a b ≡ b)
cond_either true a b = inl refl
cond_either false a b = inr refl

-- the least and the greatest of numbers that points have
module _ (f : Point → ℕ) (l : List Point) where
  abbrev numbers : List ℕ
  numbers = map f l

  all_between : All (λ a. (through 0 min numbers ≤ f a) × (f a ≤ through 0 max numbers)) l
  all_between =
      all_both (λ a. through 0 min numbers ≤ f a) (λ a. f a ≤ through 0 max numbers) _ (λ a h k. (h, k)) l
      (all_of_map (λ n. through 0 min numbers ≤ n) f l (through_all 0 min ◌≤◌ (λ a. omega arith) (λ a b c h k. omega arith) (λ a b. omega arith) (λ a b. omega arith) numbers))
      (all_of_map (λ n. n ≤ through 0 max numbers) f l
      (through_all 0 max (λ a b. b ≤ a) (λ a. omega arith) (λ a b c h k. omega arith) (λ a b. omega arith) (λ a b. omega arith) numbers))

some_map : {A : Type 0} (f : Point → A) (c : A) (l : List Point) → Some (λ b. b ≡ c) (map f l) → Some (λ a. f a ≡ c) l
some_map f c [] h = h
some_map f c (a ∷ l) (inl h) = inl h
some_map f c (a ∷ l) (inr h) = inr (some_map f c l h)

module _ (q : Contents) (some : 0 < length q.points) where
  abbrev l : List Point
  l = q.points

  some_of : {A : Type 0} (f : Point → A) → 0 < length (map f l)
  some_of f = omega (arith, length-map l f)

  pub ends_are : IsExtent q (extent_of q)
  unfolding extent_of values_by initial_radius
  ends_are = record {
    across = all_between (λ a. a.x) l;
    up = all_between (λ a. a.y) l;
    values = all_both (λ a. values_by lesser l ≤ℤ a.z) (λ a. a.z ≤ℤ values_by greater l) _ (λ a h k. (h, k)) l (least_all l) (greatest_all l);
    least_x = some_map (λ a. a.x) _ l (through_some 0 min min_either (xs q) (some_of (λ a. a.x)));
    greatest_x = some_map (λ a. a.x) _ l (through_some 0 max max_either (xs q) (some_of (λ a. a.x)));
    least_y = some_map (λ a. a.y) _ l (through_some 0 min min_either (ys q) (some_of (λ a. a.y)));
    greatest_y = some_map (λ a. a.y) _ l (through_some 0 max max_either (ys q) (some_of (λ a. a.y)));
    least_z = some_map (λ a. a.z) _ l (through_some (pos 0) lesser (λ a b. cond_either (le_z a b) a b) (map (λ a. a.z) l) (some_of (λ a. a.z)));
    greatest_z = some_map (λ a. a.z) _ l (through_some (pos 0) greater (λ a b. ⊎_swap (cond_either (le_z a b) b a)) (map (λ a. a.z) l) (some_of (λ a. a.z)));
    radius = radius_is (twice_area q) (length l) some;
  }

-- R0 in the domain, where each point more encloses at most twice the domain's area
below : (k n a : ℕ) → 0 < n → k * (355 * n * 2) ≤ 65536 * 7 * 113 * a → a ≤ n * 33538050 → k < 16777217 * 16777217
below k n a h g l =
    let e : k * (355 * n * 2) ≤ 2448702000000 * (355 * n * 2) = omega arith in
    let m : k ≤ 2448702000000 = le_of_mul-le-mul_right e (omega arith) in
    omega arith

radius_most : (a n : ℕ) → 0 < n → a ≤ n * 33538050 → radius_of a n ≤ 2 ^ 24
unfolding radius_of
radius_most a n h k =
    let q = 65536 * 7 * 113 * a / (355 * n * 2) in
    let m : 0 < 355 * n * 2 = omega arith in
    (root_le_iff q (2 ^ 24)).1 (below q n a h ((le-div_iff_mul-le m).0 (le_refl q)) k)

-- the points enclose no more, in any order
pub twice_most : (q : Contents) → All Inside q.points → twice_area q ≤ length q.points * 33538050
unfolding twice_area
twice_most q inside =
    let k =
    enclosed_most 4095 (locations q.points)
    (all_among (λ b. (b.x ≤ 4095) × (b.y ≤ 4095)) (locations q.points)
    (all_map _ _ q.points (all_imp Inside _ (λ a h. (omega (arith, h.0), omega (arith, h.1))) q.points inside))) in
    omega (arith, k, length-map q.points (λ (a : Point). location a.x a.y))

pub kept_most : (q : Contents) → All Inside q.points → (extent_of q).radius ≤ 2 ^ 24
unfolding extent_of initial_radius
kept_most q inside = go q.points refl
  where
    go : (l : List Point) → q.points ≡ l → (extent_of q).radius ≤ 2 ^ 24
    go [] e = let z : initial_radius q ≡ 0 = ap (λ (e : Extent). e.radius) (ends_none q e) in omega arith
    go (a ∷ l) e = radius_most (twice_area q) (length q.points) (rw e (omega arith)) (twice_most q inside)

-- a drop, accepted, of one point of more
module _ (x y : ℕ) (q : Contents) (ordered : Invariant q.points) (yes : refusal (Drop x y) q ≡ 0) (more : 1 < length q.points) where
  -- every point that is not at the location
  abbrev Others : (Point → Type 0) → Type 0
  Others P = All (λ a. at x y a ≡ false → P a) q.points

  abbrev left : List Point
  left = remove x y q.points

  others_left : (P : Point → Type 0) → Others P → All P left
  others_left P h =
      all_both (λ a. at x y a ≡ false → P a) (λ a. at x y a ≡ false) P (λ a g e. g e) left
      (all_remove x y _ q.points h) (apart_points x y left (removed_free x y q.points ordered.ascending))

  left_some : (f : Point → ℕ) → 0 < length (map f left)
  left_some f = omega (arith, length-map left f, removed_one x y q.points)

  short : (f : Point → ℕ) (b : ℕ) → Others (λ a. f a < b) → through 0 max (map f left) < b
  short f b h = through_keeps_some 0 max (λ n. n < b) (λ a c g k. omega arith) (map f left) (left_some f) (all_map (λ n. n < b) f left (others_left (λ a. f a < b) h))

  past : (f : Point → ℕ) (b : ℕ) → Others (λ a. b < f a) → b < through 0 min (map f left)
  past f b h = through_keeps_some 0 min (λ n. b < n) (λ a c g k. omega arith) (map f left) (left_some f) (all_map (λ n. b < n) f left (others_left (λ a. b < f a) h))

  pub drop_shrinks : Shrinks x y q.points (extent_of (after (Drop x y) q))
  unfolding extent_of accepted
  drop_shrinks = rw (after_accepted (Drop x y) q yes) (record {
    right = λ h. short (λ a. a.x) x h;
    left = λ h. past (λ a. a.x) x h;
    top = λ h. short (λ a. a.y) y h;
    bottom = λ h. past (λ a. a.y) y h;
  })
