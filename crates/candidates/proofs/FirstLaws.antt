-- The first keys of the points within a limit are those of the first points in order.
use mathlib.Core.Path.{◌≡◌, sym, ap, ◌∙◌}
use Prim.Native.Nat.{ℕ, ◌%◌, ◌≤◌, ◌<◌, min}
use native.Mathlib.Omega.{arith}
use mathlib.Core.Bool.{Bool, true, false}
use mathlib.Core.List.{List, map, map-map}
use lib.Dec.{leb, ltb}
use lib.IntN.{ℤ, pos}
use lib.ListN.{length, take, get_or, replicate, length-map}
use lib.Seq.{take-take, take-append-le, take-length}
use borrow.Author.Tests.{leb-true, leb-false}
use Rattle.model.specs.Lists.{All}
use Rattle.model.specs.Point.{Location, Point, State, point, precedes, no_point}
use Rattle.model.specs.Distance.{squared, distance}
use Rattle.model.specs.Order.{sort}
use Rattle.model.specs.Choice.{nearer, ordered}
use Rattle.laws.proofs.ListLaws.{all_imp, all_map, all_take, pairs_map, pairs_both, map_same}
use Rattle.laws.proofs.MapLaws.{take_map, get_d_map}
use Rattle.laws.proofs.PrecedesLaws.{less_lexical, more_lexical}
use Rattle.laws.proofs.OrderLaws.{sort_all}
use Rattle.laws.proofs.SortLaws.{length_sort, map_sort}
use Rattle.laws.proofs.PartLaws.{passing, length_passing, Parted, take_sort_passing}
use Rattle.point_arrays.specs.PointArrays.{HoldsPoints}
use Rattle.point_arrays.proofs.ReadLaws.{length_points, points_at}
use Rattle.squares.specs.Squares.{HoldsSquares, Words, within, indices_within}
use Rattle.squares.proofs.IndexLaws.{indices_below, indices_ascend, map_indices}
use Rattle.candidates.specs.Keys.{key_at, candidate_of, no_key, first_keys}
use Rattle.candidates.specs.First.{candidate_at, points_within}
use Rattle.candidates.proofs.KeyLaws.{key_squared, key_x, key_y, key_index, key_before, sort_before}

module _ (s : State) (p : Location) (xs ys : List ℕ) (zs : List ℤ) (n : ℕ) (points : HoldsPoints s xs ys zs n) (squares : List ℕ) (words : Words squares)
    (held : HoldsSquares s p squares) (limit : ℕ) where
  many : length s.contents.points ≡ min n 256
  many = ap length points ∙ length_points xs ys zs n

  abbrev point_at : ℕ → Point
  point_at i = get_or s.contents.points i no_point

  -- the point of a key
  abbrev point_of : ℕ → Point
  point_of key = point_at (key % 256)

  abbrev key : ℕ → ℕ
  key i = key_at xs ys squares i

  abbrev inside : Point → Bool
  inside a = leb (squared s p a) limit

  abbrev indices : List ℕ
  indices = indices_within limit squares

  size : (length squares ≡ length s.contents.points) × (length squares ≤ 256)
  size =
      let e : length squares ≡ length s.contents.points = ap length held ∙ length-map s.contents.points (squared s p) in
      (e, omega (arith, many))

  module _ (i : ℕ) (h : i < length squares) where
    square_at : get_or squares i 0 ≡ squared s p (point_at i)
    square_at = ap (λ (l : List ℕ). get_or l i 0) held ∙ get_d_map (squared s p) s.contents.points i 0 no_point (omega (arith, size.0))

    at_index : point_at i ≡ point (get_or xs i 0 % 4096) (get_or ys i 0 % 4096) (get_or zs i (pos 0))
    at_index =
        ap (λ (l : List Point). get_or l i no_point) points ∙ points_at xs ys zs n i no_point (omega (arith, size.0, many))

    key_point : point_of (key i) ≡ point_at i
    key_point = ap point_at (key_index (get_or squares i 0) (get_or xs i 0 % 4096) (get_or ys i 0 % 4096) i (omega arith) (omega arith) (omega (arith, size.1)))

    key_candidate : candidate_of zs (key i) ≡ candidate_at s p (point_of (key i))
    unfolding candidate_at candidate_of distance
    key_candidate =
        let x : get_or xs i 0 % 4096 < 4096 = omega arith in
        let y : get_or ys i 0 % 4096 < 4096 = omega arith in
        let k : i < 256 = omega (arith, size.1) in
        rw (key_x (get_or squares i 0) _ _ i x y k, key_y (get_or squares i 0) _ _ i x y k, key_index (get_or squares i 0) _ _ i x y k, key_squared (get_or squares i 0) _ _ i x y k, ← square_at, at_index)

    key_most : key i ≤ no_key
    key_most =
        let w : get_or squares i 0 < 4294967296 = words i h in
        let x : get_or xs i 0 % 4096 < 4096 = omega arith in
        let y : get_or ys i 0 % 4096 < 4096 = omega arith in
        omega (arith, size.1)

  -- keys are compared as points are
  key_nearer : (i j : ℕ) → i < j → i < length squares → j < length squares → nearer s p (point_of (key j)) (point_of (key i)) ≡ ltb (key j) (key i)
  unfolding nearer
  key_nearer i j l h k =
      rw (key_point i h, key_point j k, ← square_at i h, ← square_at j k, at_index i h, at_index j k)
      (key_before (get_or squares i 0) (get_or xs i 0 % 4096) (get_or ys i 0 % 4096) i (get_or squares j 0) (get_or xs j 0 % 4096) (get_or ys j 0 % 4096) j
      (omega arith) (omega arith) (omega arith) (omega arith) l (omega (arith, size.1)))

  below : All (λ i. i < length squares) indices
  below = indices_below (λ i. within limit (get_or squares i 0)) (length squares)

  apart : (a b : Point) → inside a ≡ true → inside b ≡ false → squared s p a < squared s p b
  apart a b e f = omega (arith, leb-true (squared s p a) limit e, leb-false (squared s p b) limit f)

  -- what is within the limit comes before what is not
  parted : Parted (nearer s p) inside
  unfolding nearer
  parted = record {
    first = λ a b e f. less_lexical (squared s p a) (squared s p b) (precedes a b) (apart a b e f);
    then = λ a b e f. more_lexical (squared s p b) (squared s p a) (precedes b a) (apart a b e f);
  }

  points_within_lem : map point_at indices ≡ passing inside s.contents.points
  points_within_lem =
      map_indices (λ i. within limit (get_or squares i 0)) inside s.contents.points no_point (length squares) (omega (arith, size.0)) (λ i h. ap (λ d. leb d limit) (square_at i h))
      ∙ rw (size.0, take-length)

  pub found : length indices ≡ points_within s p limit
  found = sym (length-map indices point_at) ∙ ap length points_within_lem ∙ length_passing inside s.contents.points

  abbrev keys : List ℕ
  keys = map key indices

  keys_ordered : map point_of (sort ltb keys) ≡ sort (nearer s p) (passing inside s.contents.points)
  keys_ordered =
      map_sort point_of ltb (nearer s p) keys
      (pairs_map (λ a b. nearer s p (point_of b) (point_of a) ≡ ltb b a) key indices
      (pairs_both (λ i j. i < j) (λ i j. nearer s p (point_of (key j)) (point_of (key i)) ≡ ltb (key j) (key i)) (λ i. i < length squares) key_nearer indices
      (indices_ascend (λ i. within limit (get_or squares i 0)) (length squares)) below))
      ∙ ap (sort (nearer s p))
      (map-map point_of key indices
      ∙ map_same (λ i. point_of (key i)) point_at indices (all_imp (λ i. i < length squares) (λ i. point_of (key i) ≡ point_at i) key_point indices below)
      ∙ points_within_lem)

  keys_tell : All (λ k. candidate_of zs k ≡ candidate_at s p (point_of k)) (sort ltb keys)
  keys_tell =
      sort_all ltb (λ k. candidate_of zs k ≡ candidate_at s p (point_of k)) keys
      (all_map (λ k. candidate_of zs k ≡ candidate_at s p (point_of k)) key indices
      (all_imp (λ i. i < length squares) (λ i. candidate_of zs (key i) ≡ candidate_at s p (point_of (key i))) key_candidate indices below))

  -- k of the first keys, of no more than were found, are the keys of the first k points in order
  module _ (k : ℕ) (few : k ≤ 11) (some : k ≤ length indices) where
    keys_first : take k (first_keys xs ys squares indices) ≡ take k (sort ltb keys)
    unfolding first_keys
    keys_first =
        take-take k 11 _ few
        ∙ ap (take k) (sort_before no_key 11 keys (all_map (λ e. e ≤ no_key) key indices (all_imp (λ i. i < length squares) (λ i. key i ≤ no_key) key_most indices below)))
        ∙ take-append-le k (sort ltb keys) (replicate 11 no_key) (omega (arith, length_sort ltb keys, length-map indices key))

    pub first_are : map (candidate_of zs) (take k (first_keys xs ys squares indices)) ≡ map (candidate_at s p) (take k (ordered s p))
    unfolding ordered
    first_are =
        ap (map (candidate_of zs)) keys_first
        ∙ map_same (candidate_of zs) (λ e. candidate_at s p (point_of e)) (take k (sort ltb keys)) (all_take _ k (sort ltb keys) keys_tell)
        ∙ sym (map-map (candidate_at s p) point_of (take k (sort ltb keys)))
        ∙ ap (map (candidate_at s p))
        (sym (take_map point_of k (sort ltb keys)) ∙ ap (take k) keys_ordered ∙ take_sort_passing (nearer s p) inside parted k s.contents.points (omega (arith, found)))
