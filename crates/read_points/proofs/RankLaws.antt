-- The fault of a list of records is its fault by ranks.
use mathlib.Core.Path.{◌≡◌, refl, ◌∙◌}
use Prim.Native.Nat.{ℕ, ◌+◌, ◌*◌, ◌<◌}
use native.Mathlib.Omega.{arith}
use mathlib.Core.Bool.{Bool, true, false, cond, not}
use mathlib.Core.List.{List, [], ◌∷◌}
use lib.Dec.{ltb}
use borrow.Author.Tests.{ltb-true, ltb-false, lt-ltb, le-ltb}
use Rattle.model.specs.Point.{Point, in_domain, lexical, precedes}
use Rattle.model.specs.SurveyFile.{fault, fault_after}
use Rattle.laws.proofs.PrecedesLaws.{lexical_number}
use Rattle.laws.proofs.RecordLaws.{domain_bounds}
use Rattle.read_points.specs.Rank.{rank, fault_from}

-- n is past m
past : (m n : ℕ) → ltb m n ≡ not (ltb n (m + 1))
past m n = go (ltb m n) refl
  where
    go : (t : Bool) → ltb m n ≡ t → t ≡ not (ltb n (m + 1))
    go true e = let l = ltb-true m n e in rw (le-ltb n (m + 1) (omega arith))
    go false e = let l = ltb-false m n e in rw (lt-ltb n (m + 1) (omega arith))

-- in the domain, a location comes after another exactly where its rank is greater
rank_order : (x y u v : ℕ) → y < 4096 → v < 4096 → lexical x u (ltb y v) ≡ not (ltb (rank u v) (rank x y + 1))
rank_order x y u v h k =
    let e : x * 4096 + y ≡ rank x y = omega arith in
    let g : u * 4096 + v ≡ rank u v = omega arith in
    rw (e, g) at (lexical_number 4096 x u y v h k) ∙ past (rank x y) (rank u v)

turned : (t : Bool) (m n : ℕ) → cond (not t) m n ≡ cond t n m
turned true m n = refl
turned false m n = refl

after_rank : (a : Point) (l : List Point) → in_domain a.x a.y ≡ true → fault_after a l ≡ fault_from (rank a.x a.y + 1) l
unfolding fault_after fault_from
after_rank a [] h = refl
after_rank a (b ∷ l) h = go (in_domain b.x b.y) refl (after_rank b l)
  where
    least : ℕ
    least = rank a.x a.y + 1

    go : (t : Bool) → in_domain b.x b.y ≡ t → (in_domain b.x b.y ≡ true → fault_after b l ≡ fault_from (rank b.x b.y + 1) l)
        → cond t (cond (precedes a b) (fault_after b l) 15) 14
        ≡ cond t (cond (ltb (rank b.x b.y) least) 15 (fault_from (rank b.x b.y + 1) l)) 14
    go false e ih = refl
    go true e ih =
        rw (rank_order a.x a.y b.x b.y (domain_bounds a.x a.y h).1 (domain_bounds b.x b.y e).1, ih e)
        (turned (ltb (rank b.x b.y) least) (fault_from (rank b.x b.y + 1) l) 15)

pub fault_rank : (l : List Point) → fault l ≡ fault_from 0 l
unfolding fault fault_from
fault_rank [] = refl
fault_rank (a ∷ l) = go (in_domain a.x a.y) refl
  where
    go : (t : Bool) → in_domain a.x a.y ≡ t
        → cond t (fault_after a l) 14 ≡ cond t (cond (ltb (rank a.x a.y) 0) 15 (fault_from (rank a.x a.y + 1) l)) 14
    go false e = refl
    go true e = rw (le-ltb (rank a.x a.y) 0 (omega arith)) (after_rank a l e)
