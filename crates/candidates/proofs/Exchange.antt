-- A key that goes along an ascending list, exchanged for each greater one, is put where it belongs; and a list of first keys stays ascending.
use mathlib.Core.Path.{◌≡◌, refl, ap}
use Prim.Native.Nat.{ℕ, zero, suc, ◌+◌, ◌≤◌, ◌<◌, min, max}
use native.Mathlib.Numerals.{add-one}
use native.Mathlib.Omega.{arith}
use mathlib.Core.Bool.{Bool, true, false, cond}
use mathlib.Core.List.{List, [], ◌∷◌, ◌++◌}
use lib.Dec.{ltb}
use lib.ListN.{length, take, drop, get_or, set, replicate}
use lib.Seq.{drop-cons, take-suc-set, drop-set-lt, append_snoc}
use borrow.Author.Tests.{ltb-true, ltb-false}
use Rattle.model.specs.Lists.{All}
use Rattle.model.specs.Order.{insert}
use Rattle.laws.proofs.ListLaws.{all_take}
use Rattle.laws.proofs.OrderLaws.{insert_pairs}
use Rattle.candidates.specs.Keys.{Ascending}

-- what none is below goes to the front
least_first : (t : ℕ) (l : List ℕ) → All (λ b. t ≤ b) l → Ascending l → insert ltb t l ≡ t ∷ l
unfolding insert Ascending
least_first t [] h k = refl
least_first t (b ∷ l) h k = go (ltb t b) refl (least_first t l h.1 k.1)
  where
    go : (u : Bool) → ltb t b ≡ u → insert ltb t l ≡ t ∷ l → cond u (t ∷ b ∷ l) (b ∷ insert ltb t l) ≡ t ∷ b ∷ l
    go true e ih = refl
    go false e ih = let same : b ≡ t = omega (arith, ltb-false t b e, h.0) in rw (ih, same)

-- the lesser of two keys stays, and the greater goes on
exchanged : (t c : ℕ) (l : List ℕ) → Ascending (t ∷ l) → min t c ∷ insert ltb (max t c) l ≡ insert ltb c (t ∷ l)
unfolding insert Ascending
exchanged t c l k = go (ltb c t) refl
  where
    go : (u : Bool) → ltb c t ≡ u → min t c ∷ insert ltb (max t c) l ≡ cond u (c ∷ t ∷ l) (t ∷ insert ltb c l)
    go true e =
        let low : min t c ≡ c = omega (arith, ltb-true c t e) in
        let high : max t c ≡ t = omega (arith, ltb-true c t e) in
        rw (low, high) (ap {B = List ℕ} (λ r. c ∷ r) (least_first t l k.0 k.1))
    go false e =
        let low : min t c ≡ t = omega (arith, ltb-false c t e) in
        let high : max t c ≡ c = omega (arith, ltb-false c t e) in
        rw (low, high)

-- the first k stand, and the carried key is yet to be put into the others
abbrev pub putting_in : ℕ → ℕ → List ℕ → List ℕ
putting_in k c a = take k a ++ insert ltb c (drop k a)

pub putting_more : (a : List ℕ) (k c l g : ℕ) → k < length a → Ascending (drop k a) → l ≡ min (get_or a k 0) c → g ≡ max (get_or a k 0) c
    → (putting_in (k + 1) g (set a k l) ≡ putting_in k c a) × Ascending (drop (k + 1) (set a k l))
unfolding Ascending
putting_more a k c l g h up el eg =
    let split : drop k a ≡ get_or a k 0 ∷ drop (suc k) a = drop-cons a k 0 h in
    let rest : Ascending (get_or a k 0 ∷ drop (suc k) a) = rw split at up in (
      rw (add-one, take-suc-set a k l h, drop-set-lt (suc k) a k l (omega arith), append_snoc, el, eg, exchanged (get_or a k 0) c (drop (suc k) a) rest, split),
      rw (add-one, drop-set-lt (suc k) a k l (omega arith)) rest.1,
    )

pairs_take : (n : ℕ) (l : List ℕ) → Ascending l → Ascending (take n l)
unfolding Ascending
pairs_take zero l h = tt
pairs_take (suc n) [] h = tt
pairs_take (suc n) (a ∷ l) h = (all_take (λ b. a ≤ b) n l h.0, pairs_take n l h.1)

not_below : (a : ℕ) (l : List ℕ) → All (λ b. ltb a b ≡ false → b ≤ a) l
not_below a [] = tt
not_below a (b ∷ l) = ((λ e. ltb-false a b e), not_below a l)

pub ascending_put : (n k : ℕ) (l : List ℕ) → Ascending l → Ascending (take n (insert ltb k l))
unfolding Ascending
ascending_put n k l h =
    pairs_take n (insert ltb k l)
    (insert_pairs ltb (λ a b. a ≤ b) (λ a b e. let p = ltb-true a b e in omega arith) (λ a b c e r. let p = ltb-true a b e in omega arith) k l (not_below k l) h)

all_same : (n m : ℕ) → All (λ b. m ≤ b) (replicate n m)
all_same zero m = tt
all_same (suc n) m = (omega arith, all_same n m)

pub ascending_same : (n m : ℕ) → Ascending (replicate n m)
unfolding Ascending
ascending_same zero m = tt
ascending_same (suc n) m = (all_same n m, ascending_same n m)
