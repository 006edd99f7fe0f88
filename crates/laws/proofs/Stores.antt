-- What a list holds once a part of it was written over.
use mathlib.Core.Path.{◌≡◌, ap, ◌∙◌}
use Prim.Native.Nat.{ℕ, ◌+◌, ◌*◌, ◌≤◌, ◌<◌}
use native.Mathlib.Omega.{arith}
use mathlib.Core.List.{List, [], ◌++◌, flat_map, append_assoc, append-nil}
use lib.ListN.{length, take, drop, get_or, length-append, length-drop, drop_of_length-le}
use lib.Seq.{take_at, drop_at, take_all, drop-drop, length-take-le}
use borrow.Rule.Slice.PartMut.{mid_of, post_of, put_mid}
use Rattle.model.specs.Lists.{laid}
use Rattle.laws.proofs.ListLaws.{flat_map_more, length_flat_map}

-- a list up to the end of the first of two lists that its part from a on was written over with
take_first : {A : Type 0} (a k : ℕ) (l vs rest : List A) → a ≤ length l → take (a + length vs) (put_mid a k l (vs ++ rest)) ≡ take a l ++ vs
take_first a k l vs rest h =
    let e : length (take a l ++ vs) ≡ a + length vs = omega (arith, length-append (take a l) vs, length-take-le a l h) in
    rw (append_assoc vs rest (post_of a k l), ← append_assoc (take a l) vs) (take_at (take a l ++ vs) (rest ++ post_of a k l) (a + length vs) e)

-- where that is all that was written, and where it was written to the front of the part
pub take_over : {A : Type 0} (a k : ℕ) (l vs : List A) → a ≤ length l → take (a + length vs) (put_mid a k l vs) ≡ take a l ++ vs
take_over a k l vs h = rw (append-nil) at (take_first a k l vs [] h)

pub take_laid : {A : Type 0} (a k : ℕ) (l vs : List A) → a ≤ length l → take (a + length vs) (put_mid a k l (laid vs (mid_of a k l))) ≡ take a l ++ vs
take_laid a k l vs h = take_first a k l vs (drop (length vs) (mid_of a k l)) h

-- what was written to the front of the part after p, once p was written to the front of d, stands after p
pub laid_after : {A : Type 0} (a k : ℕ) (p r d : List A) → length p ≡ a → length d ≤ a + k
    → put_mid a k (p ++ drop a d) (laid r (mid_of a k (p ++ drop a d))) ≡ laid (p ++ r) d
laid_after a k p r d e h =
    let g : length (drop a d) ≤ k = omega (arith, length-drop a d) in
    let t : length (p ++ r) ≡ a + length r = omega (arith, length-append p r) in
    rw (take_at p (drop a d) a e, drop_at p (drop a d) a e, take_all k (drop a d) g, drop_of_length-le (drop a d) g, drop-drop, append-nil, t, append_assoc p r (drop (a + length r) d))

-- a list keeps its length
pub length_laid : {A : Type 0} (b d : List A) → length b ≤ length d → length (laid b d) ≡ length d
length_laid b d h = omega (arith, length-append b (drop (length b) d), length-drop (length b) d)

-- what was written over a whole list is all that it holds
pub laid_whole : {A : Type 0} (b d : List A) → length d ≤ length b → laid b d ≡ b
laid_whole b d h = rw (drop_of_length-le d h, append-nil)

-- a turn of a loop that writes what f gives of each element of l, k elements each, one after the other to the front of d
pub laid_more : {A B : Type 0} (f : A → List B) (k : ℕ) → ((a : A) → length (f a) ≡ k) → (l : List A) (z : A) (i m : ℕ) (d out : List B)
    → i < length l → length d ≤ k * i + m → out ≡ laid (flat_map f (take i l)) d
    → put_mid (k * i) m out (laid (f (get_or l i z)) (mid_of (k * i) m out)) ≡ laid (flat_map f (take (i + 1) l)) d
laid_more f k each l z i m d out h room e =
    let p = flat_map f (take i l) in
    let size : length p ≡ k * i = length_flat_map f k each (take i l) ∙ ap (λ (n : ℕ). k * n) (length-take-le i l (omega arith)) in
    let o : out ≡ p ++ drop (k * i) d = e ∙ ap (λ (n : ℕ). p ++ drop n d) size in
    rw (o, flat_map_more f l i z h) (laid_after (k * i) m p (f (get_or l i z)) d size room)
