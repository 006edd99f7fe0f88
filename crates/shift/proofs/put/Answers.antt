-- `put` meets its contract: the elements from `at` on are copied one further, and the new one is stored in front of them.
use mathlib.Core.Path.{◌≡◌, sym, ap, ◌∙◌}
use mathlib.Core.List.{List, [], ◌∷◌, ◌++◌, append-nil}
use native.Mathlib.Numerals.{add-one}
use native.Mathlib.Omega.{arith}
use Prim.Native.Nat.{ℕ, suc, ◌+◌, ◌-◌, ◌<◌}
use borrow.Author.Rules.{rules}
use lib.ListN.{length, take, drop, set, get_or, drop_of_length-le}
use lib.Seq.{paste, length-take-le, take-suc, append_snoc, set_at, take-append-add}
use Rattle.shift.proofs.put.Goals as goal

module _ {A : Type 0} (a : List A) (n i : ℕ) (v : A) (e : length a ≡ n) (h : i < n) where
  copied : paste a (i + 1) (drop i a) (n - 1 - i) ≡ take i a ++ get_or a i v ∷ take (n - 1 - i) (drop i a)
  copied =
      let none : drop (i + 1 + (n - 1 - i)) a ≡ [] = drop_of_length-le a (omega arith) in
      let lt : i < length a = omega arith in
      rw (none, append-nil, add-one i, take-suc a i v lt, append_snoc)

  stored : set (paste a (i + 1) (drop i a) (n - 1 - i)) i v ≡ take n (take i a ++ v ∷ drop i a)
  stored =
      let k : length (take i a) ≡ i = length-take-le i a (omega arith) in
      let whole : length (take i a) + suc (n - 1 - i) ≡ n = omega arith in
      rw (copied, set_at (take i a) (get_or a i v) (take (n - 1 - i) (drop i a)) v i k)
      (sym (ap (λ (m : ℕ). take m (take i a ++ v ∷ drop i a)) (sym whole) ∙ take-append-add (take i a) (v ∷ drop i a) (suc (n - 1 - i))))

pub returns-then-at : goal.returns-then-at
returns-then-at g c =
    ap (λ (l : List _). set l c.args.at c.args.v) c.copy_within.ensures.after
    ∙ stored c.args.a g.row.N c.args.at c.args.v (search rules) c.if-at.true
