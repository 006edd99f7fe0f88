-- Whether all neighbours are at the edge, one more at a time.
use mathlib.Core.Path.{◌≡◌, refl}
use mathlib.Core.Bool.{Bool, true, false, ◌&&◌}
use mathlib.Core.Logic.{⊎_elim}
use Prim.Native.Nat.{ℕ, zero, suc, ◌+◌, ◌<◌}
use native.Mathlib.Nat.{not-suc-le-zero, eq-or-lt_of_le}
use native.Mathlib.Numerals.{add-one}
use native.Mathlib.Omega.{arith}
use Rattle.model.specs.Influence.{Influence, is_edge}
use Rattle.model.specs.Weight.{all_edge}

module _ (f : ℕ → Influence) where
  pub edges_none : all_edge f 0 ≡ true
  unfolding all_edge
  edges_none = refl

  pub edges_more : (i : ℕ) → all_edge f i ≡ true → is_edge (f i) ≡ true → all_edge f (i + 1) ≡ true
  unfolding all_edge
  edges_more i h e = rw (add-one, h, e)

  and_false : (t : Bool) → t && false ≡ false
  and_false true = refl
  and_false false = refl

  pub not_edges : (n i : ℕ) → i < n → is_edge (f i) ≡ false → all_edge f n ≡ false
  unfolding all_edge
  not_edges zero i l e = absurd (not-suc-le-zero l)
  not_edges (suc n) i l e =
      ⊎_elim
      (λ (x : i ≡ n). rw (← x, e) (and_false (all_edge f i)))
      (λ (x : i < n). rw (not_edges n i x e))
      (eq-or-lt_of_le {n = i} {m = n} (omega arith))
