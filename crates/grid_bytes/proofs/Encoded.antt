-- The bytes of one more cell, once they are stored.
use mathlib.Core.Path.{◌≡◌, refl, ◌∙◌}
use Prim.Native.Nat.{ℕ, ◌+◌, ◌-◌, ◌*◌, ◌<◌}
use native.Mathlib.Omega.{arith}
use mathlib.Core.List.{List}
use lib.IntN.{ℤ, pos, negsuc}
use lib.ListN.{length, take, get_or}
use borrow.Rule.Slice.PartMut.{put_mid, same_len_mid, mid_len}
use Rattle.std.specs.Int.{w16, to_be_bytes, cast_unsigned}
use Rattle.model.specs.GridFile.{cell_bytes, cells_bytes}
use Rattle.laws.proofs.ListLaws.{flat_map_more}
use Rattle.laws.proofs.Stores.{take_over}

pub bytes_of_cell : (z : ℤ) → to_be_bytes w16 (cast_unsigned w16 z) ≡ cell_bytes z
bytes_of_cell (pos n) = refl
bytes_of_cell (negsuc n) = refl

module _ (l : List ℤ) (i : ℕ) (out b : List ℕ) (h : i < length l) (size : length out ≡ 2 * length l) (e : b ≡ cell_bytes (get_or l i (pos 0))) where
  abbrev stored : List ℕ
  stored = put_mid (2 * i) (2 * i + 2 - 2 * i) out b

  pub same_size : length stored ≡ 2 * length l
  same_size = same_len_mid (2 * i) (2 * i + 2 - 2 * i) out b (rw e (omega (arith, mid_len (2 * i) (2 * i + 2) out (omega arith)))) ∙ size

  pub one_more : take (2 * i) out ≡ cells_bytes (take i l) → take (2 * (i + 1)) stored ≡ cells_bytes (take (i + 1) l)
  unfolding cells_bytes
  one_more so_far =
      let k : 2 * (i + 1) ≡ 2 * i + 2 = omega arith in
      rw (k, e, flat_map_more cell_bytes l i (pos 0) h, ← so_far) (take_over (2 * i) (2 * i + 2 - 2 * i) out (cell_bytes (get_or l i (pos 0))) (omega arith))
