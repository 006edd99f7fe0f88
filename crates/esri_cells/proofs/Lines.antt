-- A row's line cell by cell, what is left of it in each turn of `put_row`, and how long it is.
use mathlib.Core.Path.{◌≡◌, refl, ap}
use mathlib.Core.Bool.{cond}
use mathlib.Core.List.{List, [], ◌∷◌, ◌++◌, append_assoc}
use Prim.Native.Nat.{ℕ, suc, ◌+◌, ◌-◌, ◌≤◌, ◌<◌}
use native.Mathlib.Numerals.{add-one}
use native.Mathlib.Omega.{arith}
use lib.Dec.{eqb}
use lib.IntN.{ℤ, pos}
use lib.ListN.{length, drop, get_or, set, length-append, length-drop}
use lib.Seq.{drop-cons}
use borrow.Author.Tests.{ne_eqb}
use borrow.Rule.Slice.PartMut.{mid_of, put_mid, mid_len, same_len_mid}
use Rattle.model.specs.Lists.{laid}
use Rattle.model.specs.Esri.{cell_text, spaced, row_line}
use Rattle.laws.proofs.Stores.{length_laid}
use Rattle.laws.proofs.Writing.{Writing, left_over, write_piece, write_one}
use Rattle.esri_cells.specs.Sizes.{cells_length}

-- what is left of a line with so many cells to come
unfoldable pub left_of : List ℤ → List ℕ
left_of [] = []
left_of (a ∷ l) = cell_text a ++ (cond (eqb (length l) 0) 10 32 ∷ left_of l)

pub none_left : left_of [] ≡ []
unfolding left_of
none_left = refl

pub left_line : (l : List ℤ) → 0 < length l → left_of l ≡ row_line l ++ (10 ∷ [])
unfolding left_of spaced
left_line [] h = absurd (omega arith)
left_line (a ∷ []) h = refl
left_line (a ∷ b ∷ l) h = rw (ne_eqb (length (b ∷ l)) 0 (λ k. absurd (omega arith)), left_line (b ∷ l) (omega arith), append_assoc (cell_text a) (32 ∷ row_line (b ∷ l)) (10 ∷ []))

left_more : (l : List ℤ) (i : ℕ) → i < length l
    → left_of (drop i l) ≡ cell_text (get_or l i (pos 0)) ++ (cond (eqb (length l - (i + 1)) 0) 10 32 ∷ left_of (drop (i + 1) l))
unfolding left_of
left_more l i h = rw (drop-cons l i (pos 0) h, length-drop (suc i) l, add-one i)

-- the bytes of the cells from the i-th on
pub sizes_more : (l : List ℤ) (i : ℕ) → i < length l → cells_length (drop i l) ≡ length (cell_text (get_or l i (pos 0))) + 1 + cells_length (drop (i + 1) l)
sizes_more l i h = rw (drop-cons l i (pos 0) h, add-one i)

length_left : (l : List ℤ) → length (left_of l) ≡ cells_length l
unfolding left_of
length_left [] = refl
length_left (a ∷ l) = omega (arith, length-append (cell_text a) (cond (eqb (length l) 0) 10 32 ∷ left_of l), length_left l)

-- a line takes what its cells take
pub length_line : (l : List ℤ) → 0 < length l → length (row_line l) + 1 ≡ cells_length l
length_line l h = omega (arith, ap length (left_line l h), length-append (row_line l) (10 ∷ []), length_left l)

-- a list keeps its length where a piece that has room is written to the front of its end
pub put_size : (l t : List ℕ) (at : ℕ) → at + length t ≤ length l → length (put_mid at (length l - at) l (laid t (mid_of at (length l - at) l))) ≡ length l
put_size l t at h =
    let m = mid_len at (length l) l (omega arith) in
    same_len_mid at (length l - at) l (laid t (mid_of at (length l - at) l)) (length_laid t (mid_of at (length l - at) l) (omega (arith, m)))

-- a turn of `put_row`: a cell's text, which has room, and what follows it
module _ (v : List ℤ) (d : List ℕ) (i at : ℕ) (out : List ℕ) (w : Writing (left_of v) d (left_of (drop i v)) at out) (h : i < length v) (room : length (left_of v) ≤ length d) where
  abbrev cell : List ℕ
  cell = cell_text (get_or v i (pos 0))

  abbrev next : ℕ
  next = cond (eqb (length v - (i + 1)) 0) 10 32

  pub cell_room : at + length cell + 1 ≤ length d
  cell_room = omega (arith, left_over w, ap length (left_more v i h), length-append cell (next ∷ left_of (drop (i + 1) v)))

  pub cell_put : (k : ℕ) → length d ≤ at + k → Writing (left_of v) d (left_of (drop (i + 1) v)) (at + length cell + 1) (set (put_mid at k out (laid cell (mid_of at k out))) (at + length cell) next)
  cell_put k g =
      let one = write_piece w cell (next ∷ left_of (drop (i + 1) v)) (left_more v i h) (length cell) refl k g in
      write_one one next (left_of (drop (i + 1) v)) refl (omega (arith, cell_room))
