-- The rows' lines: the next one to write, and how many bytes they take; and the whole text.
use mathlib.Core.Path.{◌≡◌, refl, sym, ap, ◌∙◌}
use mathlib.Core.List.{List, [], ◌∷◌, ◌++◌, map, flat_map, append-nil}
use Prim.Native.Nat.{ℕ, zero, suc, ◌+◌, ◌-◌, ◌*◌, ◌≤◌, ◌<◌}
use native.Mathlib.Nat.{mul-zero, mul-suc}
use native.Mathlib.Omega.{arith}
use lib.IntN.{ℤ}
use lib.ListN.{length, take, drop, length-append, length-drop}
use lib.Seq.{take-add, take_all, length-take-le}
use borrow.Rule.Slice.PartMut.{mid_of, put_mid}
use Rattle.model.specs.Lists.{laid}
use Rattle.model.specs.Grid.{Grid}
use Rattle.model.specs.Esri.{row_line, header_lines, rows_down, ended, text_of_cells}
use Rattle.laws.proofs.ListLaws.{flat_map_append}
use Rattle.laws.proofs.Stores.{laid_whole}
use Rattle.laws.proofs.Writing.{Writing, left_over, same_size, first_written, all_written, write_piece, write_over}
use Rattle.laws.proofs.GridLaws.{row_within}
use Rattle.esri_cells.specs.Sizes.{cells_length}
use Rattle.esri_cells.proofs.Lines.{length_line}
use Rattle.esri_text.specs.Parts.{OfCells, rows_text}

-- the lines of the first n rows
abbrev pub left_rows : ℕ → List ℤ → ℕ → List ℕ
left_rows c l n = ended (map row_line (rows_down c l n))

row_first : (c : ℕ) (l : List ℤ) (n : ℕ) → left_rows c l (suc n) ≡ (row_line (take c (drop (c * n) l)) ++ (10 ∷ [])) ++ left_rows c l n
unfolding flat_map rows_down
row_first c l n = refl

pub none_left : (c : ℕ) (l : List ℤ) → left_rows c l 0 ≡ []
unfolding flat_map rows_down
none_left c l = refl

cells_joined : (a b : List ℤ) → cells_length (a ++ b) ≡ cells_length a + cells_length b
cells_joined [] b = omega arith
cells_joined (v ∷ a) b = omega (arith, cells_joined a b)

length_row : (c : ℕ) (l : List ℤ) (n : ℕ) → c * suc n ≤ length l → length (take c (drop (c * n) l)) ≡ c
length_row c l n h = length-take-le c (drop (c * n) l) (omega (arith, mul-suc c n, length-drop (c * n) l))

rows_size : (c : ℕ) (l : List ℤ) (n : ℕ) → 0 < c → c * n ≤ length l → length (left_rows c l n) ≡ cells_length (take (c * n) l)
rows_size c l zero p h = rw (none_left c l, mul-zero)
rows_size c l (suc n) p h =
    let m = mul-suc c n in
    let r = take c (drop (c * n) l) in
    let e : c * suc n ≡ c * n + c = omega (arith, m) in
    let size = length_line r (omega (arith, length_row c l n h)) in
    rw (row_first c l n, e, take-add (c * n) c l, cells_joined (take (c * n) l) r)
    (omega (arith, length-append (row_line r ++ (10 ∷ [])) (left_rows c l n), length-append (row_line r) (10 ∷ []), size, rows_size c l n p (omega (arith, m))))

rows_length : (g : Grid) (l : List ℤ) → OfCells g l → length (rows_text g l) ≡ cells_length l
rows_length g l h =
    let all : take (g.columns * g.rows) l ≡ l = take_all (g.columns * g.rows) l (omega (arith, h.1)) in
    rw all at (rows_size g.columns l g.rows h.0 (omega (arith, h.1)))

-- the header, and then the rows
text_parts : (g : Grid) (l : List ℤ) → text_of_cells g l ≡ ended (header_lines g) ++ rows_text g l
unfolding text_of_cells
text_parts g l = flat_map_append (λ t. t ++ (10 ∷ [])) (header_lines g) (map row_line (rows_down g.columns l g.rows))

pub parts_size : (g : Grid) (l : List ℤ) → length (text_of_cells g l) ≡ length (ended (header_lines g)) + length (rows_text g l)
parts_size g l = omega (arith, ap length (text_parts g l), length-append (ended (header_lines g)) (rows_text g l))

pub text_size : (g : Grid) (l : List ℤ) → OfCells g l → length (text_of_cells g l) ≡ length (ended (header_lines g)) + cells_length l
text_size g l h = omega (arith, parts_size g l, rows_length g l h)

-- the rows behind the header, over all that is left of the lent list
pub text_put : (g : Grid) (l : List ℤ) (d out : List ℕ) (at k : ℕ) → at ≡ length (ended (header_lines g)) → out ≡ laid (ended (header_lines g)) d → length (rows_text g l) ≡ k
    → length (text_of_cells g l) ≡ length d → put_mid at k out (rows_text g l) ≡ text_of_cells g l
text_put g l d out at k e f h room =
    let rows = rows_text g l in
    let header = ended (header_lines g) in
    let one = first_written {was = d} header rows refl at (sym e) in
    let two = write_over one rows [] (sym (append-nil rows)) k h in
    rw f ((all_written two refl).0 ∙ laid_whole (header ++ rows) d (omega (arith, length-append header rows, parts_size g l)) ∙ sym (text_parts g l))

-- with r rows left, whose lines are what is left to write
pub record Left (g : Grid) (l : List ℤ) (d : List ℕ) (r at : ℕ) (out : List ℕ) : Type 0 where
  pub all : OfCells g l
  pub room : length (rows_text g l) ≡ length d
  pub few : r ≤ g.rows
  pub size : length out ≡ length d
  pub written : Writing (rows_text g l) d (left_rows g.columns l r) at out

-- the last of them
abbrev pub row_next : Grid → List ℤ → ℕ → List ℤ
row_next g l r = take g.columns (drop (g.columns * (r - 1)) l)

-- none is left: the list holds them all
pub rows_done : {g : Grid} {l : List ℤ} {d : List ℕ} {r at : ℕ} {out : List ℕ} → Left g l d r at out → r ≡ 0 → out ≡ rows_text g l
rows_done {g = g} {l = l} {d = d} t none =
    let done = all_written t.written (ap (left_rows g.columns l) none ∙ none_left g.columns l) in
    done.0 ∙ laid_whole (rows_text g l) d (omega (arith, t.room))

-- one is left: it is there and has cells, its line has room, and the others are left after it
module _ {g : Grid} {l : List ℤ} {d : List ℕ} {r at : ℕ} {out : List ℕ} (t : Left g l d r at out) (some : 0 < r) where
  pub row_there : (g.columns * (r - 1) + g.columns ≤ length l) × (length l ≤ 4096)
  row_there = let k = t.few in (omega (arith, row_within g (r - 1) (omega arith), t.all.1), t.all.2)

  pub row_some : 0 < length (row_next g l r)
  row_some =
      let first = g.columns * (r - 1) in
      omega (arith, length-take-le g.columns (drop first l) (omega (arith, row_there.0, length-drop first l)), t.all.0)

  abbrev line_next : List ℕ
  line_next = row_line (row_next g l r) ++ (10 ∷ [])

  next : left_rows g.columns l r ≡ line_next ++ left_rows g.columns l (r - 1)
  next = let e : r ≡ suc (r - 1) = omega arith in ap (left_rows g.columns l) e ∙ row_first g.columns l (r - 1)

  line_size : length line_next ≡ length (row_line (row_next g l r)) + 1
  line_size = length-append (row_line (row_next g l r)) (10 ∷ [])

  pub row_room : at + (length (row_line (row_next g l r)) + 1) ≤ length out
  row_room = omega (arith, left_over t.written, ap length next, length-append line_next (left_rows g.columns l (r - 1)), line_size, t.room, t.size)

  -- what the list holds then
  pub row_put : (k n : ℕ) (is : List ℕ) → length out ≤ at + k → n ≡ length (row_line (row_next g l r)) + 1 → is ≡ laid line_next (mid_of at k out)
      → Left g l d (r - 1) (at + n) (put_mid at k out is)
  row_put k n is h e f =
      let few = t.few in
      let w = write_piece t.written line_next (left_rows g.columns l (r - 1)) next n (line_size ∙ sym e) k (omega (arith, t.size)) in
      record {
        all = t.all;
        room = t.room;
        few = omega arith;
        size = rw f (same_size w (omega (arith, row_room, t.size)));
        written = rw f w;
      }
