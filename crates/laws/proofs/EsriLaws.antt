-- The Esri ASCII grid read back: each cell's text is its own number as a decimal, and the lines are the grid's rows, the last one first.
use mathlib.Core.Path.{◌≡◌, refl, ap, ◌∙◌}
use mathlib.Core.Logic.{⊎_elim}
use mathlib.Core.Bool.{Bool, true, ◌&&◌, and-eq-true_iff}
use mathlib.Core.Option.{Option, none, some}
use Prim.Native.Nat.{ℕ, zero, suc, ◌+◌, ◌-◌, ◌*◌, ◌/◌, ◌%◌, ◌≤◌, ◌<◌, ◌^◌}
use native.Mathlib.Nat.{eq-or-lt_of_le, mul-one, mul-suc, mul-le-mul_left}
use native.Mathlib.Omega.{arith}
use mathlib.Core.List.{List, [], ◌∷◌, ◌++◌, map, flat_map, append_assoc, map-map}
use lib.Dec.{ltb, lit<}
use lib.IntN.{ℤ, pos, negsuc}
use lib.ListN.{length, take, drop, get_or, get_or-map, length-append, length-take, length-drop}
use lib.Seq.{take-append_seam, take-append-le, length-take-le, get_or-take, get_or-drop}
use borrow.Author.Tests.{ltb-true, ne_eqb}
use Rattle.model.specs.Lists.{All}
use Rattle.model.specs.Point.{State}
use Rattle.model.specs.Fraction.{Fraction, Signed, Is, times_z}
use Rattle.model.specs.Grid.{Grid, cells}
use Rattle.model.specs.Decimal.{digits_of, places, decimal, signed_decimal, cut, unsigned_in, decimal_read}
use Rattle.model.specs.Esri.{size_text, cell_text, spaced, row_line, ncols, nrows, xllcenter, yllcenter, cellsize, nodata, header_line, header_lines, ended, rows_down, text_of_cells, esri_text, exact_cell, exact_row, lines_in, cells_read}
use Rattle.laws.proofs.ListLaws.{all_imp, all_take, all_append, all_map, all_any, map_same}
use Rattle.laws.proofs.MapLaws.{get_d_map}
use Rattle.laws.proofs.GridLaws.{length_cells}
use Rattle.laws.proofs.IntLaws.{times_times, times_one}
use Rattle.laws.proofs.DecimalLaws.{Digit, all_digits, length_digits, places_some, digits_back, decimal_back, cut_none, cut_at}

-- codes above that of the comma, as those of signs, points and digits are
abbrev Plain : ℕ → Type 0
Plain c = 44 < c

digits_plain : (k n : ℕ) → All Plain (digits_of k n)
digits_plain k n = all_imp Digit Plain (λ c h. omega arith) (digits_of k n) (all_digits k n)

size_plain : (n : ℕ) → All Plain (size_text n)
size_plain n = all_append Plain (decimal (n / 256)) (46 ∷ digits_of 8 (n % 256 * 390625)) (digits_plain (places (n / 256)) (n / 256)) (omega arith, digits_plain 8 (n % 256 * 390625))

cell_plain : (a : ℤ) → All Plain (cell_text a)
cell_plain (pos n) = size_plain n
cell_plain (negsuc n) = (omega arith, size_plain (suc n))

-- a cell's exact fraction is its number of 256ths
pub exact_256ths : (a : ℤ) → Is (exact_cell a) a 256
exact_256ths a = (times_times a 390625 256, lit< tt)

not_point : (k n : ℕ) → All (λ c. c ≡ 46 → ⊥) (digits_of k n)
not_point k n = all_imp Digit (λ c. c ≡ 46 → ⊥) (λ c h e. absurd (omega arith)) (digits_of k n) (all_digits k n)

size_back : (n : ℕ) → unsigned_in (cut 46 (size_text n)) ≡ some (record { top = n * 390625; bot = 100000000 })
size_back n =
    let w = n / 256 in
    let d = n % 256 * 390625 in
    let e : w * 10 ^ 8 + d ≡ n * 390625 = omega arith in
    rw (
      cut_at 46 (decimal w) (digits_of 8 d) (not_point (places w) w),
      cut_none 46 (digits_of 8 d) (not_point 8 d),
      decimal_back w,
      digits_back 8 d (omega arith) (omega arith),
      length_digits 8 d,
      e,
    )

-- a decimal that begins with a digit has no sign
unsigned : (l : List ℕ) (f : Fraction) → 0 < length l → All Digit (take 1 l) → unsigned_in (cut 46 l) ≡ some f → decimal_read l ≡ some (times_z f (pos 1))
unfolding decimal_read
unsigned [] f p h e = absurd (omega arith)
unsigned (c ∷ l) f p h e = rw (ne_eqb c 45 (λ k. absurd (omega arith)), e)

-- each cell's text, read as a decimal, is the cell's own number
pub cell_back : (a : ℤ) → decimal_read (cell_text a) ≡ some (exact_cell a)
unfolding decimal_read times_z
cell_back (pos n) =
    let w = n / 256 in
    let size : length (decimal w) ≡ places w = length_digits (places w) w in
    let long = length-append (decimal w) (46 ∷ digits_of 8 (n % 256 * 390625)) in
    let first : All Digit (take 1 (size_text n)) =
    rw (take-append-le 1 (decimal w) (46 ∷ digits_of 8 (n % 256 * 390625)) (omega (arith, size, places_some w))) (all_take Digit 1 (decimal w) (all_digits (places w) w)) in
    unsigned (size_text n) (record { top = n * 390625; bot = 100000000 }) (omega (arith, long)) first (size_back n) ∙ rw (times_one (pos (n * 390625)))
cell_back (negsuc n) = rw (size_back (suc n), mul-one)

-- a row's texts cut at spaces
pub row_cut : (a : ℤ) (l : List ℤ) → cut 32 (row_line (a ∷ l)) ≡ map cell_text (a ∷ l)
unfolding spaced
row_cut a [] = cut_none 32 (cell_text a) (all_imp Plain (λ c. c ≡ 32 → ⊥) (λ c h e. absurd (omega arith)) (cell_text a) (cell_plain a))
row_cut a (b ∷ l) =
    rw (cut_at 32 (cell_text a) (row_line (b ∷ l)) (all_imp Plain (λ c. c ≡ 32 → ⊥) (λ c h e. absurd (omega arith)) (cell_text a) (cell_plain a)), row_cut b l)

-- codes above that of the line feed, as those of a line are
abbrev Inline : ℕ → Type 0
Inline c = 10 < c

cell_inline : (a : ℤ) → All Inline (cell_text a)
cell_inline a = all_imp Plain Inline (λ c h. omega arith) (cell_text a) (cell_plain a)

row_inline : (l : List ℤ) → All Inline (row_line l)
unfolding spaced
row_inline [] = tt
row_inline (a ∷ []) = cell_inline a
row_inline (a ∷ b ∷ l) = all_append Inline (cell_text a) (32 ∷ row_line (b ∷ l)) (cell_inline a) (omega arith, row_inline (b ∷ l))

-- lines, cut at line feeds
cut_ended : (l : List (List ℕ)) → All (All Inline) l → cut 10 (ended l) ≡ l ++ ([] ∷ [])
unfolding flat_map cut
cut_ended [] h = refl
cut_ended (t ∷ l) h =
    rw (append_assoc t (10 ∷ []) (ended l), cut_at 10 t (ended l) (all_imp Inline (λ c. c ≡ 10 → ⊥) (λ c g e. absurd (omega arith)) t h.0), cut_ended l h.1)

lines_back : (l : List (List ℕ)) → All (All Inline) l → lines_in (ended l) ≡ l
unfolding lines_in
lines_back l h =
    let e : length (l ++ ([] ∷ [])) - 1 ≡ length l = omega (arith, length-append l ([] ∷ [])) in
    rw (cut_ended l h, e) (take-append_seam l ([] ∷ []))

word_inline : (z : ℤ) → All Inline (signed_decimal z)
word_inline (pos n) = all_imp Plain Inline (λ c h. omega arith) (decimal n) (digits_plain (places n) n)
word_inline (negsuc n) = (omega arith, all_imp Plain Inline (λ c h. omega arith) (decimal (suc n)) (digits_plain (places (suc n)) (suc n)))

-- a keyword, code by code
abbrev inline_test : List ℕ → Bool
inline_test [] = true
inline_test (c ∷ l) = ltb 10 c && inline_test l

tested : (l : List ℕ) → inline_test l ≡ true → All Inline l
tested [] h = tt
tested (c ∷ l) h = let a = (and-eq-true_iff (ltb 10 c) (inline_test l)).0 h in (ltb-true 10 c a.0, tested l a.1)

line_inline : (keyword : List ℕ) (z : ℤ) → inline_test keyword ≡ true → All Inline (header_line keyword z)
unfolding spaced
line_inline keyword z h = all_append Inline keyword (32 ∷ signed_decimal z) (tested keyword h) (omega arith, word_inline z)

header_inline : (g : Grid) → All (All Inline) (header_lines g)
header_inline g = (
  line_inline ncols (pos g.columns) refl,
  (
    line_inline nrows (pos g.rows) refl,
    (
      line_inline xllcenter (pos g.x0) refl,
      (line_inline yllcenter (pos g.y0) refl, (line_inline cellsize (pos g.step_x) refl, (line_inline nodata (negsuc 9998) refl, tt))),
    ),
  ),
)

-- the lines of a grid's text: the header's six, and one for each row
pub text_lines : (g : Grid) (l : List ℤ) → lines_in (text_of_cells g l) ≡ header_lines g ++ map row_line (rows_down g.columns l g.rows)
unfolding text_of_cells
text_lines g l =
    let rows = rows_down g.columns l g.rows in
    lines_back (header_lines g ++ map row_line rows)
    (all_append (All Inline) (header_lines g) (map row_line rows) (header_inline g) (all_map (All Inline) row_line rows (all_any (λ r. All Inline (row_line r)) row_inline rows)))

row_back : (r : List ℤ) → 0 < length r → map decimal_read (cut 32 (row_line r)) ≡ exact_row r
row_back [] h = absurd (omega arith)
row_back (a ∷ r) h =
    rw (row_cut a r, map-map decimal_read cell_text (a ∷ r))
    (map_same (λ b. decimal_read (cell_text b)) (λ b. some (exact_cell b)) (a ∷ r) (all_any (λ b. decimal_read (cell_text b) ≡ some (exact_cell b)) cell_back (a ∷ r)))

rows_back : (l : List (List ℤ)) → All (λ r. 0 < length r) l → map (λ t. map decimal_read (cut 32 t)) (map row_line l) ≡ map exact_row l
rows_back [] h = refl
rows_back (r ∷ l) h = rw (row_back r h.0, rows_back l h.1)

rows_some : (c : ℕ) (l : List ℤ) (n : ℕ) → 0 < c → c * n ≤ length l → All (λ r. 0 < length r) (rows_down c l n)
unfolding rows_down
rows_some c l zero p h = tt
rows_some c l (suc n) p h =
    let m = mul-suc c n in
    (omega (arith, length-take-le c (drop (c * n) l) (omega (arith, m, length-drop (c * n) l))), rows_some c l n p (omega (arith, m)))

-- the text, read back, is the grid's rows, the last one first
pub cells_back : (s : State) (g : Grid) → 0 < g.columns → cells_read (esri_text s g) ≡ map exact_row (rows_down g.columns (cells s g) g.rows)
unfolding cells_read esri_text
cells_back s g p =
    let l = rows_down g.columns (cells s g) g.rows in
    rw (text_lines g (cells s g)) (rows_back l (rows_some g.columns (cells s g) g.rows p (omega (arith, length_cells s g))))

-- where the row r of n stands, the last one first
down_at : (c : ℕ) (l : List ℤ) (n r : ℕ) → r < n → get_or (rows_down c l n) (n - 1 - r) [] ≡ take c (drop (c * r) l)
unfolding rows_down
down_at c l zero r h = absurd (omega arith)
down_at c l (suc n) r h =
    ⊎_elim
    (λ (e : r ≡ n). let z : suc n - 1 - r ≡ 0 = omega arith in rw (z, e))
    (λ (e : r < n). let z : suc n - 1 - r ≡ suc (n - 1 - r) = omega arith in rw z (down_at c l n r e))
    (eq-or-lt_of_le {n = r} {m = n} (omega arith))

-- the cell of column i and row r among those read back
pub cell_read : (c : ℕ) (l : List ℤ) (n i r : ℕ) (d : ℤ) → i < c → r < n → length l ≡ c * n
    → get_or (get_or (map exact_row (rows_down c l n)) (n - 1 - r) []) i none ≡ some (exact_cell (get_or l (c * r + i) d))
cell_read c l n i r d h k e =
    let room : c * (r + 1) ≤ c * n = mul-le-mul_left c (omega arith) in
    let long : i < length (take c (drop (c * r) l)) = omega (arith, room, length-take c (drop (c * r) l), length-drop (c * r) l) in
    ap (λ (m : List (Option Signed)). get_or m i none) (get_or-map exact_row (rows_down c l n) (n - 1 - r) [] ∙ ap exact_row (down_at c l n r k))
    ∙ get_d_map (λ a. some (exact_cell a)) (take c (drop (c * r) l)) i none d long
    ∙ ap (λ (a : ℤ). some (exact_cell a)) (get_or-take c (drop (c * r) l) i d h ∙ get_or-drop (c * r) l i d)
