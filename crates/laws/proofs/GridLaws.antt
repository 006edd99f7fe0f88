-- A grid that keeps the rules lies in the domain; what an accepted one has passed; and how many cells and bytes it has.
use mathlib.Core.Path.{◌≡◌, refl, sym, ap, ◌∙◌, subst}
use Prim.Native.Nat.{ℕ, zero, suc, ◌+◌, ◌-◌, ◌*◌, ◌≤◌, ◌<◌}
use native.Mathlib.Nat.{eq-or-lt_of_le, mul-le-mul, mul-le-mul_left, mul-le-mul_right}
use mathlib.Core.Logic.{⊎_elim}
use native.Mathlib.Omega.{arith}
use mathlib.Core.Bool.{Bool, true, false, cond, ◌&&◌, and-eq-true_iff}
use mathlib.Core.List.{List, ◌++◌}
use lib.Dec.{ltb, leb, eqb}
use lib.IntN.{ℤ}
use lib.ListN.{length, get_or, length-append, get_or-append}
use lib.Seq.{get_or-append-add}
use borrow.Author.Tests.{ltb-false, leb-true, eqb-false, lt-ltb, le-ltb, ne_eqb}
use Rattle.model.specs.Point.{State}
use Rattle.model.specs.Answer.{answer}
use Rattle.model.specs.Refusals.{lookup_refusal, non_empty, enough}
use Rattle.model.specs.Grid.{Grid, axis, proper, cell_count, grid_check, cell_location, row, rows_of, cells}
use Rattle.model.specs.GridFile.{cell_bytes, cells_bytes, grid_trailer, file_of_cells, grid_file, grid_file_length, grid_file_refusal}
use Rattle.laws.proofs.ListLaws.{get_d_tabulate, length_tabulate, length_flat_map}
use Rattle.laws.proofs.Tests.{cond_zero, cond_sound}

-- what a grid keeps to along an axis that keeps the rules
pub record Axis (start step count : ℕ) : Type 0 where
  pub some : 1 ≤ count
  pub few : count ≤ 64
  pub last : start + (count - 1) * step ≤ 4095

axis_keeps : (start step count : ℕ) → axis start step count ≡ true → Axis start step count
axis_keeps start step count h =
    let a = (and-eq-true_iff (leb 1 step && leb 1 count && leb count 64) (leb (start + (count - 1) * step) 4095)).0 h in
    let b = (and-eq-true_iff (leb 1 step && leb 1 count) (leb count 64)).0 a.0 in
    let c = (and-eq-true_iff (leb 1 step) (leb 1 count)).0 b.0 in
    record { some = leb-true 1 count c.1; few = leb-true count 64 b.1; last = leb-true (start + (count - 1) * step) 4095 a.1 }

axis_inside : (start step count i : ℕ) → Axis start step count → i < count → start + i * step < 4096
axis_inside start step count i a h =
    let m : i * step ≤ (count - 1) * step = mul-le-mul_right step (omega arith) in
    omega (arith, m, a.last)

pub proper_axes : (g : Grid) → proper g ≡ true → Axis g.x0 g.step_x g.columns × Axis g.y0 g.step_y g.rows
proper_axes g h =
    let a = (and-eq-true_iff (axis g.x0 g.step_x g.columns) (axis g.y0 g.step_y g.rows)).0 h in
    (axis_keeps g.x0 g.step_x g.columns a.0, axis_keeps g.y0 g.step_y g.rows a.1)

grid_accepted : (g : Grid) (s : State) (n : ℕ) → grid_check g s n ≡ 0 → (proper g ≡ true) × (0 < length s.contents.points) × (n ≡ 0)
grid_accepted g s n h =
    let rules = cond_sound (proper g) 6 (non_empty s n) h in
    let some = cond_zero (eqb (length s.contents.points) 0) 5 n rules.1 in
    (rules.0, omega (arith, eqb-false (length s.contents.points) 0 some.0), some.1)

-- a lookup where a cell is, is accepted
pub cell_accepted : (s : State) (g : Grid) (c r : ℕ) → proper g ≡ true → 0 < length s.contents.points → c < g.columns → r < g.rows
    → lookup_refusal (cell_location g c r).x (cell_location g c r).y s ≡ 0
unfolding lookup_refusal
cell_accepted s g c r h some hc hr =
    let a = proper_axes g h in
    let x = axis_inside g.x0 g.step_x g.columns c a.0 hc in
    let y = axis_inside g.y0 g.step_y g.rows r a.1 hr in
    rw (lt-ltb (g.x0 + c * g.step_x) 4096 x, lt-ltb (g.y0 + r * g.step_y) 4096 y, ne_eqb (length s.contents.points) 0 (omega arith))

module _ (s : State) (g : Grid) where
  pub length_row : (r : ℕ) → length (row s g r) ≡ g.columns
  unfolding row
  length_row r = length_tabulate (λ c. answer s (cell_location g c r)) g.columns

  pub length_rows : (n : ℕ) → length (rows_of s g n) ≡ g.columns * n
  unfolding rows_of
  length_rows zero = omega arith
  length_rows (suc n) = omega (arith, length-append (rows_of s g n) (row s g n), length_rows n, length_row n)

  pub length_cells : length (cells s g) ≡ cell_count g
  unfolding cells
  length_cells = length_rows g.rows

  -- the cell of a column and a row, where it stands among those of the first n rows
  cell_last : (c n : ℕ) (d : ℤ) → c < g.columns → get_or (rows_of s g n ++ row s g n) (g.columns * n + c) d ≡ answer s (cell_location g c n)
  unfolding row
  cell_last c n d h =
      let at : g.columns * n + c ≡ length (rows_of s g n) + c = omega (arith, length_rows n) in
      ap (λ (i : ℕ). get_or (rows_of s g n ++ row s g n) i d) at
      ∙ get_or-append-add (rows_of s g n) (row s g n) c d
      ∙ get_d_tabulate (λ i. answer s (cell_location g i n)) g.columns c d h

  cell_among : (c r n : ℕ) (d : ℤ) → c < g.columns → r < n → get_or (rows_of s g n) (g.columns * r + c) d ≡ answer s (cell_location g c r)
  unfolding rows_of
  cell_among c r zero d h k = absurd (omega arith)
  cell_among c r (suc n) d h k =
      ⊎_elim
      (λ (e : r ≡ n). subst (λ (m : ℕ). get_or (rows_of s g n ++ row s g n) (g.columns * m + c) d ≡ answer s (cell_location g c m)) (sym e) (cell_last c n d h))
      (λ (e : r < n).
      let room : g.columns * (r + 1) ≤ g.columns * n = mul-le-mul_left g.columns (omega arith) in
      get_or-append (rows_of s g n) (row s g n) d (g.columns * r + c) (omega (arith, room, length_rows n)) ∙ cell_among c r n d h e)
      (eq-or-lt_of_le {n = r} {m = n} (omega arith))

  pub cell_at : (c r : ℕ) (d : ℤ) → c < g.columns → r < g.rows → get_or (cells s g) (g.columns * r + c) d ≡ answer s (cell_location g c r)
  unfolding cells
  cell_at c r d h k = cell_among c r g.rows d h k

pub length_cells_bytes : (l : List ℤ) → length (cells_bytes l) ≡ 2 * length l
unfolding cells_bytes
length_cells_bytes l = length_flat_map cell_bytes 2 (λ _. refl) l

length_file_of_cells : (g : Grid) (l : List ℤ) → length (file_of_cells g l) ≡ 2 * length l + 20
unfolding file_of_cells
length_file_of_cells g l = omega (arith, length-append (cells_bytes l) (grid_trailer g (length (cells_bytes l))), length_cells_bytes l)

pub length_grid_file : (s : State) (g : Grid) → length (grid_file s g) ≡ grid_file_length g
unfolding grid_file
length_grid_file s g = omega (arith, length_file_of_cells g (cells s g), length_cells s g)

-- at most 4,096 cells, and the end of a row that there is lies within them
pub few_cells : (g : Grid) → proper g ≡ true → cell_count g ≤ 4096
few_cells g h = let a = proper_axes g h in mul-le-mul a.0.few a.1.few

pub row_within : (g : Grid) (r : ℕ) → r < g.rows → g.columns * r + g.columns ≤ cell_count g
row_within g r h =
    let m : g.columns * (r + 1) ≤ g.columns * g.rows = mul-le-mul_left g.columns (omega arith) in
    omega (arith, m)

pub grid_fits : (g : Grid) (s : State) (lent needed : ℕ) → grid_check g s (enough lent needed) ≡ 0 → (proper g ≡ true) × (0 < length s.contents.points) × (needed ≤ lent)
grid_fits g s lent needed h =
    let a = grid_accepted g s (enough lent needed) h in
    (a.0, a.1, ltb-false lent needed (cond_zero (ltb lent needed) 7 0 a.2).0)

-- 8,212 bytes are enough for any grid
pub room_enough : (g : Grid) (s : State) (n : ℕ) → 8212 ≤ n → grid_file_refusal g s n ≡ grid_check g s 0
unfolding grid_file_refusal
room_enough g s n h = by_rules (proper g) refl
  where
    by_rules : (t : Bool) → proper g ≡ t → cond t (non_empty s (enough n (grid_file_length g))) 7 ≡ cond t (non_empty s 0) 7
    by_rules true e = rw (le-ltb n (grid_file_length g) (omega (arith, few_cells g e)))
    by_rules false e = refl
