-- Grid files read: the lengths that they have, that what was written is accepted and read back, and that an accepted file is the very bytes that writing what was read gives.
use mathlib.Core.Path.{◌≡◌, refl, sym, ap, ap₂, ◌∙◌}
use Prim.Native.Nat.{ℕ, zero, suc, ◌+◌, ◌-◌, ◌*◌, ◌/◌, ◌%◌, ◌≤◌, ◌<◌}
use native.Mathlib.Numerals.{add-one}
use native.Mathlib.Omega.{arith}
use native.Mathlib.Nat.{eq-or-lt_of_le}
use mathlib.Core.Logic.{⊎_elim}
use mathlib.Core.Bool.{Bool, true, false, cond, not, ◌||◌, ◌&&◌, false≢true}
use mathlib.Core.List.{List, [], ◌∷◌, ◌++◌, flat_map}
use lib.Dec.{eqb}
use lib.IntN.{ℤ}
use lib.Signed.{mag}
use lib.ListN.{length, take, drop, get_or, length-append, length-drop, take-append-drop}
use lib.Seq.{take_at, drop_at, drop-drop, drop-cons, length-take-le}
use borrow.Author.Tests.{eqb-true, eq-eqb, le-leb, not-false}
use Rattle.model.specs.Lists.{All, Bytes}
use Rattle.model.specs.Bytes.{word, word_at, long_at, bytes2, bytes4, same, complement}
use Rattle.model.specs.Refusals.{enough}
use Rattle.model.specs.Grid.{Grid, axis, proper, cell_count}
use Rattle.model.specs.GridFile.{grid_magic, six_numbers, grid_in, cells_bytes, grid_trailer, file_of_cells, grid_file_length}
use Rattle.model.specs.GridReading.{grid_trailer_start, grid_of_file, cells_back, grid_magic_in, cells_of, cells_of_file, some_below, columns_length, some_length, grid_file_check, cells_read_refusal, States, TwoBytes}
use Rattle.laws.proofs.Tests.{or_true, or_false, cond_zero}
use Rattle.laws.proofs.ListLaws.{all_take, all_drop, byte_at}
use Rattle.laws.proofs.Numbers.{word_back, long_back, bytes2_word, bytes4_long, complement_below, signed_back, complement_back}
use Rattle.laws.proofs.TrailerLaws.{same_self, same_true}
use Rattle.laws.proofs.RoundTrip.{long_drop}
use Rattle.laws.proofs.GridLaws.{proper_axes, length_cells_bytes, few_cells}

-- a number below n of which f holds
record Found (f : ℕ → Bool) (n : ℕ) : Type 0 where
  number : ℕ
  below : number < n
  holds : f number ≡ true

pub some_below_lem : (f : ℕ → Bool) (n i : ℕ) → i < n → f i ≡ true → some_below f n ≡ true
unfolding some_below
some_below_lem f zero i h e = absurd (omega arith)
some_below_lem f (suc n) i h e =
    ⊎_elim
    (λ (k : i ≡ n). or_true (some_below f n) (f n) (rw (← k) e))
    (λ (k : i < n). rw (some_below_lem f n i k e))
    (eq-or-lt_of_le {n = i} {m = n} (omega arith))

pub none_below : (f : ℕ → Bool) (n : ℕ) → some_below f n ≡ false → f n ≡ false → some_below f (n + 1) ≡ false
unfolding some_below
none_below f n h e = rw (add-one n, h, e)

below_some : (f : ℕ → Bool) (n : ℕ) → some_below f n ≡ true → Found f n
unfolding some_below
below_some f zero h = absurd (false≢true h)
below_some f (suc n) h = by_test (some_below f n) (λ e. below_some f n e) h
  where
    by_test : (t : Bool) → (t ≡ true → Found f n) → t || f n ≡ true → Found f (suc n)
    by_test true earlier k = let r = earlier refl in record { number = r.number; below = omega (arith, r.below); holds = r.holds }
    by_test false earlier k = record { number = n; below = omega arith; holds = k }

-- a grid that keeps the rules, and whose file has n bytes
pub record OfLength (n : ℕ) : Type 0 where
  pub grid : Grid
  pub rules : proper grid ≡ true
  pub size : grid_file_length grid ≡ n

-- the grid files' lengths are those, and no others
pub length_some : (g : Grid) → proper g ≡ true → some_length (grid_file_length g) ≡ true
unfolding some_length columns_length
length_some g h =
    let a = proper_axes g h in
    let n = grid_file_length g in
    let c : suc (g.columns - 1) ≡ g.columns = omega (arith, a.0.some) in
    let r : suc (g.rows - 1) ≡ g.rows = omega (arith, a.1.some) in
    some_below_lem (λ k. columns_length n (suc k)) 64 (g.columns - 1) (omega (arith, a.0.some, a.0.few))
    (some_below_lem (λ k. eqb (2 * (suc (g.columns - 1) * suc k) + 20) n) 64 (g.rows - 1) (omega (arith, a.1.some, a.1.few))
    (eq-eqb _ n (rw (c, r) refl)))

pub some_grid : (n : ℕ) → some_length n ≡ true → OfLength n
unfolding some_length columns_length
some_grid n h =
    let c = below_some (λ k. columns_length n (suc k)) 64 h in
    let r = below_some (λ k. eqb (2 * (suc c.number * suc k) + 20) n) 64 c.holds in
    let g : Grid = record { x0 = 0; y0 = 0; step_x = 1; step_y = 1; columns = suc c.number; rows = suc r.number } in
    record { grid = g; rules = unit_steps c.number r.number c.below r.below; size = eqb-true _ n r.holds }
  where
    unit_axis : (k : ℕ) → k < 64 → axis 0 1 (suc k) ≡ true
    unit_axis k l = rw (le-leb 1 (suc k) (omega arith), le-leb (suc k) 64 (omega arith), le-leb (0 + (suc k - 1) * 1) 4095 (omega arith))

    unit_steps : (k m : ℕ) → k < 64 → m < 64 → axis 0 1 (suc k) && axis 0 1 (suc m) ≡ true
    unit_steps k m l i = rw (unit_axis k l, unit_axis m i)

-- such a length is a trailer's and a whole number of cells, at most 4,096
pub length_ends : (n : ℕ) → some_length n ≡ true → (20 ≤ n) × (n ≤ 8212)
length_ends n h = let g = some_grid n h in (omega (arith, g.size), omega (arith, g.size, few_cells g.grid g.rules))

-- cells of 16 bits, and their bytes
abbrev pub Fits : ℤ → Type 0
Fits z = mag z < 32768

encoded_decoded : (l : List ℤ) → All Fits l → cells_of (cells_bytes l) ≡ l
unfolding cells_of cells_bytes flat_map
encoded_decoded [] h = refl
encoded_decoded (z ∷ l) h =
    let w = complement 32768 z in
    let e : word (w / 256 % 256) (w % 256) ≡ w = omega (arith, word_back w, complement_below 32768 z h.0) in
    rw (e, signed_back 32768 z h.0) (ap {B = List ℤ} (λ m. z ∷ m) (encoded_decoded l h.1))

decoded_encoded : (r : List ℕ) → Bytes r → length r % 2 ≡ 0 → cells_bytes (cells_of r) ≡ r
unfolding cells_of cells_bytes flat_map
decoded_encoded [] h n = refl
decoded_encoded (a ∷ []) h n = absurd (omega arith)
decoded_encoded (a ∷ b ∷ r) h n =
    let e : bytes2 (word a b) ≡ a ∷ b ∷ [] = bytes2_word (word a b) a b h.0 h.1.0 (omega arith) in
    rw (complement_back 32768 (word a b) (omega (arith, h.0, h.1.0)), decoded_encoded r h.1.1 (omega arith)) (ap (λ u. u ++ r) e)

length_cells_of : (r : List ℕ) → length (cells_of r) ≡ length r / 2
unfolding cells_of
length_cells_of [] = refl
length_cells_of (a ∷ []) = refl
length_cells_of (a ∷ b ∷ r) = omega (arith, length_cells_of r)

six_back : (g : Grid) (r : List ℕ) → TwoBytes g → grid_in (six_numbers g ++ r) ≡ g
six_back g r h =
    let back : (n : ℕ) → n < 65536 → word (n / 256 % 256) (n % 256) ≡ n = λ n k. omega (arith, word_back n) in
    rw (back g.x0 h.x0, back g.y0 h.y0, back g.step_x h.step_x, back g.step_y h.step_y, back g.columns h.columns, back g.rows h.rows)

-- the plain facts of an accepted grid file
pub record Readable (f : List ℕ) : Type 0 where
  pub some : some_length (length f) ≡ true
  pub marked : grid_magic_in f ≡ grid_magic
  pub rules : proper (grid_of_file f) ≡ true
  pub back : cells_back f ≡ 2 * cell_count (grid_of_file f)
  pub size : length f ≡ grid_file_length (grid_of_file f)

pub readable_facts : (f : List ℕ) (n : ℕ) → grid_file_check f n ≡ 0 → Readable f × (n ≡ 0)
unfolding grid_file_check
readable_facts f n h =
    let t9 = cond_zero _ 8 _ h in
    let t10 = cond_zero _ 9 _ t9.1 in
    let t7 = cond_zero _ 6 _ t10.1 in
    let t12 = cond_zero _ 11 _ t7.1 in
    let reach = or_false _ _ t12.0 in (
      record {
        some = not-false _ t9.0;
        marked = same_true (grid_magic_in f) grid_magic (not-false _ t10.0);
        rules = not-false _ t7.0;
        back = eqb-true (cells_back f) (2 * cell_count (grid_of_file f)) (not-false _ reach.0);
        size = eqb-true (length f) (grid_file_length (grid_of_file f)) (not-false _ reach.1);
      },
      t12.1,
    )

pub readable_check : (f : List ℕ) (n : ℕ) → Readable f → grid_file_check f n ≡ n
unfolding grid_file_check
readable_check f n a =
    let e : same (grid_magic_in f) grid_magic ≡ true = rw a.marked (same_self grid_magic) in
    rw (a.some, e, a.rules, eq-eqb (cells_back f) (2 * cell_count (grid_of_file f)) a.back, eq-eqb (length f) (grid_file_length (grid_of_file f)) a.size)

-- what a file is refused with does not depend on what would follow
check_first : (f : List ℕ) (n : ℕ) → (grid_file_check f 0 ≡ 0 → ⊥) → grid_file_check f n ≡ grid_file_check f 0
unfolding grid_file_check
check_first f n h =
    go (not (some_length (length f))) (not (same (grid_magic_in f) grid_magic)) (not (proper (grid_of_file f)))
    (not (eqb (cells_back f) (2 * cell_count (grid_of_file f))) || not (eqb (length f) (grid_file_length (grid_of_file f)))) h
  where
    by : Bool → Bool → Bool → Bool → ℕ → ℕ
    by a b c d k = cond a 9 (cond b 10 (cond c 7 (cond d 12 k)))

    go : (a b c d : Bool) → (by a b c d 0 ≡ 0 → ⊥) → by a b c d n ≡ by a b c d 0
    go true b c d k = refl
    go false true c d k = refl
    go false false true d k = refl
    go false false false true k = refl
    go false false false false k = absurd (k refl)

-- of reading the cells into n lent ones: the file decides, then the room
pub read_refused : (f : List ℕ) (n : ℕ) → (grid_file_check f 0 ≡ 0 → ⊥) → cells_read_refusal f n ≡ grid_file_check f 0
unfolding cells_read_refusal
read_refused f n h = check_first f (enough n (cell_count (grid_of_file f))) h

pub read_passes : (f : List ℕ) (n : ℕ) → Readable f → cells_read_refusal f n ≡ enough n (cell_count (grid_of_file f))
unfolding cells_read_refusal
read_passes f n a = readable_check f (enough n (cell_count (grid_of_file f))) a

module _ (g : Grid) (l : List ℤ) (rules : proper g ≡ true) (words : TwoBytes g) (size : length l ≡ cell_count g) (fits : All Fits l) where
  abbrev file : List ℕ
  file = file_of_cells g l

  abbrev body : List ℕ
  body = cells_bytes l

  abbrev end : List ℕ
  end = grid_trailer g (length body)

  parts : file ≡ body ++ end
  unfolding file_of_cells
  parts = refl

  start : grid_trailer_start file ≡ length body
  start = rw parts (omega (arith, length-append body end))

  tail : drop (grid_trailer_start file) file ≡ end
  tail = rw (start, parts) (drop_at body end (length body) refl)

  grid_is : grid_of_file file ≡ g
  grid_is = rw tail (six_back g (bytes4 (length body) ++ grid_magic) words)

  back_is : cells_back file ≡ length body
  back_is = long_drop file (grid_trailer_start file) 12 ∙ rw tail (omega (arith, long_back (length body), length_cells_bytes l, few_cells g rules))

  magic_is : grid_magic_in file ≡ grid_magic
  magic_is = sym (drop-drop 16 (grid_trailer_start file) file) ∙ ap (drop 16) tail

  length_is : length file ≡ grid_file_length g
  length_is = rw parts (omega (arith, length-append body end, length_cells_bytes l))

  front : take (grid_trailer_start file) file ≡ body
  front = rw (start, parts) (take_at body end (length body) refl)

  pub file_read : States (file_of_cells g l) g l
  unfolding cells_of_file
  file_read =
      let doubled : length body ≡ 2 * cell_count g = omega (arith, length_cells_bytes l) in
      record {
        accepted =
            readable_check file 0
            (record {
              some = rw length_is (length_some g rules);
              marked = magic_is;
              rules = ap (λ (k : Grid). proper k) grid_is ∙ rules;
              back = back_is ∙ doubled ∙ ap (λ (k : Grid). 2 * cell_count k) (sym grid_is);
              size = length_is ∙ ap (λ (k : Grid). grid_file_length k) (sym grid_is);
            });
        grid = grid_is;
        cells = ap cells_of front ∙ encoded_decoded l fits;
      }

-- the bytes of a trailer as they are read
spelled : (t : List ℕ) → length t ≡ 20
    → t ≡ get_or t 0 0 ∷ get_or t 1 0 ∷ get_or t 2 0 ∷ get_or t 3 0 ∷ get_or t 4 0 ∷ get_or t 5 0 ∷ get_or t 6 0 ∷ get_or t 7 0
    ∷ get_or t 8 0 ∷ get_or t 9 0 ∷ get_or t 10 0 ∷ get_or t 11 0 ∷ get_or t 12 0 ∷ get_or t 13 0 ∷ get_or t 14 0 ∷ get_or t 15 0 ∷ drop 16 t
spelled t h =
    let step : (i : ℕ) → i < length t → drop i t ≡ get_or t i 0 ∷ drop (suc i) t = λ i g. drop-cons t i 0 g in
    rw (
      ← step 15 (omega arith),
      ← step 14 (omega arith),
      ← step 13 (omega arith),
      ← step 12 (omega arith),
      ← step 11 (omega arith),
      ← step 10 (omega arith),
      ← step 9 (omega arith),
      ← step 8 (omega arith),
      ← step 7 (omega arith),
      ← step 6 (omega arith),
      ← step 5 (omega arith),
      ← step 4 (omega arith),
      ← step 3 (omega arith),
      ← step 2 (omega arith),
      ← step 1 (omega arith),
      ← step 0 (omega arith),
    )

trailer_again : (t : List ℕ) (n : ℕ) → Bytes t → length t ≡ 20 → n ≡ long_at t 12 → drop 16 t ≡ grid_magic → grid_trailer (grid_in t) n ≡ t
trailer_again t n b h back mark =
    let byte : (i : ℕ) → get_or t i 0 < 256 = λ i. byte_at t i b in
    let two : (i : ℕ) → bytes2 (word_at t i) ≡ get_or t i 0 ∷ get_or t (i + 1) 0 ∷ [] = λ i. bytes2_word (word_at t i) _ _ (byte i) (byte (i + 1)) (omega (arith, byte i, byte (i + 1))) in
    let four : bytes4 n ≡ get_or t 12 0 ∷ get_or t 13 0 ∷ get_or t 14 0 ∷ get_or t 15 0 ∷ [] = bytes4_long n _ _ _ _ (byte 12) (byte 13) (byte 14) (byte 15) back in
    let six = ap₂ ◌++◌ (ap₂ ◌++◌ (ap₂ ◌++◌ (ap₂ ◌++◌ (ap₂ ◌++◌ (two 0) (two 2)) (two 4)) (two 6)) (two 8)) (two 10) in
    ap₂ ◌++◌ (ap₂ ◌++◌ six four) (sym mark) ∙ sym (spelled t h)

pub cells_length : (f : List ℕ) → Readable f → length (cells_of_file f) ≡ cell_count (grid_of_file f)
unfolding cells_of_file
cells_length f a = omega (arith, length_cells_of (take (grid_trailer_start f) f), length-take-le (grid_trailer_start f) f (omega arith), a.size)

module _ (f : List ℕ) (b : Bytes f) (a : Readable f) where
  again : file_of_cells (grid_of_file f) (cells_of_file f) ≡ f
  unfolding file_of_cells cells_of_file
  again =
      let k = grid_trailer_start f in
      let whole : length (take k f) ≡ k = length-take-le k f (omega arith) in
      let cells : cells_bytes (cells_of (take k f)) ≡ take k f = decoded_encoded (take k f) (all_take (λ c. c < 256) k f b) (omega (arith, whole, a.size)) in
      let back : length (take k f) ≡ long_at (drop k f) 12 = sym (sym (long_drop f k 12) ∙ a.back ∙ omega (arith, whole, a.size)) in
      let rest = trailer_again (drop k f) (length (take k f)) (all_drop (λ c. c < 256) k f b) (rw length-drop (omega (arith, a.size))) back (drop-drop 16 k f ∙ a.marked) in
      rw (cells, rest) (take-append-drop k f)

pub file_again : (f : List ℕ) → Bytes f → grid_file_check f 0 ≡ 0 → file_of_cells (grid_of_file f) (cells_of_file f) ≡ f
file_again f b h = again f b (readable_facts f 0 h).0
