-- What begins and rows leave; what is present after a list of calls that begins and fills; which rows it gives after an accepted begin, the grid's first, over what was present
-- there, and with none begun; and that every list is parted by its accepted begins.
use mathlib.Core.Path.{◌≡◌, refl, sym, ap, ◌∙◌}
use Prim.Native.Nat.{ℕ, zero, suc, ◌+◌, ◌-◌, ◌*◌, ◌≤◌, ◌<◌, min}
use native.Mathlib.Nat.{eq-or-lt_of_le, mul-le-mul_left, add-zero, mul-zero, zero-min, min-zero, suc-min-suc, min-le_right}
use native.Mathlib.Omega.{arith}
use mathlib.Core.Bool.{Bool, true, false, cond}
use mathlib.Core.Logic.{◌⊎◌, inl, inr, ⊎_elim}
use mathlib.Core.List.{List, [], ◌∷◌, ◌++◌, map, flat_map, append-nil}
use lib.Dec.{ltb, eqb}
use lib.IntN.{ℤ}
use lib.ListN.{length, take}
use lib.Seq.{take_all, take-append-le}
use borrow.Author.Tests.{ltb-true, ltb-false, le-ltb, eqb-true, eqb-false, eq-eqb, ne_eqb}
use Rattle.model.specs.Lists.{tabulate}
use Rattle.model.specs.Point.{Contents, State}
use Rattle.model.specs.Extent.{settled}
use Rattle.model.specs.Calls.{after, after_all, present}
use Rattle.model.specs.Grid.{Grid, cell_count, grid_refusal, row, rows_of, cells}
use Rattle.model.specs.Filling.{Filling, NoGrid, Begun, GivenRow, begin_refusal, row_refusal, row_at, next_row, row_further, after_begin, after_row}
use Rattle.model.specs.RowCalls.{RowCall, OnSurvey, Begin, NextRow, Session, session, fresh_session, after_row_call, given_by, session_after, rows_given, survey_call, NoneBegins, rows_asked, FirstRows}
use Rattle.laws.proofs.ListLaws.{tabulate_same, tabulate_front, length_tabulate, flat_map_append}
use Rattle.laws.proofs.CallLaws.{after_ask}
use Rattle.laws.proofs.GridLaws.{length_rows}

pub begin_accepted : (g : Grid) (s : State) (f : Filling) → begin_refusal g s ≡ 0 → after_begin g s f ≡ Begun s g 0
unfolding after_begin
begin_accepted g s f h = rw (eq-eqb (begin_refusal g s) 0 h)

-- §6's sentence: a begin refuses what a grid refuses, save the lent list
pub begin_as_grid : (g : Grid) (s : State) (n : ℕ) → cell_count g ≤ n → grid_refusal g s n ≡ begin_refusal g s
unfolding grid_refusal
begin_as_grid g s n h = rw (le-ltb n (cell_count g) h)

pub begin_refused : (g : Grid) (s : State) (f : Filling) → (begin_refusal g s ≡ 0 → ⊥) → after_begin g s f ≡ f
unfolding after_begin
begin_refused g s f h = rw (ne_eqb (begin_refusal g s) 0 h)

pub row_accepted : (f : Filling) (n : ℕ) → row_refusal f n ≡ 0 → after_row f n ≡ row_further f
unfolding after_row
row_accepted f n h = rw (eq-eqb (row_refusal f n) 0 h)

pub row_refused : (f : Filling) (n : ℕ) → (row_refusal f n ≡ 0 → ⊥) → after_row f n ≡ f
unfolding after_row
row_refused f n h = rw (ne_eqb (row_refusal f n) 0 h)

-- what is present after a list
contents_one : (c : RowCall) (b : Session) → (after_row_call c b).contents ≡ after (survey_call c) b.contents
unfolding after_row_call
contents_one (OnSurvey c) b = refl
contents_one (Begin g) b = sym (after_ask b.contents)
contents_one (NextRow d) b = sym (after_ask b.contents)

contents_after : (cs : List RowCall) (b : Session) → (session_after cs b).contents ≡ after_all (map survey_call cs) b.contents
unfolding session_after after_all
contents_after [] b = refl
contents_after (c ∷ cs) b = contents_after cs (after_row_call c b) ∙ ap (after_all (map survey_call cs)) (contents_one c b)

pub contents_present : (cs : List RowCall) → (session_after cs fresh_session).contents ≡ present (map survey_call cs)
unfolding present
contents_present cs = contents_after cs fresh_session

-- the cells of the first n rows, and where they stand among those of m
module _ (s : State) (g : Grid) where
  rows_cells : (n : ℕ) → flat_map (λ (r : GivenRow). r.cells) (tabulate (row_at s g) n) ≡ rows_of s g n
  unfolding tabulate row_at rows_of flat_map
  rows_cells zero = refl
  rows_cells (suc n) = flat_map_append (λ (r : GivenRow). r.cells) (tabulate (row_at s g) n) (row_at s g n ∷ []) ∙ rw (rows_cells n, append-nil)

  rows_among : (n m : ℕ) → n ≤ m → take (g.columns * n) (rows_of s g m) ≡ rows_of s g n
  unfolding rows_of
  rows_among n zero h = let e : n ≡ 0 = omega arith in rw (e, mul-zero)
  rows_among n (suc m) h =
      ⊎_elim
      (λ (e : n ≡ suc m). rw e (take_all (g.columns * suc m) (rows_of s g (suc m)) (omega (arith, length_rows s g (suc m)))))
      (λ (k : n < suc m).
      let room : g.columns * n ≤ g.columns * m = mul-le-mul_left g.columns (omega arith) in
      take-append-le (g.columns * n) (rows_of s g m) (row s g m) (omega (arith, room, length_rows s g m)) ∙ rows_among n m (omega arith))
      (eq-or-lt_of_le {n = n} {m = suc m} h)

  -- n rows from row r on
  abbrev rows_from : ℕ → ℕ → List GivenRow
  rows_from r n = tabulate (λ i. row_at s g (r + i)) n

  one_from : (r n : ℕ) → row_at s g r ∷ rows_from (suc r) n ≡ rows_from r (suc n)
  one_from r n =
      let same : rows_from (suc r) n ≡ tabulate (λ i. row_at s g (r + suc i)) n = tabulate_same (λ i. row_at s g (suc r + i)) (λ i. row_at s g (r + suc i)) n (λ i l. ap (row_at s g) (omega arith)) in
      ap (λ (l : List GivenRow). row_at s g r ∷ l) same
      ∙ ap (λ (k : ℕ). row_at s g k ∷ tabulate (λ i. row_at s g (r + suc i)) n) (sym (add-zero r))
      ∙ sym (tabulate_front (λ i. row_at s g (r + i)) n)

  -- where the next row is r, so many rows are given, from r on
  module _ (q : Contents) (cs : List RowCall) (r : ℕ) where
    abbrev Gives : Type 0
    Gives = rows_given cs (session q (Begun s g r)) ≡ rows_from r (min (rows_asked g.columns cs) (g.rows - r))

  row_gives : (q : Contents) (d : List ℤ) (cs : List RowCall) (r : ℕ) → r ≤ g.rows → Gives q cs r → (r < g.rows → Gives q cs (suc r)) → Gives q (NextRow d ∷ cs) r
  unfolding rows_given given_by after_row_call after_row row_refusal next_row row_further
  row_gives q d cs r h still next = by_rows (ltb r g.rows) refl
    where
      by_room : (t : Bool) → ltb (length d) g.columns ≡ t → r < g.rows
          → cond (eqb (cond t 8 0) 0) (row_at s g r ∷ []) [] ++ rows_given cs (session q (cond (eqb (cond t 8 0) 0) (Begun s g (suc r)) (Begun s g r)))
          ≡ rows_from r (min (cond t (rows_asked g.columns cs) (suc (rows_asked g.columns cs))) (g.rows - r))
      by_room true e k = still
      by_room false e k =
          let m : g.rows - r ≡ suc (g.rows - suc r) = omega arith in
          rw (m, suc-min-suc) (rw (next k) (one_from r (min (rows_asked g.columns cs) (g.rows - suc r))))

      by_rows : (t : Bool) → ltb r g.rows ≡ t → rows_given (NextRow d ∷ cs) (session q (Begun s g r)) ≡ rows_from r (min (rows_asked g.columns (NextRow d ∷ cs)) (g.rows - r))
      by_rows true e = rw e (by_room (ltb (length d) g.columns) refl (ltb-true r g.rows e))
      by_rows false e = let m : g.rows - r ≡ 0 = omega (arith, ltb-false r g.rows e) in rw (e, m, min-zero) (rw (m, min-zero) at still)

  given_from : (q : Contents) (cs : List RowCall) (r : ℕ) → r ≤ g.rows → NoneBegins q cs → Gives q cs r
  unfolding rows_given given_by after_row_call tabulate
  given_from q [] r h none = rw zero-min
  given_from q (OnSurvey c ∷ cs) r h none = given_from (after c q) cs r h none
  given_from q (Begin b ∷ cs) r h none = rw (begin_refused b (settled q) (Begun s g r) none.0) (given_from q cs r h none.1)
  given_from q (NextRow d ∷ cs) r h none = row_gives q d cs r h (given_from q cs r h none) (λ k. given_from q cs (suc r) k none)

-- §6's sentence
pub rows_first : (q : Contents) (g : Grid) (cs : List RowCall) → NoneBegins q cs → FirstRows q g cs (rows_given cs (session q (Begun (settled q) g 0)))
unfolding cells
rows_first q g cs none =
    let n = min (rows_asked g.columns cs) g.rows in
    let e : rows_given cs (session q (Begun (settled q) g 0)) ≡ tabulate (row_at (settled q) g) n =
    given_from (settled q) g q cs 0 (omega arith) none
    ∙ tabulate_same (λ i. row_at (settled q) g (0 + i)) (row_at (settled q) g) (min (rows_asked g.columns cs) (g.rows - 0)) (λ i l. ap (row_at (settled q) g) (omega arith))
    ∙ ap (λ (m : ℕ). tabulate (row_at (settled q) g) (min (rows_asked g.columns cs) m)) (omega arith) in
    let size : length (tabulate (row_at (settled q) g) n) ≡ n = length_tabulate (row_at (settled q) g) n in
    rw e record {
      first = rw size;
      at_once = rw (size, rows_cells (settled q) g n) (sym (rows_among (settled q) g n g.rows (min-le_right (rows_asked g.columns cs) g.rows)));
      all = size;
    }

-- with no grid begun, and no begin accepted, there is no row
pub no_rows : (q : Contents) (cs : List RowCall) → NoneBegins q cs → rows_given cs (session q NoGrid) ≡ []
unfolding rows_given given_by after_row_call after_row row_refusal
no_rows q [] none = refl
no_rows q (OnSurvey c ∷ cs) none = no_rows (after c q) cs none
no_rows q (Begin g ∷ cs) none = rw (begin_refused g (settled q) NoGrid none.0) (no_rows q cs none.1)
no_rows q (NextRow d ∷ cs) none = no_rows q cs none

-- the first accepted begin of a list, and the calls before and behind it
pub record FirstBegin (q : Contents) (cs : List RowCall) : Type 0 where
  pub before : List RowCall
  pub grid : Grid
  pub behind : List RowCall
  pub whole : cs ≡ before ++ Begin grid ∷ behind
  pub until : NoneBegins q before
  pub accepted : begin_refusal grid (settled (after_all (map survey_call before) q)) ≡ 0

-- one call more in front, which is no accepted begin
in_front : (c : RowCall) (q : Contents) (cs : List RowCall) → ((l : List RowCall) → NoneBegins (after (survey_call c) q) l → NoneBegins q (c ∷ l))
    → FirstBegin (after (survey_call c) q) cs → FirstBegin q (c ∷ cs)
unfolding after_all
in_front c q cs none p = record {
  before = c ∷ p.before;
  grid = p.grid;
  behind = p.behind;
  whole = ap (λ (l : List RowCall). c ∷ l) p.whole;
  until = none p.before p.until;
  accepted = p.accepted;
}

-- every list has one, or accepts no begin
pub parted : (q : Contents) (cs : List RowCall) → NoneBegins q cs ⊎ FirstBegin q cs
unfolding after_all
parted q [] = inl tt
parted q (OnSurvey c ∷ cs) =
    ⊎_elim
    (λ (none : NoneBegins (after c q) cs). inl none)
    (λ (p : FirstBegin (after c q) cs). inr (in_front (OnSurvey c) q cs (λ l none. none) p))
    (parted (after c q) cs)
parted q (Begin g ∷ cs) = by_test (eqb (begin_refusal g (settled q)) 0) refl (parted q cs)
  where
    by_test : (t : Bool) → eqb (begin_refusal g (settled q)) 0 ≡ t → NoneBegins q cs ⊎ FirstBegin q cs → NoneBegins q (Begin g ∷ cs) ⊎ FirstBegin q (Begin g ∷ cs)
    by_test true e rest = inr record { before = []; grid = g; behind = cs; whole = refl; until = tt; accepted = eqb-true (begin_refusal g (settled q)) 0 e }
    by_test false e rest =
        let refused = eqb-false (begin_refusal g (settled q)) 0 e in
        ⊎_elim
        (λ (none : NoneBegins q cs). inl (refused, none))
        (λ (p : FirstBegin q cs). inr (in_front (Begin g) q cs (λ l none. (refused, rw (after_ask q) at none)) (rw (after_ask q) p)))
        rest
parted q (NextRow d ∷ cs) =
    ⊎_elim
    (λ (none : NoneBegins q cs). inl none)
    (λ (p : FirstBegin q cs). inr (in_front (NextRow d) q cs (λ l none. rw (after_ask q) at none) (rw (after_ask q) p)))
    (parted q cs)
