-- What the grid being filled is read as, and what a begin and a row answer and leave, refused and accepted.
use mathlib.Core.Path.{◌≡◌, refl, sym, ap, ◌∙◌}
use Prim.Native.Nat.{ℕ, ◌+◌, ◌≤◌, ◌<◌}
use native.Mathlib.Numerals.{add-one}
use native.Mathlib.Omega.{arith}
use mathlib.Core.Bool.{Bool, true, false, cond}
use mathlib.Core.List.{List, ◌++◌}
use lib.Dec.{ltb, eqb}
use lib.IntN.{ℤ}
use lib.ListN.{length, drop}
use borrow.Author.Tests.{ltb-true, ltb-false, lt-ltb, le-ltb, eqb-true, eq-eqb, ne_eqb}
use Rattle.std.specs.Prelude.{Result, Ok, Err, IsErrAnd}
use Rattle.model.specs.Refusals.{enough, or_else}
use Rattle.model.specs.Grid.{row}
use Rattle.model.specs.Filling.{NoGrid, Begun, begin_refusal, row_refusal, row_at, next_row, row_further, row_into, Filling as Model-as-Filling}
use Rattle.laws.proofs.Tests.{cond_zero, cond_sound}
use Rattle.laws.proofs.GridLaws.{length_row}
use Rattle.laws.proofs.FillingLaws.{begin_accepted, begin_refused, row_accepted, row_refused}
use Rattle.refusal.specs.declared.Refusal.{Refusal}
use Rattle.refusal.specs.Numbered.{code, number_of}
use Rattle.refusal.proofs.Coded.{never_0}
use Rattle.survey.specs.declared.Survey.{Survey}
use Rattle.survey.specs.StateOf.{state_of}
use Rattle.grid_rules.specs.declared.Grid.{Grid}
use Rattle.grid_rules.specs.GridOf.{grid_of}
use Rattle.grid_cells.specs.CellsRight.{RowRight}
use Rattle.grid_rows.specs.declared.Filling.{Filling}
use Rattle.grid_rows.specs.declared.FilledRow.{FilledRow}
use Rattle.grid_rows.specs.FillingOf.{filling_of, Begins, Advances, rowed_as, RowRounded}

-- by which number a begin would refuse the grid
abbrev pub begins : Filling → ℕ
begins f = begin_refusal (grid_of f.grid) (state_of f.survey)

module _ (f : Filling) where
  pub read_begun : begins f ≡ 0 → filling_of f ≡ Begun (state_of f.survey) (grid_of f.grid) f.next
  unfolding filling_of
  read_begun h = rw (eq-eqb (begins f) 0 h)

  pub read_none : (begins f ≡ 0 → ⊥) → filling_of f ≡ NoGrid
  unfolding filling_of
  read_none h = rw (ne_eqb (begins f) 0 h)

module _ (f : Filling) (s : Survey) (g : Grid) where
  -- the refusal e that is passed on
  pub begin_refuses : (r : Result (Unit {0}) Refusal) (e : Refusal) → IsErrAnd r (λ x. x ≡ e) → number_of e ≡ begin_refusal (grid_of g) (state_of s) → Begins f s g r f
  begin_refuses (Ok x) e h k = absurd h
  begin_refuses (Err x) e h k =
      let number : number_of x ≡ begin_refusal (grid_of g) (state_of s) = ap number_of h ∙ k in
      record {
        number = number;
        filling = sym (begin_refused (grid_of g) (state_of s) (filling_of f) (λ z. never_0 x (number ∙ z)));
        survey = λ z. absurd (never_0 x (number ∙ z));
        unaltered = λ _. refl;
      }

  pub begin_accepts : 0 ≡ begin_refusal (grid_of g) (state_of s) → Begins f s g (Ok tt) record { survey = s; grid = g; next = 0 }
  begin_accepts e =
      record {
        number = e;
        filling = read_begun record { survey = s; grid = g; next = 0 } (sym e) ∙ sym (begin_accepted (grid_of g) (state_of s) (filling_of f) (sym e));
        survey = λ _. refl;
        unaltered = λ k. absurd (k (sym e));
      }

-- why the next row is refused where enough is lent, and where n cells are
module _ (f : Filling) where
  pub no_grid : (begins f ≡ 0 → ⊥) → 17 ≡ row_refusal (filling_of f) f.grid.columns
  unfolding row_refusal
  no_grid h = rw (read_none f h)

  pub no_row : begins f ≡ 0 → f.grid.rows ≤ f.next → 17 ≡ row_refusal (filling_of f) f.grid.columns
  unfolding row_refusal
  no_row h k = rw (read_begun f h, le-ltb f.next f.grid.rows k)

  pub row_left : begins f ≡ 0 → f.next < f.grid.rows → 0 ≡ row_refusal (filling_of f) f.grid.columns
  unfolding row_refusal
  row_left h k = rw (read_begun f h, lt-ltb f.next f.grid.rows k, le-ltb f.grid.columns f.grid.columns (omega arith))

module _ (f : Filling) (n : ℕ) where
  -- 17, then 8: the first of the two that is not 0
  abbrev FirstOf : Model-as-Filling → Type 0
  FirstOf m =
      let finished = row_refusal m f.grid.columns in
      let room = enough n f.grid.columns in
      or_else finished room ≡ row_refusal m n

  pub finished_then_room : FirstOf (filling_of f)
  unfolding filling_of row_refusal
  finished_then_room = by_begin (eqb (begins f) 0)
    where
      by_tests : (u v : Bool) → ◌≡◌ {A = ℕ} (or_else (cond u 0 17) (cond v 8 0)) (cond u (cond v 8 0) 17)
      by_tests true true = refl
      by_tests true false = refl
      by_tests false v = refl

      by_begin : (t : Bool) → FirstOf (cond t (Begun (state_of f.survey) (grid_of f.grid) f.next) NoGrid)
      by_begin true = rw (le-ltb f.grid.columns f.grid.columns (omega arith)) (by_tests (ltb f.next f.grid.rows) (ltb n f.grid.columns))
      by_begin false = refl

  -- what an accepted one has passed
  pub row_passed : row_refusal (filling_of f) n ≡ 0 → (begins f ≡ 0) × (f.next < f.grid.rows) × (f.grid.columns ≤ n)
  unfolding filling_of row_refusal
  row_passed h = by_test (eqb (begins f) 0) refl h
    where
      by_test : (t : Bool) → eqb (begins f) 0 ≡ t → row_refusal (cond t (Begun (state_of f.survey) (grid_of f.grid) f.next) NoGrid) n ≡ 0
          → (begins f ≡ 0) × (f.next < f.grid.rows) × (f.grid.columns ≤ n)
      by_test true e k =
          let last = cond_sound (ltb f.next f.grid.rows) 16 _ k in
          let lent = cond_zero (ltb n f.grid.columns) 7 0 last.1 in
          (eqb-true (begins f) 0 e, ltb-true f.next f.grid.rows last.0, ltb-false n f.grid.columns lent.0)
      by_test false e k = absurd (omega arith)

rounded_refused : (m : Model-as-Filling) (n : ℕ) → RowRounded m (Err n)
unfolding RowRounded
rounded_refused NoGrid n = tt
rounded_refused (Begun s g r) n = tt

-- f with one row more filled
abbrev moved : Filling → Filling
moved f = record { survey = f.survey; grid = f.grid; next = f.next + 1 }

-- what the next row, lent d, gives
module _ (f : Filling) (d : List ℤ) where
  abbrev Gives : Result FilledRow ℕ → Filling → List ℤ → Type 0
  Gives a t d' = (a ≡ rowed_as (filling_of f) (length d)) × (Advances f (length d) t × ((d' ≡ row_into (filling_of f) d) × RowRounded (filling_of f) a))

  pub row_refuses : (n : ℕ) → n ≡ row_refusal (filling_of f) (length d) → (n ≡ 0 → ⊥) → Gives (Err n) f d
  unfolding rowed_as row_into
  row_refuses n e h =
      let k : row_refusal (filling_of f) (length d) ≡ 0 → ⊥ = λ z. h (e ∙ z) in
      let z = ne_eqb (row_refusal (filling_of f) (length d)) 0 k in
      (rw (z, e), (record { filling = sym (row_refused (filling_of f) (length d) k); survey = refl; unaltered = λ _. refl }, (rw z, rounded_refused (filling_of f) n)))

  pub row_fills : row_refusal (filling_of f) (length d) ≡ 0 → RowRight (state_of f.survey) (grid_of f.grid) f.next
      → Gives (Ok (record { index = f.next; cells = f.grid.columns })) (moved f) (row (state_of f.survey) (grid_of f.grid) f.next ++ drop f.grid.columns d)
  unfolding rowed_as row_into next_row row_at row_further RowRounded
  row_fills h right =
      let k = (row_passed f (length d) h).0 in
      let z = eq-eqb (row_refusal (filling_of f) (length d)) 0 h in
      let b = read_begun f k in
      let size = length_row (state_of f.survey) (grid_of f.grid) f.next in
      let m : filling_of (moved f) ≡ Begun (state_of f.survey) (grid_of f.grid) (f.next + 1) = read_begun (moved f) k in
      (rw (z, b, size), (record { filling = rw (row_accepted (filling_of f) (length d) h, m, b, add-one); survey = refl; unaltered = λ v. absurd (v h) }, (rw (z, b, size), rw b right)))
