-- What the numbers that the end of a grid file states tell, and the later checks, each with the facts of those before it.
use mathlib.Core.Path.{◌≡◌, refl, sym, ap, ◌∙◌}
use mathlib.Core.Logic.{◌⊎◌, inl, inr}
use Prim.Native.Nat.{ℕ, ◌-◌, ◌*◌}
use mathlib.Core.Bool.{Bool, true, false, cond, not}
use mathlib.Core.List.{List}
use lib.Dec.{eqb}
use lib.ListN.{length, take, drop}
use borrow.Author.Tests.{ne_eqb}
use Rattle.model.specs.Bytes.{same}
use Rattle.model.specs.Grid.{Grid, proper, cell_count}
use Rattle.model.specs.GridFile.{grid_magic, grid_in, grid_file_length}
use Rattle.model.specs.GridReading.{grid_of_file, cells_back, grid_magic_in, some_length, grid_file_check}
use Rattle.laws.proofs.Tests.{or_true, cond_sound}
use Rattle.laws.proofs.ListLaws.{rest_whole}

-- what refusal 7 tells of the rules
broken_rule : (t : Bool) → (◌≡◌ {A = ℕ} (cond t 0 7) 0 → ⊥) → t ≡ false
broken_rule true h = absurd (h refl)
broken_rule false h = refl

-- and its number is 7
pub seven : (t : Bool) {r : ℕ} → r ≡ cond t 0 7 → (r ≡ 0 → ⊥) → r ≡ 7
seven true e h = absurd (h e)
seven false e h = e

-- g is read from the end of f
module _ (f : List ℕ) (g : Grid) (part : g ≡ grid_in (take (length f - (length f - 20)) (drop (length f - 20) f))) where
  six : g ≡ grid_of_file f
  six = part ∙ ap grid_in (rest_whole (length f - 20) f)

  pub broken : (r : ℕ) → r ≡ cond (proper g) 0 7 → (r ≡ 0 → ⊥) → proper (grid_of_file f) ≡ false
  broken r e h = broken_rule _ (λ z. h (e ∙ ap (λ (k : Grid). cond (proper k) 0 7) six ∙ z))

  pub kept : ◌≡◌ {A = ℕ} (cond (proper g) 0 7) 0 → proper (grid_of_file f) ≡ true
  kept e = (cond_sound (proper (grid_of_file f)) 6 0 (sym (ap (λ (k : Grid). cond (proper k) 0 7) six) ∙ e)).0

  pub counted : (n : ℕ) → n ≡ cell_count g → n ≡ cell_count (grid_of_file f)
  counted n e = e ∙ ap (λ (k : Grid). cell_count k) six

module _ (f : List ℕ) (some : some_length (length f) ≡ true) (marked : same (grid_magic_in f) grid_magic ≡ true) where
  pub check_seven : proper (grid_of_file f) ≡ false → grid_file_check f 0 ≡ 7
  unfolding grid_file_check
  check_seven h = rw (some, marked, h)

  pub check_twelve : proper (grid_of_file f) ≡ true → (cells_back f ≡ 2 * cell_count (grid_of_file f) → ⊥) ⊎ (length f ≡ grid_file_length (grid_of_file f) → ⊥)
      → grid_file_check f 0 ≡ 12
  unfolding grid_file_check
  check_twelve rules (inl h) = rw (some, marked, rules, ne_eqb (cells_back f) (2 * cell_count (grid_of_file f)) h)
  check_twelve rules (inr h) =
      rw (
        some,
        marked,
        rules,
        or_true (not (eqb (cells_back f) (2 * cell_count (grid_of_file f)))) (not (eqb (length f) (grid_file_length (grid_of_file f))))
            (rw (ne_eqb (length f) (grid_file_length (grid_of_file f)) h)),
      )
