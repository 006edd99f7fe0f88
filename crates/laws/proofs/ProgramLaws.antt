-- The grid programs, case by case: what refuses an input, and what is put out then and otherwise.
use mathlib.Core.Path.{◌≡◌}
use Prim.Native.Nat.{ℕ, ◌+◌, ◌*◌, ◌≤◌, ◌<◌}
use native.Mathlib.Omega.{arith}
use mathlib.Core.List.{List}
use lib.ListN.{length}
use borrow.Author.Tests.{lt-ltb, le-ltb, eq-eqb, ne_eqb}
use Rattle.model.specs.Refusals.{or_else}
use Rattle.model.specs.SurveyFile.{file_refusal, file_points, record_start}
use Rattle.model.specs.Program.{input_refusal, refused_text, put_out}
use Rattle.laws.proofs.TrailerLaws.{accepted_facts}
use Rattle.laws.proofs.RoundTrip.{points_in}

-- the first refusal that applies
pub or_first : (a b : ℕ) → (a ≡ 0 → ⊥) → or_else a b ≡ a
or_first a b h = rw (ne_eqb a 0 h)

pub or_then : (a b : ℕ) → a ≡ 0 → or_else a b ≡ b
or_then a b h = rw (eq-eqb a 0 h)

module _ (f : List ℕ) where
  pub file_decides : (file_refusal f ≡ 0 → ⊥) → input_refusal f ≡ file_refusal f
  unfolding input_refusal
  file_decides h = or_first (file_refusal f) _ h

  module _ (e : file_refusal f ≡ 0) where
    pub preamble_short : record_start f < 12 → input_refusal f ≡ 7
    unfolding input_refusal
    preamble_short h = rw (eq-eqb (file_refusal f) 0 e, lt-ltb (record_start f) 12 h)

    pub preamble_long : 12 ≤ record_start f → input_refusal f ≡ 0
    unfolding input_refusal
    preamble_long h = rw (eq-eqb (file_refusal f) 0 e, le-ltb (record_start f) 12 h)

    -- what stands before the first record, the records and the trailer are all there is
    pub preamble_length : record_start f + 5 * length (file_points f) + 12 ≡ length f
    preamble_length =
        let t = (accepted_facts f e).trailer in
        omega (arith, points_in f t, t.back, t.room, t.least)

pub refused_output : (n : ℕ) (l : List ℕ) → (n ≡ 0 → ⊥) → put_out n l ≡ refused_text n
refused_output n l h = rw (ne_eqb n 0 h)

pub accepted_output : (n : ℕ) (l : List ℕ) → n ≡ 0 → put_out n l ≡ l
accepted_output n l h = rw (eq-eqb n 0 h)
