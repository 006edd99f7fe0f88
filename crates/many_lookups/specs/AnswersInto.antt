-- What lookups at a list of locations give: the first refusal, or the answers as bytes, and what holds of their rounding.
use Rattle.std.specs.Prelude.{◌≡◌, ℕ, ◌*◌, ℤ, length}
use mathlib.Core.List.{List, [], ◌∷◌, ◌++◌, flat_map}
use Rattle.model.specs.Lists.{laid, All}
use Rattle.model.specs.Bytes.{bytes2, bytes4, complement}
use Rattle.model.specs.Point.{Location, State}
use Rattle.model.specs.Choice.{choice}
use Rattle.model.specs.Mean.{Right}
use Rattle.model.specs.Answer.{answer, chosen_count}
use Rattle.model.specs.Refusals.{lookup_refusal, enough, or_else, afterwards}
use Rattle.many_lookups.specs.Locations.{locations_in}

-- why the first lookup that is refused is refused; 0 where none is
unfoldable pub first_refusal : State → List Location → ℕ
first_refusal s [] = 0
first_refusal s (p ∷ l) = or_else (lookup_refusal p.x p.y s) (first_refusal s l)

-- the lookups of l, with n bytes lent: the first one's refusal, then 8
abbrev pub lookups_refusal : State → List Location → ℕ → ℕ
lookups_refusal s l n = or_else (first_refusal s l) (enough n (8 * length l))

-- the answer in two's complement, the count and the radius
abbrev pub answer_fields : ℤ → ℕ → ℕ → List ℕ
answer_fields a n r = bytes2 (complement 32768 a) ++ bytes2 n ++ bytes4 r

unfoldable pub answer_bytes : State → Location → List ℕ
answer_bytes s p = answer_fields (answer s p) (chosen_count s p) (choice s p).radius

unfoldable pub answers_bytes : State → List Location → List ℕ
unfolding answer_bytes flat_map
answers_bytes s l = flat_map (answer_bytes s) l

-- the answers' rounding, which the paper leaves free, is that of the definition; this holds of each
abbrev pub AllRight : State → List Location → Type 0
AllRight s l = All (λ p. Right s p (answer s p)) l

-- at the locations that the bytes b are, with the bytes d lent: the number no, and what d holds after the call, d'
pub record AnswersInto (s : State) (b d : List ℕ) (no : ℕ) (d' : List ℕ) : Type 0 where
  pub number : no ≡ lookups_refusal s (locations_in b) (length d)
  pub bytes : d' ≡ afterwards no (laid (answers_bytes s (locations_in b)) d) d
  pub right : no ≡ 0 → AllRight s (locations_in b)
