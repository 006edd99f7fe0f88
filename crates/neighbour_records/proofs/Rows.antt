-- A local `[Record; n]` as one machine value and as the row of its n records, for the proofs that follow code step by step.
--     array-is, is-array     the relation of a struct's field that is such an array, as the array's own, and back
--     whole-is-field         the array's machine value is one in both
--     row_in                 a local that holds the array whole is the row of its records: it is then read, written and lent by the element
--     row_out                and back: the local holds some machine value of the array, with what the array owns
use mathlib.Core.Path.{◌≡◌, refl, ◌∙◌, sym, ap}
use Prim.Native.Nat.{ℕ}
use mathlib.Core.List.{List, [], ◌∷◌, map}
use lib.ListN.{length, length-map}
use seplogic.Ra.Ura.{Ura}
use base.Fraction.{full_share}
use mir.Syntax.{Ty, ty_array}
use mir.Val.{Val}
use base.Logic.{ent, sep}
use base.Fml.{fsep, fat}
use types.Logic.{Logic, sem}
use types.Kit.{‵, ◌$◌, ◌∵◌, !, qed, move, drop, use1, fsplit, fjoin, fpick, fpack, feq_i, frame, done}
use types.Share.{arr_parts}
use denote.RattleType.{RattleType}
use denote.Shadow.{shadow}
use denote.Laws.{Is, shows}
use denote.Memory.{cell_at, part_at, shares, part_of}
use denote.Array.{Array, each, array_val, array_vals, Array-Tells, Array-Makes}
use denote.ArrayMemory.{Array-apart, Array-whole}
use denote.Index.{row}
use denote.Steps.{owned}
use denote.Struct.Steps.{spelt}
use denote.Struct.Laws as LL
use Rattle.neighbour_records.specs.declared.Record.{Record}
use Rattle.neighbour_records.specs.contracts.Record as N
use Rattle.neighbour_records.proofs.Record.TheLaws as N'

abbrev pub R : RattleType
R = N.the_row

abbrev pub vals : Record → List Val
vals = LL.vals N.the_type N'.the_laws

abbrev pub arr : ℕ → Ty
arr n = ty_array N'.mir n

-- the machine value of the array
abbrev pub whole_val : List Record → Val
whole_val xs = array_val (map (LL.val N.the_type N'.the_laws) xs)

-- the same array where it lies in a field of a struct: its machine value as the struct's has it
abbrev pub field_val : List Record → Val
field_val xs = array_val (map (N'.the_field_laws).val (map (N.the_type).to xs))

each_is : (xs : List Record) (us : List Val) → shadow (each (N.the_field).row.Denot (N.the_field).row.own_val (map (N.the_type).to xs) us) → shadow (each Record R.own_val xs us)
each_is [] [] s = s
each_is [] (u ∷ us) s = s
each_is (x ∷ xs) [] s = s
each_is (x ∷ xs) (u ∷ us) s = (s.0, each_is xs us s.1)

pub array_is : (n : ℕ) (xs : List Record) (vs : List Val) → Is (Array (N.the_field).row n) (map (N.the_type).to xs) vs → Is (Array R n) xs vs
array_is n xs vs p = (p.0, ((p.1.0.0, sym (length-map xs (N.the_type).to) ∙ p.1.0.1), each_is xs p.0 p.1.1))

is_each : (xs : List Record) (us : List Val) → shadow (each Record R.own_val xs us) → shadow (each (N.the_field).row.Denot (N.the_field).row.own_val (map (N.the_type).to xs) us)
is_each [] [] s = s
is_each [] (u ∷ us) s = s
is_each (x ∷ xs) [] s = s
is_each (x ∷ xs) (u ∷ us) s = (s.0, is_each xs us s.1)

-- and back
pub is_array : (n : ℕ) (xs : List Record) (vs : List Val) → Is (Array R n) xs vs → Is (Array (N.the_field).row n) (map (N.the_type).to xs) vs
is_array n xs vs p = (p.0, ((p.1.0.0, length-map xs (N.the_type).to ∙ p.1.0.1), is_each xs p.0 p.1.1))

-- the two machine values are one
pub whole_is_field : (xs : List Record) → whole_val xs ≡ field_val xs
whole_is_field xs = ap array_val (both xs)
  where
    both : (xs : List Record) → map (LL.val N.the_type N'.the_laws) xs ≡ map (N'.the_field_laws).val (map (N.the_type).to xs)
    both [] = refl
    both (x ∷ xs) = ap {B = List Val} (λ r. LL.val N.the_type N'.the_laws x ∷ r) (both xs)

module _ {M : Type 1} {𝓤 : Ura M} (𝓛 : Logic 𝓤) where
  pub row_in : (n : ℕ) (xs : List Record) (v : Val) (l : ℕ) → Is (Array R n) xs (v ∷ []) → ent 𝓤 (sem 𝓛 (fat full_share (arr n) l 0 v)) (sem 𝓛 (row R full_share xs l 0))
  unfolding part_of
  row_in n xs v l g =
      qed 𝓛 (‵ (fat full_share (arr n) l 0 v) ∷ []) ∵ use1 𝓛 (‵ (cell_at full_share (Array R n).mir (v ∷ []) l 0)) (𝓛.laws.at_raw full_share (arr n) l 0 v) $
      owned ! (Array R n) (Is (Array R n)) (Array-Makes 𝓛 R (LL.makes N.the_type N'.the_plain 𝓛) n) xs (v ∷ []) g $ move ! (1 ∷ 0 ∷ []) $ fjoin ! $
      fpack ! (List Val) (λ us. fsep (cell_at full_share (Array R n).mir us l 0) ((Array R n).own_val xs us)) (v ∷ []) $
      use1 𝓛 (‵ ((arr_parts (shares R) n).part full_share xs l 0)) (Array-apart 𝓛 R full_share tt n xs l 0) $ fsplit ! $ drop ! $ done !

  pub row_out : (n : ℕ) (xs : List Record) (l : ℕ) → length xs ≡ n → ent 𝓤 (sem 𝓛 (row R full_share xs l 0)) (sep 𝓤 (sem 𝓛 (fat full_share (arr n) l 0 (whole_val xs))) (sem 𝓛 ((Array R n).own_val xs (whole_val xs ∷ []))))
  unfolding part_of
  row_out n xs l e =
      qed 𝓛 (‵ (row R full_share xs l 0) ∷ []) ∵ feq_i ! ℕ (length xs) n e $ fjoin ! $ use1 𝓛 (‵ (part_at (Array R n) full_share xs l 0)) (Array-whole 𝓛 R full_share n xs l 0) $ fpick ! (λ vs. fsplit ! $
      spelt ! (Array R n) (Is (Array R n)) (shows 𝓛 (Array R n)) (array_vals vals) (Array-Tells R vals (LL.tells N.the_type N'.the_laws) n) full_share xs vs l 0 $
      use1 𝓛 (‵ (fat full_share (arr n) l 0 (whole_val xs))) (𝓛.laws.raw_at full_share (arr n) l 0 (whole_val xs)) $ frame ! $ done !)
