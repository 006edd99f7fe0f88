-- The survey file: what is read from it, why it is refused, and what is written: document 01, "Survey file" and "The file's maker".
use Rattle.std.specs.Prelude.{ℕ, ◌+◌, ◌-◌, ◌*◌, ◌%◌, Bool, cond, not, ◌||◌, ltb, eqb, length, take, drop}
use mathlib.Core.List.{List, [], ◌∷◌, ◌++◌, flat_map}
use Rattle.model.specs.Lists.{laid}
use Rattle.model.specs.Point.{Point, point, in_domain, precedes}
use Rattle.model.specs.Bytes.{word, word_at, long_at, bytes2, bytes4, complement, signed, same, total}

-- document 01's mark: RLS1
abbrev pub magic : List ℕ
magic = 0x52 ∷ 0x4C ∷ 0x53 ∷ 0x31 ∷ []

-- the trailer is the last 12 bytes
abbrev pub trailer_start : List ℕ → ℕ
trailer_start f = length f - 12

abbrev pub count_in : List ℕ → ℕ
count_in f = word_at f (trailer_start f)

-- bytes from the trailer's start back to the first record
abbrev pub back_in : List ℕ → ℕ
back_in f = long_at f (trailer_start f + 2)

abbrev pub sum_in : List ℕ → ℕ
sum_in f = word_at f (trailer_start f + 6)

abbrev pub magic_in : List ℕ → List ℕ
magic_in f = drop (trailer_start f + 8) f

-- where the first record stands, and the bytes of all records
abbrev pub record_start : List ℕ → ℕ
record_start f = trailer_start f - back_in f

abbrev pub records_in : List ℕ → List ℕ
records_in f = take (back_in f) (drop (record_start f) f)

-- records of 5 bytes: x, y and z; fewer than 5 bytes at the end are none
unfoldable pub points_of : List ℕ → List Point
points_of [] = []
points_of (a ∷ []) = []
points_of (a ∷ b ∷ []) = []
points_of (a ∷ b ∷ c ∷ []) = []
points_of (a ∷ b ∷ c ∷ d ∷ []) = []
points_of (a ∷ b ∷ c ∷ d ∷ e ∷ l) = point (word a b) (word c d) (signed 128 e) ∷ points_of l

unfoldable pub file_points : List ℕ → List Point
unfolding points_of
file_points f = points_of (records_in f)

-- 14 or 15 of the records that follow a, one after the other; 0 where there is none
unfoldable pub fault_after : Point → List Point → ℕ
fault_after a [] = 0
fault_after a (b ∷ l) = cond (in_domain b.x b.y) (cond (precedes a b) (fault_after b l) 15) 14

-- the same of all records: the first has none before it
unfoldable pub fault : List Point → ℕ
unfolding fault_after
fault [] = 0
fault (a ∷ l) = cond (in_domain a.x a.y) (fault_after a l) 14

-- a file of n bytes is too short for a trailer, or too long
abbrev pub wrong_size : ℕ → Bool
wrong_size n = ltb n 12 || ltb 65536 n

-- the first of 9 to 13 that applies, and otherwise whatever follows
unfoldable pub trailer_check : List ℕ → ℕ → ℕ
trailer_check f n =
    cond (wrong_size (length f)) 9
    (cond (not (same (magic_in f) magic)) 10
    (cond (ltb 256 (count_in f)) 11
    (cond (not (eqb (back_in f) (5 * count_in f)) || ltb (trailer_start f) (back_in f)) 12
    (cond (not (eqb (total (records_in f) % 65536) (sum_in f))) 13 n))))

-- the first refusal of 9 to 15 that applies, 0 of an accepted file
unfoldable pub file_refusal : List ℕ → ℕ
unfolding trailer_check fault file_points
file_refusal f = trailer_check f (fault (file_points f))

-- the five bytes of a point
abbrev pub record_bytes : Point → List ℕ
record_bytes a = bytes2 a.x ++ bytes2 a.y ++ (complement 128 a.z ∷ [])

-- the trailer of n points whose records are these bytes
abbrev pub trailer : ℕ → List ℕ → List ℕ
trailer n r = bytes2 n ++ bytes4 (length r) ++ bytes2 (total r) ++ magic

-- the records of a list of points
unfoldable pub records : List Point → List ℕ
unfolding flat_map
records l = flat_map record_bytes l

-- the file of a list of points, with no preamble (document 01: notes)
unfoldable pub file_of : List Point → List ℕ
unfolding records
file_of l = records l ++ trailer (length l) (records l)

-- writing the file of these points into n lent bytes: 8 where they are too few
unfoldable pub write_refusal : List Point → ℕ → ℕ
unfolding file_of
write_refusal l n = cond (ltb n (length (file_of l))) 8 0

-- what lent bytes hold after it: the file at their front, or, refused, what they held
unfoldable pub written_into : List Point → List ℕ → List ℕ
unfolding write_refusal file_of
written_into l d = cond (eqb (write_refusal l (length d)) 0) (laid (file_of l) d) d
