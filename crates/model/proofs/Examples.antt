-- Closed cases that hold the definitions to documents 01 and 02: the starred rows of the bench table, `closed_rows`; rows of our own that these cannot replace,
-- `further`, `far_off`, `polygons`, `calls`, `kept`, `lent`, `files`, `refusals`, `grids`, `rows`, `rows_between`, `readings`, `decimals`, `decimals_read`, `cell_texts` and `texts`; and the whole case, as a grid file and as an Esri ASCII grid.
use Rattle.std.specs.Prelude.{◌≡◌, refl, true, false, [], ◌∷◌, ◌++◌, map, reverse, pos, negsuc, replicate, set}
use Rattle.std.proofs.Common.{arith, true≢false, inl, inr, ⊎_elim, lit<}
use Rattle.std.proofs.Math.Option.{none}
use Rattle.std.proofs.Math.IntN.{pos-ne-negsuc}
use Rattle.model.specs.Lists.{tabulate}
use Rattle.model.specs.Point.{point, location, contents_of}
use Rattle.model.specs.Distance.{distance}
use Rattle.model.specs.Polygon.{polygon, enclosed}
use Rattle.model.specs.Radius.{locations, radius_of}
use Rattle.model.specs.Extent.{extent_of, settled, survey_of}
use Rattle.model.specs.Choice.{choice}
use Rattle.model.specs.Influence.{influence_at}
use Rattle.model.specs.Fraction.{Is}
use Rattle.model.specs.Weight.{neighbourhood}
use Rattle.model.specs.Mean.{weighted_mean, mean}
use Rattle.model.specs.Answer.{answer, chosen_count, neighbours}
use Rattle.model.specs.Refusals.{lookup_refusal, neighbours_refusal}
use Rattle.model.specs.Lent.{neighbours_into}
use Rattle.model.specs.SurveyFile.{fault, wrong_size, file_refusal, file_of}
use Rattle.model.specs.Calls.{Add, Change, Drop, Clear, Load, Ask, refusal, fresh, after, present, edited}
use Rattle.model.specs.FarOff.{Alike, Spared}
use Rattle.model.specs.Grid.{grid_refusal, cells}
use Rattle.model.specs.Filling.{NoGrid, Begun, begin_refusal, row_refusal, row_into}
use Rattle.model.specs.RowCalls.{OnSurvey, Begin, session, fresh_session, session_after, rows_given, NoneBegins, rows_asked}
use Rattle.model.specs.GridReading.{grid_of_file, cells_of_file, some_length, grid_file_check, cells_read_refusal, cells_read_into}
use Rattle.model.specs.Decimal.{digits_of, places, decimal, signed_decimal, decimal_read}
use Rattle.model.specs.Esri.{cell_text, esri_text, esri_refusal, esri_into, cells_read}
use Rattle.model.specs.Program.{grid_program, esri_program}
use Rattle.model.specs.Examples.{two, five, ring, line, middle, kinds, crowd, crowded, StarredRows, stale, wide, aside, corners_of, square9, full, ends, ends_after, four, shown, trailer_of, heavy, square, corners, four_corners, lends, given, strip, edits, whole_input, grid_bytes, grid_of_two, fraction, oblong}

pub closed_rows : StarredRows
unfolding mean answer choice neighbours neighbourhood weighted_mean extent_of influence_at distance
closed_rows =
    ((refl, lit< tt), refl, (refl, lit< tt), refl, (refl, lit< tt), (refl, lit< tt), (refl, lit< tt), refl, refl, refl, refl, (refl, lit< tt), refl, refl, refl, refl, refl, (refl, lit< tt), refl, refl, refl)

-- a cosine above 1, one below it, R of the first point left out, the twelve points in reverse, corner to corner; ten within R0 go by R0, and eleven by D of the eleventh;
-- five within the R0 that is kept, all tapered
pub further : Is (mean (two 1 1 (pos 0) 2 2 (pos 100)) (location 0 0)) (pos 9829700) 491457
    × Is (mean (two 1 1 (pos 0) 3 0 (pos 100)) (location 0 0)) (pos 443873540) 22664297
    × (chosen_count line middle ≡ 4)
    × ((choice line middle).radius ≡ 2560)
    × Is (mean (survey_of (reverse ring)) middle) (pos 5) 2
    × (distance five (location 0 0) (point 4095 4095 (pos 0)) ≡ 1482548)
    × (chosen_count (crowd 10) crowded ≡ 10)
    × ((choice (crowd 10) crowded).radius ≡ 418219)
    × (chosen_count (crowd 11) crowded ≡ 10)
    × ((choice (crowd 11) crowded).radius ≡ 2816)
    × (chosen_count wide middle ≡ 5)
    × ((choice wide middle).radius ≡ 1708)
    × (kinds wide middle ≡ 2 ∷ 2 ∷ 2 ∷ 2 ∷ 2 ∷ [])
    × Is (mean wide middle) (pos 18) 1
    × (answer wide middle ≡ pos 4608)
unfolding mean answer choice neighbours extent_of distance tabulate
further = ((refl, lit< tt), (refl, lit< tt), refl, refl, (refl, lit< tt), refl, refl, refl, refl, refl, refl, refl, refl, (refl, lit< tt), refl)

-- §5: a value far off is altered, from 5 to -126. The mean lies halfway between two 256ths, so that a least value over all points would round the other way. Not spared is the location of the point itself
pub far_off : Alike (aside (pos 5)).contents (aside (negsuc 125)).contents
    × Spared (aside (pos 5)) (location 200 200) (aside (negsuc 125)).contents
    × (map (λ z. (choice (aside z) (location 200 200)).radius) (pos 5 ∷ negsuc 125 ∷ []) ≡ 11520 ∷ 11520 ∷ [])
    × (map (λ z. kinds (aside z) (location 200 200)) (pos 5 ∷ negsuc 125 ∷ []) ≡ (1 ∷ 1 ∷ 3 ∷ 3 ∷ []) ∷ (1 ∷ 1 ∷ 3 ∷ 3 ∷ []) ∷ [])
    × (neighbours (aside (pos 5)) (location 200 200) ≡ neighbours (aside (negsuc 125)) (location 200 200))
    × Is (mean (aside (negsuc 125)) (location 200 200)) (pos 23) 512
    × (map (λ z. answer (aside z) (location 200 200)) (pos 5 ∷ negsuc 125 ∷ []) ≡ pos 12 ∷ pos 12 ∷ [])
    × (Spared (aside (pos 5)) (location 227 236) (aside (negsuc 125)).contents → ⊥)
    × (map (λ z. answer (aside z) (location 227 236)) (pos 5 ∷ negsuc 125 ∷ []) ≡ pos 1280 ∷ negsuc 32255 ∷ [])
unfolding mean answer choice neighbours extent_of
far_off = (
  record { locations = refl },
  (inl refl, (inl refl, (inl refl, (inl refl, (inr refl, tt))))),
  refl,
  refl,
  refl,
  (refl, lit< tt),
  refl,
  (λ h. ⊎_elim (pos-ne-negsuc 5 125) true≢false h.1.1.1.1.0),
  refl,
)

-- no location, one and two; on a line, slanted and upright; the five and the twelve points; a lattice, of which no location on an edge is a corner; locations that cut off
-- more than one before them, on the lower and on the upper side; the whole domain; and a half, whose R0 is not 0
pub polygons : (corners_of [] ≡ [])
    × (corners_of (location 7 9 ∷ []) ≡ (7 ∷ 9 ∷ []) ∷ [])
    × (corners_of (location 7 9 ∷ location 8 3 ∷ []) ≡ (7 ∷ 9 ∷ []) ∷ (8 ∷ 3 ∷ []) ∷ (7 ∷ 9 ∷ []) ∷ [])
    × (map enclosed ([] ∷ (location 7 9 ∷ []) ∷ (location 7 9 ∷ location 8 3 ∷ []) ∷ []) ≡ 0 ∷ 0 ∷ 0 ∷ [])
    × (enclosed (location 0 4 ∷ location 3 3 ∷ location 6 2 ∷ location 12 0 ∷ []) ≡ 0)
    × (enclosed (location 5 0 ∷ location 5 7 ∷ location 5 4095 ∷ []) ≡ 0)
    × (corners_of (locations five.contents.points) ≡ (95 ∷ 100 ∷ []) ∷ (100 ∷ 95 ∷ []) ∷ (105 ∷ 100 ∷ []) ∷ (103 ∷ 104 ∷ []) ∷ (100 ∷ 105 ∷ []) ∷ (95 ∷ 100 ∷ []) ∷ [])
    × (enclosed (locations five.contents.points) ≡ 110)
    × (enclosed (locations ring) ≡ 148)
    × (corners_of square9 ≡ (0 ∷ 0 ∷ []) ∷ (2 ∷ 0 ∷ []) ∷ (2 ∷ 2 ∷ []) ∷ (0 ∷ 2 ∷ []) ∷ (0 ∷ 0 ∷ []) ∷ [])
    × (enclosed square9 ≡ 8)
    × (corners_of (location 0 10 ∷ location 1 6 ∷ location 2 4 ∷ location 3 3 ∷ location 4 0 ∷ []) ≡ (0 ∷ 10 ∷ []) ∷ (1 ∷ 6 ∷ []) ∷ (4 ∷ 0 ∷ []) ∷ (3 ∷ 3 ∷ []) ∷ (0 ∷ 10 ∷ []) ∷ [])
    × (corners_of (location 0 0 ∷ location 1 4 ∷ location 2 6 ∷ location 3 7 ∷ location 4 10 ∷ []) ≡ (0 ∷ 0 ∷ []) ∷ (3 ∷ 7 ∷ []) ∷ (4 ∷ 10 ∷ []) ∷ (1 ∷ 4 ∷ []) ∷ (0 ∷ 0 ∷ []) ∷ [])
    × (enclosed (location 0 0 ∷ location 0 4095 ∷ location 4095 0 ∷ location 4095 4095 ∷ []) ≡ 33538050)
    × (enclosed (location 1 1 ∷ location 2 3 ∷ location 2 4 ∷ []) ≡ 1)
    × (radius_of 1 3 ≡ 156)
unfolding polygon enclosed radius_of
polygons = (refl, refl, refl, refl, refl, refl, refl, refl, refl, refl, refl, refl, refl, refl, refl, refl)

-- the first refusal that applies, and what a list of calls leaves
pub calls : (refusal (Add 4096 0 (pos 128)) full ≡ 1)
    × (refusal (Add 255 0 (pos 128)) full ≡ 2)
    × (refusal (Add 255 0 (pos 127)) full ≡ 3)
    × (refusal (Add 256 0 (pos 127)) full ≡ 5)
    × (refusal (Change 5 5 (negsuc 128)) fresh ≡ 2)
    × (refusal (Change 5 5 (negsuc 127)) fresh ≡ 4)
    × (refusal (Drop 0 4095) fresh ≡ 4)
    × (lookup_refusal 0 4096 (settled fresh) ≡ 1)
    × (lookup_refusal 4095 4095 (settled fresh) ≡ 6)
    × (neighbours_refusal 0 0 9 (settled fresh) ≡ 6)
    × (neighbours_refusal 0 0 9 five ≡ 8)
    × (neighbours_refusal 0 0 10 five ≡ 0)
    × (present (Add 1 2 (pos 3) ∷ Add 1 2 (pos 4) ∷ Change 1 2 (pos 5) ∷ Add 0 9 (pos 1) ∷ Drop 7 7 ∷ Ask ∷ []) ≡ (two 0 9 (pos 1) 1 2 (pos 5)).contents)
    × (present (Add 1 2 (pos 3) ∷ Clear ∷ Add 2 1 (pos 4) ∷ Drop 2 1 ∷ Add 2 1 (pos 6) ∷ Load [] ∷ []) ≡ contents_of (point 2 1 (pos 6) ∷ []))
    × (edited (Add 1 2 (pos 3)) (settled fresh) ≡ survey_of (point 1 2 (pos 3) ∷ []))
    × (edited (Add 4096 2 (pos 3)) five ≡ five)
unfolding refusal lookup_refusal neighbours_refusal present edited tabulate
calls = (refl, refl, refl, refl, refl, refl, refl, refl, refl, refl, refl, refl, refl, refl, refl, refl)

-- zeros of no point; R0 of one point and of two; a dropped corner shrinks the rectangle, but not where another point holds its edge; a change moves the least value
-- inwards; a clear and a load renew all; a refused call of each kind renews nothing
pub kept : (ends (settled fresh) ≡ pos 0 ∷ pos 0 ∷ pos 0 ∷ pos 0 ∷ pos 0 ∷ pos 0 ∷ pos 0 ∷ [])
    × (ends (survey_of (point 5 6 (negsuc 6) ∷ [])) ≡ pos 5 ∷ pos 5 ∷ pos 6 ∷ pos 6 ∷ negsuc 6 ∷ negsuc 6 ∷ pos 0 ∷ [])
    × (ends (two 0 4095 (pos 127) 4095 0 (negsuc 127)) ≡ pos 0 ∷ pos 4095 ∷ pos 0 ∷ pos 4095 ∷ negsuc 127 ∷ pos 127 ∷ pos 0 ∷ [])
    × (ends_after [] ≡ four)
    × (ends_after (Drop 30 60 ∷ []) ≡ pos 10 ∷ pos 20 ∷ pos 20 ∷ pos 50 ∷ pos 1 ∷ pos 5 ∷ pos 1845 ∷ [])
    × (ends_after (Add 30 20 (pos 5) ∷ Drop 10 20 ∷ []) ≡ pos 12 ∷ pos 30 ∷ pos 20 ∷ pos 60 ∷ negsuc 3 ∷ pos 5 ∷ pos 3675 ∷ [])
    × (ends_after (Change 30 60 (pos 0) ∷ []) ≡ pos 10 ∷ pos 30 ∷ pos 20 ∷ pos 60 ∷ pos 0 ∷ pos 5 ∷ pos 2491 ∷ [])
    × (ends_after (Clear ∷ []) ≡ ends (settled fresh))
    × (ends_after (Load (file_of (point 1 2 (pos 3) ∷ point 2 1 (pos 4) ∷ point 2 2 (pos 4) ∷ [])) ∷ []) ≡ pos 1 ∷ pos 2 ∷ pos 1 ∷ pos 2 ∷ pos 3 ∷ pos 4 ∷ pos 156 ∷ [])
    × (ends_after (Add 4096 0 (pos 9) ∷ Add 0 0 (pos 128) ∷ Add 10 20 (pos 9) ∷ Change 0 0 (pos 9) ∷ Drop 0 0 ∷ Load [] ∷ Ask ∷ []) ≡ four)
    × (ends (edited (Add 4095 4095 (pos 9)) (settled full)) ≡ pos 0 ∷ pos 255 ∷ pos 0 ∷ pos 0 ∷ pos 0 ∷ pos 0 ∷ pos 0 ∷ [])
    × (edited (Drop 0 0) stale ≡ stale)
    × (edited (Change 7 8 (pos 0)) stale ≡ survey_of (point 7 8 (pos 0) ∷ []))
unfolding present edited extent_of file_of tabulate
kept = (refl, refl, refl, refl, refl, refl, refl, refl, refl, refl, refl, refl, refl)

-- a lent list: of eleven records the first two are written, nine are too few, and a refused lookup writes none
pub lent : (neighbours_into shown (two 3 0 (pos 0) 6 0 (pos 90)) 0 0 (replicate 11 []) ≡ (3 ∷ 0 ∷ 768 ∷ 1 ∷ []) ∷ (6 ∷ 0 ∷ 1536 ∷ 1 ∷ []) ∷ replicate 9 [])
    × (neighbours_into shown (two 3 0 (pos 0) 6 0 (pos 90)) 0 0 (replicate 9 []) ≡ replicate 9 [])
    × (neighbours_into shown (settled fresh) 0 0 (replicate 11 []) ≡ replicate 11 [])
unfolding neighbours_into extent_of
lent = (refl, refl, refl)

-- 12 to 65,536 bytes; at most 256 records; a distance back to before the first byte; the sum modulo 65,536; 14 before 15 within a record, and record by record
pub files : (map wrong_size (11 ∷ 12 ∷ 65536 ∷ 65537 ∷ []) ≡ true ∷ false ∷ false ∷ true ∷ [])
    × (file_refusal (trailer_of 1 1 0) ≡ 11)
    × (file_refusal (file_of full.points) ≡ 0)
    × (file_refusal (trailer_of 0 1 5) ≡ 12)
    × (file_refusal (file_of heavy) ≡ 0)
    × (fault (point 5 0 (pos 0) ∷ point 4 4096 (pos 0) ∷ []) ≡ 14)
    × (fault (point 5 0 (pos 0) ∷ point 5 0 (pos 0) ∷ point 4096 0 (pos 0) ∷ []) ≡ 15)
unfolding file_refusal file_of fault tabulate
files = (refl, refl, refl, refl, refl, refl, refl)

-- the program on no bytes, on twelve that are no file, and on an empty file with nothing before it: `refused 9`, `refused 10`, `refused 7`
pub refusals : (grid_program [] ≡ 114 ∷ 101 ∷ 102 ∷ 117 ∷ 115 ∷ 101 ∷ 100 ∷ 32 ∷ 57 ∷ 10 ∷ [])
    × (grid_program (replicate 12 0) ≡ 114 ∷ 101 ∷ 102 ∷ 117 ∷ 115 ∷ 101 ∷ 100 ∷ 32 ∷ 49 ∷ 48 ∷ 10 ∷ [])
    × (grid_program (trailer_of 0 0 0) ≡ 114 ∷ 101 ∷ 102 ∷ 117 ∷ 115 ∷ 101 ∷ 100 ∷ 32 ∷ 55 ∷ 10 ∷ [])
unfolding grid_program
refusals = (refl, refl, refl)

-- 7 before 6 before 8; cells row by row, x ascending within a row
pub grids : (map (λ g. grid_refusal g (settled fresh) 0) (square 0 0 0 1 ∷ square 0 0 1 65 ∷ square 0 0 1 0 ∷ square 4096 0 1 1 ∷ square 1 0 65 64 ∷ square 2 0 65535 2 ∷ []) ≡ 7 ∷ 7 ∷ 7 ∷ 7 ∷ 7 ∷ 7 ∷ [])
    × (grid_refusal (square 0 0 65 64) (settled fresh) 0 ≡ 6)
    × (grid_refusal (square 0 0 65 64) five 4095 ≡ 8)
    × (grid_refusal (square 0 0 65 64) five 4096 ≡ 0)
    × (cells corners (square 5 5 2 2) ≡ pos 256 ∷ pos 512 ∷ pos 768 ∷ pos 1024 ∷ [])
unfolding grid_refusal cells extent_of
grids = (refl, refl, refl, refl, refl)

-- 7 before 6, and no other grid refused; 17 before 8, with no grid begun and after the last row, and 8 by the columns; a row at the front of the lent cells, and refused, 8 or 17, none;
-- over what was present at the begin, whatever comes between; refused, a row is still the next one, and a begin keeps the grid, finished or not; accepted, it starts at row 0;
-- no row where no grid is begun; and what the calls leave
pub rows : (map (λ g. begin_refusal g (settled fresh)) (square 0 0 0 1 ∷ square 0 0 65 64 ∷ []) ≡ 7 ∷ 6 ∷ [])
    × (map (λ g. begin_refusal g corners) (strip 1 2 ∷ strip 64 1 ∷ square 0 0 65 64 ∷ []) ≡ 0 ∷ 0 ∷ 0 ∷ [])
    × (map (row_refusal NoGrid) (0 ∷ 64 ∷ []) ≡ 17 ∷ 17 ∷ [])
    × (map (row_refusal (Begun corners (square 5 5 2 2) 1)) (0 ∷ 1 ∷ 2 ∷ 3 ∷ []) ≡ 8 ∷ 8 ∷ 0 ∷ 0 ∷ [])
    × (map (row_refusal (Begun corners (square 5 5 2 2) 2)) (0 ∷ 2 ∷ []) ≡ 17 ∷ 17 ∷ [])
    × (map (row_refusal (Begun corners (strip 1 2) 1)) (0 ∷ 1 ∷ []) ≡ 8 ∷ 0 ∷ [])
    × (map (row_refusal (Begun corners (strip 2 1) 0)) (1 ∷ 2 ∷ []) ≡ 8 ∷ 0 ∷ [])
    × (row_refusal (Begun corners (strip 2 1) 1) 2 ≡ 17)
    × (row_into (Begun corners (square 5 5 2 2) 1) (pos 9 ∷ pos 9 ∷ pos 9 ∷ []) ≡ pos 768 ∷ pos 1024 ∷ pos 9 ∷ [])
    × (row_into (Begun corners (square 5 5 2 2) 1) (pos 9 ∷ []) ≡ pos 9 ∷ [])
    × (row_into (Begun corners (square 5 5 2 2) 2) (pos 9 ∷ pos 9 ∷ []) ≡ pos 9 ∷ pos 9 ∷ [])
    × (row_into NoGrid (pos 9 ∷ []) ≡ pos 9 ∷ [])
    × (rows_given (Begin (square 5 5 2 2) ∷ lends 2 ∷ edits ++ lends 3 ∷ lends 2 ∷ []) four_corners ≡ given 0 (pos 256) (pos 512) ∷ given 1 (pos 768) (pos 1024) ∷ [])
    × (rows_given (Begin (square 5 5 2 2) ∷ lends 1 ∷ lends 2 ∷ Begin (square 5 5 0 2) ∷ lends 0 ∷ lends 2 ∷ []) four_corners ≡ given 0 (pos 256) (pos 512) ∷ given 1 (pos 768) (pos 1024) ∷ [])
    × (rows_given (Begin (square 5 5 2 2) ∷ lends 2 ∷ Begin (square 5 5 2 2) ∷ lends 2 ∷ []) four_corners ≡ given 0 (pos 256) (pos 512) ∷ given 0 (pos 256) (pos 512) ∷ [])
    × (rows_given (Begin (square 5 5 2 2) ∷ lends 2 ∷ lends 2 ∷ OnSurvey Clear ∷ Begin (square 5 5 2 2) ∷ lends 2 ∷ []) four_corners ≡ given 0 (pos 256) (pos 512) ∷ given 1 (pos 768) (pos 1024) ∷ [])
    × (rows_given (Begin (strip 2 1) ∷ lends 2 ∷ OnSurvey (Change 5 5 (pos 9)) ∷ Begin (square 5 5 2 2) ∷ lends 2 ∷ []) four_corners ≡ given 0 (pos 256) (pos 512) ∷ given 0 (pos 2304) (pos 512) ∷ [])
    × (rows_given (lends 2 ∷ Begin (square 5 5 2 2) ∷ lends 2 ∷ []) fresh_session ≡ [])
    × (session_after (Begin (square 5 5 2 2) ∷ lends 2 ∷ edits ++ lends 1 ∷ []) four_corners ≡ session fresh (Begun corners (square 5 5 2 2) 1))
unfolding row_refusal row_into rows_given session_after file_of extent_of
rows = (refl, refl, refl, refl, refl, refl, refl, refl, refl, refl, refl, refl, refl, refl, refl, refl, refl, refl, refl)

-- rows of every kind, edits, and begins that are refused, 7 and 6, are among the calls up to the next accepted begin; an accepted one is not
pub rows_between : NoneBegins corners.contents (Begin (square 5 5 0 2) ∷ lends 0 ∷ lends 2 ∷ lends 2 ∷ lends 2 ∷ edits ++ Begin (square 5 5 2 2) ∷ lends 1 ∷ [])
    × (NoneBegins corners.contents (OnSurvey Ask ∷ Begin (square 5 5 2 2) ∷ []) → ⊥)
    × (rows_asked 2 (lends 1 ∷ lends 2 ∷ OnSurvey Clear ∷ Begin (square 5 5 2 2) ∷ lends 3 ∷ []) ≡ 2)
unfolding after file_of
rows_between = ((λ h. absurd (omega arith), (λ h. absurd (omega arith), tt)), λ h. h.0 refl, refl)

pub whole_case : grid_program whole_input
    ≡ 0xF9 ∷ 0 ∷ 0xF9 ∷ 0 ∷ 0 ∷ 0 ∷ 0 ∷ 0 ∷ 0 ∷ 1 ∷ 0 ∷ 1 ∷ 0 ∷ 2 ∷ 0 ∷ 1 ∷ 0 ∷ 0 ∷ 0 ∷ 4 ∷ 0x52 ∷ 0x4C ∷ 0x47 ∷ 0x31 ∷ []
unfolding grid_program
whole_case = refl

-- reading a grid file: the lengths that some grid has (of 1, 2, 64, 65, 4,096 cells), and that none has (no cell, an odd byte, 67 cells, above 4,096);
-- each refusal, and which of two comes first; the six numbers and the cells; lent cells that are too few, and more
pub readings : (map some_length (22 ∷ 24 ∷ 148 ∷ 150 ∷ 8212 ∷ []) ≡ true ∷ true ∷ true ∷ true ∷ true ∷ [])
    × (map some_length (0 ∷ 20 ∷ 21 ∷ 23 ∷ 154 ∷ 8213 ∷ 8214 ∷ []) ≡ false ∷ false ∷ false ∷ false ∷ false ∷ false ∷ false ∷ [])
    × (grid_file_check grid_of_two 0 ≡ 0)
    × (grid_file_check (grid_bytes (1 ∷ []) 0 1 4 0x32) 0 ≡ 9)
    × (grid_file_check (grid_bytes (1 ∷ 2 ∷ 3 ∷ 4 ∷ []) 0 1 4 0x32) 0 ≡ 10)
    × (grid_file_check (grid_bytes (1 ∷ 2 ∷ 3 ∷ 4 ∷ []) 65 1 3 0x31) 0 ≡ 7)
    × (grid_file_check (grid_bytes (1 ∷ 2 ∷ 3 ∷ 4 ∷ []) 2 1 2 0x31) 0 ≡ 12)
    × (grid_file_check (grid_bytes (1 ∷ 2 ∷ 3 ∷ 4 ∷ 5 ∷ 6 ∷ []) 2 1 4 0x31) 0 ≡ 12)
    × (grid_file_check (grid_bytes (1 ∷ 2 ∷ []) 2 1 4 0x31) 0 ≡ 12)
    × (grid_of_file grid_of_two ≡ record { x0 = 7; y0 = 258; step_x = 3; step_y = 4; columns = 2; rows = 1 })
    × (cells_of_file grid_of_two ≡ negsuc 2 ∷ pos 261 ∷ [])
    × (map (cells_read_refusal grid_of_two) (0 ∷ 1 ∷ 2 ∷ 3 ∷ []) ≡ 8 ∷ 8 ∷ 0 ∷ 0 ∷ [])
    × (cells_read_into grid_of_two (pos 9 ∷ pos 9 ∷ pos 9 ∷ []) ≡ negsuc 2 ∷ pos 261 ∷ pos 9 ∷ [])
    × (cells_read_into grid_of_two (pos 9 ∷ []) ≡ pos 9 ∷ [])
unfolding some_length grid_file_check cells_of_file cells_read_refusal cells_read_into
readings = (refl, refl, refl, refl, refl, refl, refl, refl, refl, refl, refl, refl, refl, refl)

-- numbers in decimal: one digit, the seam at ten, 64 bits, a sign, leading zeros up to a width
pub decimals : (decimal 0 ≡ 48 ∷ [])
    × (decimal 9 ≡ 57 ∷ [])
    × (decimal 10 ≡ 49 ∷ 48 ∷ [])
    × (decimal 18446744073709551615 ≡ 49 ∷ 56 ∷ 52 ∷ 52 ∷ 54 ∷ 55 ∷ 52 ∷ 52 ∷ 48 ∷ 55 ∷ 51 ∷ 55 ∷ 48 ∷ 57 ∷ 53 ∷ 53 ∷ 49 ∷ 54 ∷ 49 ∷ 53 ∷ [])
    × (signed_decimal (pos 127) ≡ 49 ∷ 50 ∷ 55 ∷ [])
    × (signed_decimal (negsuc 0) ≡ 45 ∷ 49 ∷ [])
    × (digits_of 4 7 ≡ 48 ∷ 48 ∷ 48 ∷ 55 ∷ [])
unfolding digits_of places
decimals = (refl, refl, refl, refl, refl, refl, refl)

-- decimals read: `12`, `-0.50`, `007.5`; and `-`, `.5`, `5.`, `1.2.3`, `+1`, `1 2` and no code at all, which are none
pub decimals_read : (decimal_read (49 ∷ 50 ∷ []) ≡ fraction (pos 12) 1)
    × (decimal_read (45 ∷ 48 ∷ 46 ∷ 53 ∷ 48 ∷ []) ≡ fraction (negsuc 49) 100)
    × (decimal_read (48 ∷ 48 ∷ 55 ∷ 46 ∷ 53 ∷ []) ≡ fraction (pos 75) 10)
    × (map decimal_read ((45 ∷ []) ∷ (46 ∷ 53 ∷ []) ∷ (53 ∷ 46 ∷ []) ∷ (49 ∷ 46 ∷ 50 ∷ 46 ∷ 51 ∷ []) ∷ (43 ∷ 49 ∷ []) ∷ (49 ∷ 32 ∷ 50 ∷ []) ∷ [] ∷ []) ≡ replicate 7 none)
unfolding decimal_read
decimals_read = (refl, refl, refl, refl)

-- cells: 0, which has no sign; 1/256; the greatest below 127; -1/256 and -1/2, which keep their sign before a whole part of 0; and -128, the longest
pub cell_texts : (cell_text (pos 0) ≡ 48 ∷ 46 ∷ 48 ∷ 48 ∷ 48 ∷ 48 ∷ 48 ∷ 48 ∷ 48 ∷ 48 ∷ [])
    × (cell_text (pos 1) ≡ 48 ∷ 46 ∷ 48 ∷ 48 ∷ 51 ∷ 57 ∷ 48 ∷ 54 ∷ 50 ∷ 53 ∷ [])
    × (cell_text (pos 32511) ≡ 49 ∷ 50 ∷ 54 ∷ 46 ∷ 57 ∷ 57 ∷ 54 ∷ 48 ∷ 57 ∷ 51 ∷ 55 ∷ 53 ∷ [])
    × (cell_text (negsuc 0) ≡ 45 ∷ 48 ∷ 46 ∷ 48 ∷ 48 ∷ 51 ∷ 57 ∷ 48 ∷ 54 ∷ 50 ∷ 53 ∷ [])
    × (cell_text (negsuc 127) ≡ 45 ∷ 48 ∷ 46 ∷ 53 ∷ 48 ∷ 48 ∷ 48 ∷ 48 ∷ 48 ∷ 48 ∷ 48 ∷ [])
    × (cell_text (negsuc 32767) ≡ 45 ∷ 49 ∷ 50 ∷ 56 ∷ 46 ∷ 48 ∷ 48 ∷ 48 ∷ 48 ∷ 48 ∷ 48 ∷ 48 ∷ 48 ∷ [])
unfolding digits_of places
cell_texts = (refl, refl, refl, refl, refl, refl)

-- 7 before 16 before 6 before 8, 16 of one cell too; rows from the highest y down; one byte short nothing is written, and what is lent beyond the text stays
pub texts : (map (λ g. esri_refusal g (settled fresh) 0) (oblong 0 ∷ oblong 2 ∷ oblong 1 ∷ square 5 5 2 2 ∷ []) ≡ 7 ∷ 16 ∷ 16 ∷ 6 ∷ [])
    × (map (esri_refusal (square 5 5 2 2) corners) (0 ∷ 113 ∷ 114 ∷ 115 ∷ []) ≡ 8 ∷ 8 ∷ 0 ∷ 0 ∷ [])
    × (esri_text corners (square 5 5 2 2) ≡
    110 ∷ 99 ∷ 111 ∷ 108 ∷ 115 ∷ 32 ∷ 50 ∷ 10
    ∷ 110 ∷ 114 ∷ 111 ∷ 119 ∷ 115 ∷ 32 ∷ 50 ∷ 10
    ∷ 120 ∷ 108 ∷ 108 ∷ 99 ∷ 101 ∷ 110 ∷ 116 ∷ 101 ∷ 114 ∷ 32 ∷ 53 ∷ 10
    ∷ 121 ∷ 108 ∷ 108 ∷ 99 ∷ 101 ∷ 110 ∷ 116 ∷ 101 ∷ 114 ∷ 32 ∷ 53 ∷ 10
    ∷ 99 ∷ 101 ∷ 108 ∷ 108 ∷ 115 ∷ 105 ∷ 122 ∷ 101 ∷ 32 ∷ 50 ∷ 10
    ∷ 78 ∷ 79 ∷ 68 ∷ 65 ∷ 84 ∷ 65 ∷ 95 ∷ 118 ∷ 97 ∷ 108 ∷ 117 ∷ 101 ∷ 32 ∷ 45 ∷ 57 ∷ 57 ∷ 57 ∷ 57 ∷ 10
    ∷ 51 ∷ 46 ∷ 48 ∷ 48 ∷ 48 ∷ 48 ∷ 48 ∷ 48 ∷ 48 ∷ 48 ∷ 32 ∷ 52 ∷ 46 ∷ 48 ∷ 48 ∷ 48 ∷ 48 ∷ 48 ∷ 48 ∷ 48 ∷ 48 ∷ 10
    ∷ 49 ∷ 46 ∷ 48 ∷ 48 ∷ 48 ∷ 48 ∷ 48 ∷ 48 ∷ 48 ∷ 48 ∷ 32 ∷ 50 ∷ 46 ∷ 48 ∷ 48 ∷ 48 ∷ 48 ∷ 48 ∷ 48 ∷ 48 ∷ 48 ∷ 10
    ∷ [])
    × (esri_into corners (square 5 5 2 2) (replicate 113 9) ≡ replicate 113 9)
    × (esri_into corners (square 5 5 2 2) (replicate 116 9) ≡ esri_text corners (square 5 5 2 2) ++ 9 ∷ 9 ∷ [])
    × (esri_into corners (oblong 2) (replicate 116 9) ≡ replicate 116 9)
    × (cells_read (esri_text corners (square 5 5 2 2)) ≡ (fraction (pos 300000000) 100000000 ∷ fraction (pos 400000000) 100000000 ∷ []) ∷ (fraction (pos 100000000) 100000000 ∷ fraction (pos 200000000) 100000000 ∷ []) ∷ [])
unfolding esri_refusal esri_text esri_into cells_read extent_of
texts = (refl, refl, refl, refl, refl, refl, refl)

-- document 01's whole case as an Esri ASCII grid; and the refusals of its program: `refused 9`, and `refused 16` of the case with unlike steps
pub whole_case_text : (esri_program whole_input ≡
    110 ∷ 99 ∷ 111 ∷ 108 ∷ 115 ∷ 32 ∷ 50 ∷ 10
    ∷ 110 ∷ 114 ∷ 111 ∷ 119 ∷ 115 ∷ 32 ∷ 49 ∷ 10
    ∷ 120 ∷ 108 ∷ 108 ∷ 99 ∷ 101 ∷ 110 ∷ 116 ∷ 101 ∷ 114 ∷ 32 ∷ 48 ∷ 10
    ∷ 121 ∷ 108 ∷ 108 ∷ 99 ∷ 101 ∷ 110 ∷ 116 ∷ 101 ∷ 114 ∷ 32 ∷ 48 ∷ 10
    ∷ 99 ∷ 101 ∷ 108 ∷ 108 ∷ 115 ∷ 105 ∷ 122 ∷ 101 ∷ 32 ∷ 49 ∷ 10
    ∷ 78 ∷ 79 ∷ 68 ∷ 65 ∷ 84 ∷ 65 ∷ 95 ∷ 118 ∷ 97 ∷ 108 ∷ 117 ∷ 101 ∷ 32 ∷ 45 ∷ 57 ∷ 57 ∷ 57 ∷ 57 ∷ 10
    ∷ 45 ∷ 55 ∷ 46 ∷ 48 ∷ 48 ∷ 48 ∷ 48 ∷ 48 ∷ 48 ∷ 48 ∷ 48 ∷ 32 ∷ 45 ∷ 55 ∷ 46 ∷ 48 ∷ 48 ∷ 48 ∷ 48 ∷ 48 ∷ 48 ∷ 48 ∷ 48 ∷ 10
    ∷ [])
    × (esri_program [] ≡ 114 ∷ 101 ∷ 102 ∷ 117 ∷ 115 ∷ 101 ∷ 100 ∷ 32 ∷ 57 ∷ 10 ∷ [])
    × (esri_program (set whole_input 7 2) ≡ 114 ∷ 101 ∷ 102 ∷ 117 ∷ 115 ∷ 101 ∷ 100 ∷ 32 ∷ 49 ∷ 54 ∷ 10 ∷ [])
unfolding esri_program
whole_case_text = (refl, refl, refl)
