-- What the closed cases speak of, which are theorems in proofs/Examples.antt: surveys, lists of calls, files and grids; and the starred rows of the bench table, as one statement.
use Rattle.std.specs.Prelude.{ℕ, ◌+◌, ◌≡◌, false, List, [], ◌∷◌, ◌++◌, map, ℤ, pos, negsuc, replicate}
use Rattle.std.proofs.Math.Option.{Option, some}
use Rattle.model.specs.Lists.{tabulate}
use Rattle.model.specs.Point.{Location, Point, Contents, State, point, location, contents_of}
use Rattle.model.specs.Distance.{distance}
use Rattle.model.specs.Polygon.{polygon}
use Rattle.model.specs.Extent.{settled, survey_of}
use Rattle.model.specs.Choice.{choice}
use Rattle.model.specs.Influence.{influence_at, kind}
use Rattle.model.specs.Fraction.{Signed, Is}
use Rattle.model.specs.Weight.{Neighbourhood, neighbourhood}
use Rattle.model.specs.Mean.{weighted_mean, mean}
use Rattle.model.specs.Answer.{Neighbour, answer, chosen_count, neighbours}
use Rattle.model.specs.SurveyFile.{file_of}
use Rattle.model.specs.Calls.{Call, Add, Change, Drop, Clear, Load, Ask, present}
use Rattle.model.specs.Grid.{Grid}
use Rattle.model.specs.Filling.{GivenRow, NoGrid}
use Rattle.model.specs.RowCalls.{RowCall, OnSurvey, NextRow, Session, session}

abbrev pub two : ℕ → ℕ → ℤ → ℕ → ℕ → ℤ → State
two x y z u v w = survey_of (point x y z ∷ point u v w ∷ [])

abbrev pub five : State
five = survey_of (point 95 100 (pos 0) ∷ point 100 95 (pos 0) ∷ point 100 105 (pos 0) ∷ point 103 104 (pos 98) ∷ point 105 100 (pos 0) ∷ [])

-- the twelve whole locations at distance 5 from (100,100)
abbrev pub ring : List Point
ring =
    point 95 100 (pos 1) ∷ point 96 97 (pos 2) ∷ point 96 103 (pos 3) ∷ point 97 96 (pos 4) ∷ point 97 104 (pos 5) ∷ point 100 95 (pos 6)
    ∷ point 100 105 (pos 7) ∷ point 103 96 (pos 8) ∷ point 103 104 (pos 9) ∷ point 104 97 (pos 10) ∷ point 104 103 (pos 11) ∷ point 105 100 (pos 12)
    ∷ []

abbrev pub twelve : State
twelve = survey_of ring

-- four in a row beside (100,100), and one farther off
abbrev pub line : State
line = survey_of (point 101 100 (pos 0) ∷ point 102 100 (pos 0) ∷ point 103 100 (pos 0) ∷ point 104 100 (pos 0) ∷ point 110 100 (pos 0) ∷ [])

abbrev pub middle : Location
middle = location 100 100

abbrev pub kinds : State → Location → List ℕ
kinds s p = map (λ (n : Neighbour). n.kind) (neighbours s p)

-- the same neighbours with every cosine 1, so that each directional term is 0 and each weight s²
abbrev pub undirected : Neighbourhood → Neighbourhood
undirected h = record { count = h.count; influence = h.influence; excess = λ i j. 0; product = h.product; value = h.value }

-- n points beside (2000,2000), one step apart, and the domain's corners, so that R0 is wide
abbrev pub crowd : ℕ → State
crowd n = survey_of (point 0 0 (pos 0) ∷ point 0 4095 (pos 0) ∷ tabulate (λ i. point (2001 + i) 2000 (pos 0)) n ++ point 4095 0 (pos 0) ∷ point 4095 4095 (pos 0) ∷ [])

abbrev pub crowded : Location
crowded = location 2000 2000

-- the starred rows but the first, which is a law over every location
abbrev pub StarredRows : Type 0
StarredRows =
    Is (mean (two 3 0 (pos 0) 6 0 (pos 90)) (location 0 0)) (pos 18) 1
    × (answer (two 3 0 (pos 0) 6 0 (pos 90)) (location 0 0) ≡ pos 4608)
    × Is (mean (two 0 0 (pos 0) 9 0 (pos 90)) (location 3 0)) (pos 70) 3
    × (answer (two 0 0 (pos 0) 9 0 (pos 90)) (location 3 0) ≡ pos 5973)
    × Is (weighted_mean (undirected (neighbourhood (two 3 0 (pos 0) 6 0 (pos 90)) (location 0 0)))) (pos 18) 1
    × Is (weighted_mean (undirected (neighbourhood (two 0 0 (pos 0) 9 0 (pos 90)) (location 3 0)))) (pos 18) 1
    × Is (mean (two 0 0 (pos 0) 10 0 (pos 10)) (location 5 0)) (pos 5) 1
    × (answer (two 0 0 (pos 0) 10 0 (pos 10)) (location 5 0) ≡ pos 1280)
    × (chosen_count five middle ≡ 4)
    × ((choice five middle).radius ≡ 1280)
    × (kinds five middle ≡ 3 ∷ 3 ∷ 3 ∷ 3 ∷ [])
    × Is (mean five middle) (pos 49) 2
    × (answer five middle ≡ pos 6272)
    × (twelve.extent.radius ≡ 948)
    × (chosen_count twelve middle ≡ 4)
    × ((choice twelve middle).radius ≡ 1280)
    × (kinds twelve middle ≡ 3 ∷ 3 ∷ 3 ∷ 3 ∷ [])
    × Is (mean twelve middle) (pos 5) 2
    × (answer twelve middle ≡ pos 640)
    × (map (λ d. kind (influence_at false 1708 d)) (569 ∷ 570 ∷ 1707 ∷ 1708 ∷ []) ≡ 1 ∷ 2 ∷ 2 ∷ 3 ∷ [])
    × (map (distance five (location 0 0)) (point 0 0 (pos 0) ∷ point 1 0 (pos 0) ∷ point 1 1 (pos 0) ∷ []) ≡ 0 ∷ 256 ∷ 362 ∷ [])

-- a state with other numbers kept than those of its points
abbrev pub stale : State
stale = record { contents = contents_of (point 7 8 (pos 9) ∷ []); extent = record { least_x = 1; greatest_x = 2; least_y = 3; greatest_y = 4; least_z = pos 5; greatest_z = pos 6; radius = 1708 } }

-- the five points with R0 1,708 kept beside them
abbrev pub wide : State
wide = record { contents = five.contents; extent = stale.extent }

-- two points beside (200,200), three at one distance from it, the last of which is not chosen there; its value is z
abbrev pub aside : ℤ → State
aside z = survey_of (point 199 200 (pos 0) ∷ point 200 155 (pos 5) ∷ point 200 245 (pos 5) ∷ point 215 200 (pos 4) ∷ point 227 236 z ∷ [])

abbrev pub corner : Location → List ℕ
corner a = a.x ∷ a.y ∷ []

-- the corners of the polygon around locations
abbrev pub corners_of : List Location → List (List ℕ)
corners_of l = map corner (polygon l)

-- three by three locations of a lattice
abbrev pub square9 : List Location
square9 = location 0 0 ∷ location 0 1 ∷ location 0 2 ∷ location 1 0 ∷ location 1 1 ∷ location 1 2 ∷ location 2 0 ∷ location 2 1 ∷ location 2 2 ∷ []

-- as many points as a survey holds
abbrev pub full : Contents
full = contents_of (tabulate (λ i. point i 0 (pos 0)) 256)

-- what is kept, as a list of numbers
abbrev pub ends : State → List ℤ
ends s = let e = s.extent in pos e.least_x ∷ pos e.greatest_x ∷ pos e.least_y ∷ pos e.greatest_y ∷ e.least_z ∷ e.greatest_z ∷ pos e.radius ∷ []

-- what is kept after four adds, two of them of corner points, and the calls cs
abbrev pub ends_after : List Call → List ℤ
ends_after cs = ends (settled (present (Add 10 20 (pos 5) ∷ Add 30 60 (negsuc 3) ∷ Add 20 50 (pos 1) ∷ Add 12 40 (pos 2) ∷ cs)))

abbrev pub four : List ℤ
four = pos 10 ∷ pos 30 ∷ pos 20 ∷ pos 60 ∷ negsuc 3 ∷ pos 5 ∷ pos 2491 ∷ []

-- a neighbour record as numbers
abbrev pub shown : Neighbour → List ℕ
shown n = n.x ∷ n.y ∷ n.distance ∷ n.kind ∷ []

-- what follows a count c and a distance back b of one byte each, with a sum of 0
abbrev pub trailer_of : ℕ → ℕ → ℕ → List ℕ
trailer_of c c' b = c ∷ c' ∷ 0 ∷ 0 ∷ 0 ∷ b ∷ 0 ∷ 0 ∷ 0x52 ∷ 0x4C ∷ 0x53 ∷ 0x31 ∷ []

-- 96 records whose bytes have a sum above 65,535
abbrev pub heavy : List Point
heavy = tabulate (λ i. point (4000 + i) 4095 (negsuc 0)) 96

-- a grid at (x, y) with a step and a count for both axes
abbrev pub square : ℕ → ℕ → ℕ → ℕ → Grid
square x y step n = record { x0 = x; y0 = y; step_x = step; step_y = step; columns = n; rows = n }

abbrev pub corners : State
corners = survey_of (point 5 5 (pos 1) ∷ point 5 7 (pos 3) ∷ point 7 5 (pos 2) ∷ point 7 7 (pos 4) ∷ [])

-- four points and no grid begun; a row call that lends n cells
abbrev pub four_corners : Session
four_corners = session corners.contents NoGrid

abbrev pub lends : ℕ → RowCall
lends n = NextRow (replicate n (pos 9))

-- a row by its index and its cells
abbrev pub given : ℕ → ℤ → ℤ → GivenRow
given r a b = record { index = r; cells = a ∷ b ∷ [] }

-- a grid at (5, 5) with steps of 2
abbrev pub strip : ℕ → ℕ → Grid
strip m n = record { x0 = 5; y0 = 5; step_x = 2; step_y = 2; columns = m; rows = n }

-- every call on the survey, accepted and, but for one that only asks and a clear, refused
abbrev pub edits : List RowCall
edits = map OnSurvey (Add 6 6 (pos 9) ∷ Add 6 6 (pos 8) ∷ Change 5 5 (pos 9) ∷ Change 4 4 (pos 9) ∷ Drop 7 7 ∷ Drop 7 7 ∷ Load (file_of (point 5 5 (pos 8) ∷ [])) ∷ Load [] ∷ Ask ∷ Clear ∷ [])

-- document 01's whole case of the grid program
abbrev pub whole_input : List ℕ
whole_input = 0 ∷ 0 ∷ 0 ∷ 0 ∷ 0 ∷ 1 ∷ 0 ∷ 1 ∷ 0 ∷ 2 ∷ 0 ∷ 1 ∷ 0 ∷ 3 ∷ 0 ∷ 0 ∷ 0xF9 ∷ 0 ∷ 1 ∷ 0 ∷ 0 ∷ 0 ∷ 5 ∷ 0 ∷ 0xFC ∷ 0x52 ∷ 0x4C ∷ 0x53 ∷ 0x31 ∷ []

-- a grid file of the cells l, two numbers c and r of columns and rows, a back distance b and the magic's last byte m
abbrev pub grid_bytes : List ℕ → ℕ → ℕ → ℕ → ℕ → List ℕ
grid_bytes l c r b m = l ++ (0 ∷ 7 ∷ 1 ∷ 2 ∷ 0 ∷ 3 ∷ 0 ∷ 4 ∷ 0 ∷ c ∷ 0 ∷ r ∷ 0 ∷ 0 ∷ 0 ∷ b ∷ 0x52 ∷ 0x4C ∷ 0x47 ∷ m ∷ [])

-- two cells, -3 and 261 256ths
abbrev pub grid_of_two : List ℕ
grid_of_two = grid_bytes (0xFF ∷ 0xFD ∷ 1 ∷ 5 ∷ []) 2 1 4 0x31

abbrev pub fraction : ℤ → ℕ → Option Signed
fraction a b = some (record { top = a; bot = b })

-- the grid of two by two with unlike steps
abbrev pub oblong : ℕ → Grid
oblong n = record { x0 = 5; y0 = 5; step_x = 2; step_y = 3; columns = n; rows = n }
