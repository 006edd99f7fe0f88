-- Where a point comes in the order as one number, its key: d², then x, then y, then its index in the arrays, by which those that the order does not part stay as they come.
use Rattle.std.specs.Prelude.{ℕ, ◌+◌, ◌-◌, ◌*◌, ◌/◌, ◌%◌, ◌^◌, ◌≤◌, List, map, ltb, ℤ, pos, take, get_or, replicate}
use Rattle.model.specs.Lists.{Pairs}
use Rattle.model.specs.Distance.{distance_of}
use Rattle.model.specs.Order.{sort_onto}
use Rattle.candidates.specs.declared.Candidate.{Candidate}

-- coordinates have 12 bits, an index eight
abbrev pub key_of : ℕ → ℕ → ℕ → ℕ → ℕ
key_of squared x y i = ((squared * 4096 + x) * 4096 + y) * 256 + i

-- the key of the point at index i of the arrays as it is read
abbrev pub key_at : List ℕ → List ℕ → List ℕ → ℕ → ℕ
key_at xs ys squares i = key_of (get_or squares i 0) (get_or xs i 0 % 4096) (get_or ys i 0 % 4096) i

abbrev pub squared_of : ℕ → ℕ
squared_of key = key / 2 ^ 32

-- what a key says, with D in place of d², and the value at its index
unfoldable pub candidate_of : List ℤ → ℕ → Candidate
unfolding distance_of
candidate_of zs key = record { x = key / 2 ^ 20 % 4096; y = key / 256 % 4096; z = get_or zs (key % 256) (pos 0); distance = distance_of (squared_of key) }

unfoldable pub Ascending : List ℕ → Type 0
Ascending l = Pairs (λ a b. a ≤ b) l

-- no key is greater
abbrev pub no_key : ℕ
no_key = 2 ^ 64 - 1

-- the first eleven keys of the points at the indices l, in order, and behind them no key
unfoldable pub first_keys : List ℕ → List ℕ → List ℕ → List ℕ → List ℕ
unfolding sort_onto
first_keys xs ys squares l = take 11 (sort_onto ltb (replicate 11 no_key) (map (key_at xs ys squares) l))
