-- Document 01, "Ids, what was seen, what depends".
-- Assumes nothing: these are definitions.
use Rattle.std.specs.Prelude.{ℕ, ◌+◌, ◌*◌, ◌-◌, ◌/◌, ◌%◌, Bool, true, not, ◌&&◌, List, [], ◌∷◌, leb, ltb, eqb, get_or, set}

-- The id c.r is the number c * 8 + (r - 1). Ids are ordered by c, then by r, which is the order of these numbers.
abbrev pub id_of : ℕ → ℕ → ℕ
id_of c r = c * 8 + (r - 1)

abbrev pub counter_of : ℕ → ℕ
counter_of i = i / 8

-- `seen` and `deps` are lists of eight counters; the entry of terminal r is number r - 1, and this is that number
abbrev pub entry_of : ℕ → ℕ
entry_of i = i % 8

abbrev pub entry : List ℕ → ℕ → ℕ
entry s n = get_or s n 0

abbrev pub zeros : List ℕ
zeros = 0 ∷ 0 ∷ 0 ∷ 0 ∷ 0 ∷ 0 ∷ 0 ∷ 0 ∷ []

-- an id c.r is covered by d if c is at most entry r
unfoldable pub covered : List ℕ → ℕ → Bool
covered d i = leb (counter_of i) (entry d (entry_of i))

abbrev pub uncovered : List ℕ → ℕ → Bool
uncovered d i = not (covered d i)

-- each entry of the first is at most that of the second
unfoldable pub at_most : List ℕ → List ℕ → Bool
at_most [] s = true
at_most (x ∷ d) [] = leb x 0 && at_most d []
at_most (x ∷ d) (y ∷ s) = leb x y && at_most d s

-- each entry is below c
unfoldable pub all_below : ℕ → List ℕ → Bool
all_below c [] = true
all_below c (x ∷ d) = ltb x c && all_below c d

-- an operation with id i and deps d is ready: its own entry equals the seen one, each other is at most the seen one
unfoldable pub ready : List ℕ → ℕ → List ℕ → Bool
ready s i d = eqb (entry d (entry_of i)) (entry s (entry_of i)) && at_most d s

-- after operation c.r, seen entry r is c
abbrev pub raise : List ℕ → ℕ → List ℕ
raise s i = set s (entry_of i) (counter_of i)
