-- Document 01, "The saved sheet", last paragraph: how `merge` takes a stream of bytes apart. Each message ends before the next `op=1` line,
-- LF included, or at the end; bytes ahead of the first are one too, no bytes are none.
-- Assumes nothing: these are definitions.
use Rattle.std.specs.Prelude.{ℕ, Bool, true, false, cond, List, [], ◌∷◌, ◌++◌, eqb}
use Rattle.meaning.specs.Ascii.{ascii, byte}
use Rattle.meaning.specs.Places.{before, equal, beyond, order}

-- a byte ahead of some pieces: it joins the first, or is one by itself
unfoldable pub ahead : List ℕ → List (List ℕ) → List (List ℕ)
ahead x [] = x ∷ []
ahead x (p ∷ ps) = (x ++ p) ∷ ps

-- the lines, each with its LF; the last may lack it
unfoldable pub lines : List ℕ → List (List ℕ)
lines [] = []
lines (b ∷ bs) = cond (eqb b (byte "\n")) ((b ∷ []) ∷ lines bs) (ahead (b ∷ []) (lines bs))

unfoldable pub is_op_line : List ℕ → Bool
is_op_line l = elim (order l (ascii "op=1\n")) [ before ↦ false | equal ↦ true | beyond ↦ false ]

-- a line joins the message of the next line, unless that one is an `op=1` line
unfoldable pub gather : List (List ℕ) → List (List ℕ)
gather [] = []
gather (l ∷ []) = l ∷ []
gather (l ∷ n ∷ ls) = cond (is_op_line n) (l ∷ gather (n ∷ ls)) (ahead l (gather (n ∷ ls)))

unfoldable pub messages : List ℕ → List (List ℕ)
messages bytes = gather (lines bytes)
